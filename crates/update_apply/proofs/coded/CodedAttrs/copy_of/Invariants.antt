use Rattle.std.proofs.Common.{◌≡◌, take}
use Rattle.update_apply.specs.CodedAttributes.{AreIndexed, present}
use Rattle.update_apply.proofs.coded.CodedAttrs.copy_of.Given as goal

abbrev pub invariant-loop-attr : goal.invariant-loop-attr
invariant-loop-attr l = record {
  indexed : AreIndexed l.coded;
  attributes : present l.coded.slots.items ≡ take l.attr-index l.attrs;
}
