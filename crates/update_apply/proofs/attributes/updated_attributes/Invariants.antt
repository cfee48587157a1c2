use Rattle.std.proofs.Common.{◌≡◌, fold, take}
use Rattle.update_spec.specs.UpdatedAttributes.{with_given}
use Rattle.update_apply.specs.CodedAttributes.{AreIndexed, present}
use Rattle.update_apply.proofs.attributes.updated_attributes.Given as goal

abbrev pub invariant-loop-attr : goal.invariant-loop-attr
invariant-loop-attr l = record {
  indexed : AreIndexed l.coded;
  attributes : present l.coded.slots.items ≡ fold (with_given l.level) l.attrs (take l.attr-index l.given);
}
