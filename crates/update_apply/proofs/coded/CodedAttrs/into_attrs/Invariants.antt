use Rattle.std.proofs.Common.{◌≡◌}
use Rattle.update_apply.specs.CodedAttributes.{present}
use Rattle.update_apply.proofs.coded.CodedAttrs.into_attrs.Given as goal

abbrev pub invariant-loop-slot : goal.invariant-loop-slot
invariant-loop-slot l = l.attrs.items ≡ present l.yielded
