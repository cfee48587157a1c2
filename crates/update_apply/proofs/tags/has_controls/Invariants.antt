use Rattle.std.proofs.Common.{◌≡◌, take}
use Rattle.update_spec.specs.ControlFields.{has_controls}
use Rattle.update_apply.proofs.tags.has_controls.Given as goal

abbrev pub invariant-loop-k : goal.invariant-loop-k
invariant-loop-k l = l.has_one ≡ has_controls l.kind (take l.k l.frame.fields)
