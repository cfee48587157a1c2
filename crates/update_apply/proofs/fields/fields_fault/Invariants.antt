use Rattle.std.proofs.Common.{◌≡◌, take, drop, []}
use Rattle.update_spec.specs.UpdateFields.{update_fields_fault}
use Rattle.update_apply.proofs.fields.fields_fault.Given as goal

abbrev pub invariant-loop-k : goal.invariant-loop-k
invariant-loop-k l = update_fields_fault l.nall l.kind (take l.k l.frame.fields) (drop l.k l.frame.fields) ≡ update_fields_fault l.nall l.kind []
    l.frame.fields
