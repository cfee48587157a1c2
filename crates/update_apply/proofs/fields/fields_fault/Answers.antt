use Rattle.std.proofs.Common.{◌≤◌, length, sym, ◌∙◌, arith}
use Rattle.update_apply.proofs.FieldWalk.{fault_end}
use Rattle.update_apply.proofs.fields.fields_fault.Goals as goal

pub returns : goal.returns
returns c = let past : length c.args.frame.now.fields ≤ c.loop-k.k = omega arith in
    sym (sym c.loop-k.invariant ∙ fault_end c.args.nall c.args.kind c.args.frame.now.fields c.loop-k.k past)
