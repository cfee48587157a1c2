use Rattle.std.proofs.Common.{rules, List, ℕ}
use Rattle.s57_fields.specs.Appending.{KeepsFront}
use Rattle.s57_fields.proofs.Fronts.{front_appended}
use Rattle.s57_fields.proofs.write.put_rows.Goals as goal

pub returns-in_err-put-clause-err : goal.returns-in_err-put-clause-err
returns-in_err-put-clause-err g c =
    let before : List ℕ = c.args.out.now.items in
    let begun : List ℕ = c.loop-row.out.items in
    let left : List ℕ = c.put.new.out.items in
    let here : KeepsFront before left = front_appended before _ begun left c.loop-row.invariant c.in_err-put.ensures.err in
    search rules
