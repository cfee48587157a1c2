use Rattle.std.proofs.Common.{rules, List, ℕ}
use Rattle.s57_fields.specs.Appending.{KeepsFront}
use Rattle.s57_fields.proofs.Fronts.{front_appended}
use Rattle.s57_fields.proofs.spell.put_row.Goals as goal

pub returns-in_err-put_value-clause-err : goal.returns-in_err-put_value-clause-err
returns-in_err-put_value-clause-err c =
    let before : List ℕ = c.args.out.now.items in
    let begun : List ℕ = c.loop-value.out.items in
    let left : List ℕ = c.put_value.new.out.items in
    let here : KeepsFront before left = front_appended before _ begun left c.loop-value.invariant c.in_err-put_value.ensures.err in
    search rules
