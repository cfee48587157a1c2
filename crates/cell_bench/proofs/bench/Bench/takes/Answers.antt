use Rattle.std.proofs.Common.{◌≡◌, None, sym, subst}
use Rattle.s57_types.specs.declared.cell.Cell.{Cell}
use Rattle.cell_bench.specs.Refusals.{IsRecordsRefusal, records_refusal}
use Rattle.cell_bench.proofs.Refused.{taken_so, untaken_so}
use Rattle.cell_bench.proofs.bench.Bench.takes.Goals as goal

pub returns-in-Ok-clause-taken : goal.returns-in-Ok-clause-taken
returns-in-Ok-clause-taken g c =
    let edits = c.args.edits.now.edits in
    let none = subst (λ (d : Cell). records_refusal d edits ≡ None) c.store.ensures c.in-Ok.ensures.taken in
    sym (taken_so c.refusals_tell_what_a_cell_takes.ensures c.args.self.now edits none)

pub returns-in-Err-State-clause-taken : goal.returns-in-Err-State-clause-taken
returns-in-Err-State-clause-taken g c =
    let edits = c.args.edits.now.edits in
    let refused = subst (λ (d : Cell). IsRecordsRefusal d edits c.in-Err-State.field-0) c.store.ensures c.in-Err-State.ensures.taken in
    sym (untaken_so c.refusals_tell_what_a_cell_takes.ensures c.args.self.now edits c.in-Err-State.field-0-0
    (subst (IsRecordsRefusal c.args.self.now edits) c.in-Err-State.field-0-is refused))
