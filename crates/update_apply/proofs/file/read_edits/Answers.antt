use Rattle.std.proofs.Common.{◌≡◌, ◌≤◌, ◌+◌, true, false, length, Ok, refl, sym, ap, subst, ◌∙◌, arith}
use Rattle.file_spec.specs.FileRecords.{records_after}
use Rattle.file_spec.specs.RecordFaults.{◌>>=◌}
use Rattle.update_spec.specs.UpdatedCell.{edits_of_update, told_by_next}
use Rattle.update_apply.specs.FileParts.{edits_of_data}
use Rattle.update_apply.specs.Gives.{GivesFile, RefusesAt}
use Rattle.update_apply.proofs.FileSteps.{update_parts, next-frame_fault, next-said}
use Rattle.update_apply.proofs.Steps.{fault_stays, refuses_at}
use Rattle.update_apply.proofs.file.read_edits.Goals as goal

pub returns-in-Ok : goal.returns-in-Ok
returns-in-Ok c = let b = c.args.update.now.bytes.now in let frame = c.in-Ok.descriptive in let end = length b in let cell = c.args.update.now.cell.now in
    let behind : 0 + frame.length ≡ c.length.result = omega (arith, c.length.ensures) in
    let parts : edits_of_update cell b ≡ edits_of_data cell end (records_after b c.length.result false) =
    update_parts cell end (records_after b 0 true)
    ∙ ap (λ said. said >>= λ d. edits_of_data cell end d.1) (next-said 1 Ok b 0 true frame frame.fields (sym c.in-Ok.ensures.exact) refl)
    ∙ ap (λ n. edits_of_data cell end (records_after b n false)) behind in
    subst (λ x. GivesFile c.read_data.result x) (sym parts) c.read_data.ensures

pub returns-in-Err : goal.returns-in-Err
returns-in-Err c = let b = c.args.update.now.bytes.now in let end = length b in let e = c.from.result in let file = records_after b 0 true in
    let cell = c.args.update.now.cell.now in
    let start : 0 ≤ end = omega arith in
    let first : RefusesAt 1 0 e (told_by_next 1 end Ok file) =
    next-frame_fault 1 Ok b 0 true c.in-Err.fault e c.from.ensures start (sym c.in-Err.ensures.exact) in
    let whole : RefusesAt 1 0 e (edits_of_update cell b) = subst (λ x. RefusesAt 1 0 e x) (sym (update_parts cell end file))
    (fault_stays 1 0 e (told_by_next 1 end Ok file) (λ d. edits_of_data cell end d.1) first) in
    refuses_at 1 0 e (edits_of_update cell b) c.at.result c.at.ensures whole
