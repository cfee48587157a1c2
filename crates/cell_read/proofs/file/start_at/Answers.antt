use Rattle.std.proofs.Common.{◌≡◌, ◌≤◌, ◌+◌, true, false, length, Ok, refl, sym, ap, subst, ◌∙◌, arith}
use Rattle.file_spec.specs.DecodedCell.{decoded_cell, said_by_next}
use Rattle.file_spec.specs.FileRecords.{records_after}
use Rattle.file_spec.specs.RecordFaults.{◌>>=◌}
use Rattle.cell_read.specs.FileParts.{data_records}
use Rattle.cell_read.specs.Gives.{GivesStart, IsFaultAt}
use Rattle.cell_read.proofs.FileSteps.{decoded_parts, fault_stays, gives_fault_at, next-frame_fault, next-said}
use Rattle.cell_read.proofs.file.start_at.Goals as goal

pub returns-in-Ok : goal.returns-in-Ok
returns-in-Ok c = let b = c.args.bytes.now in let frame = c.in-Ok.descriptive in let end = length b in
    let behind : 0 + frame.length ≡ c.length.result = omega (arith, c.length.ensures) in
    let parts : decoded_cell b ≡ data_records end (records_after b c.length.result false) =
    decoded_parts end (records_after b 0 true)
    ∙ ap (λ said. said >>= λ d. data_records end d.1) (next-said 1 Ok b 0 true frame frame.fields (sym c.in-Ok.ensures.exact) refl)
    ∙ ap (λ n. data_records end (records_after b n false)) behind in
    subst (λ x. GivesStart b c.data_records_at.result x) (sym parts) c.data_records_at.ensures

pub returns-in-Err : goal.returns-in-Err
returns-in-Err c = let b = c.args.bytes.now in let end = length b in let e = c.from.result in let file = records_after b 0 true in
    let start : 0 ≤ end = omega arith in
    let first : IsFaultAt 1 0 e (said_by_next 1 end Ok file) =
    next-frame_fault 1 Ok b 0 true c.in-Err.fault e c.from.ensures start (sym c.in-Err.ensures.exact) in
    let whole : IsFaultAt 1 0 e (decoded_cell b) = subst (λ x. IsFaultAt 1 0 e x) (sym (decoded_parts end file))
    (fault_stays 1 0 e (said_by_next 1 end Ok file) (λ d. data_records end d.1) first) in
    gives_fault_at 1 0 e (decoded_cell b) c.at.result c.at.ensures whole
