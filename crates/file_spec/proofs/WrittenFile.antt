-- The records of a file that was written are found.
use Rattle.std.proofs.Common.{◌≡◌, ◌≤◌, ◌<◌, ℕ, ◌+◌, ◌-◌, Bool, true, false, List, [], ◌∷◌, ◌++◌, length, take, drop, Ok, sym, ap, ◌∙◌, subst, arith}
use Rattle.std.proofs.Common.{append_assoc}
use Rattle.std.specs.List.{AllByRecursion}
use Rattle.std.proofs.Math.Seq.{take-append_seam, drop-append_seam}
use Rattle.std.proofs.lemmas.List.{length-append}
use Rattle.frame_spec.specs.RecordFrame.{Field, FrameView}
use Rattle.frame_spec.specs.FrameDecision.{frame_at}
use Rattle.frame_spec.specs.WrittenRecord.{CanBeWritten, StandsAt, written_record, record_length, field_lengths}
use Rattle.frame_spec.proofs.FrameTests.{answer_is}
use Rattle.frame_spec.proofs.WrittenSizes.{written_has_length, written_is_read}
use Rattle.file_spec.specs.FileRecords.{record_then, records_after}
use Rattle.file_spec.specs.WrittenFile.{written_records, placed_records, WrittenRecordsAreFound}
use Rattle.file_spec.proofs.RecordSteps.{records_after-end, records_after-next}

-- bytes between others stand at their place
stands_between : (before x after : List ℕ) → StandsAt (before ++ (x ++ after)) (length before) x
stands_between before x after =
    let size : length before + length x - length before ≡ length x = omega arith in
    ap (λ n. take n (drop (length before) (before ++ (x ++ after)))) size ∙ ap (take (length x)) (drop-append_seam before (x ++ after))
    ∙ take-append_seam x after

found_between : (before after : List ℕ) (first : Bool) (fields : List Field) → CanBeWritten fields
    → frame_at (before ++ (written_record first fields ++ after)) (length before) first ≡ Ok
    (record { length = record_length (field_lengths fields); fields = fields })
found_between before after first fields can =
    sym (answer_is _ _ first (Ok _) (written_is_read _ _ first fields can (stands_between before (written_record first fields) after)))

records_found : (before : List ℕ) (first : Bool) (records : List (List Field)) → AllByRecursion CanBeWritten records
    → records_after (before ++ written_records first records) (length before) first ≡ placed_records (length before) records
records_found before first [] can = records_after-end (before ++ []) (length before) first (omega (arith, length-append before []))
records_found before first (fields ∷ records) can =
    let w : List ℕ = written_record first fields in
    let others : List ℕ = written_records false records in
    let size : ℕ = record_length (field_lengths fields) in
    let long : length w ≡ size = written_has_length first fields can.0 in
    let some : 25 ≤ size = omega arith in
    let within : length before < length (before ++ (w ++ others)) = omega (arith, length-append before (w ++ others), length-append w others, long, some) in
    let place : length (before ++ w) ≡ length before + size = length-append before w ∙ ap (λ n. length before + n) long in
    let more : records_after (before ++ w ++ others) (length (before ++ w)) false ≡ placed_records (length (before ++ w)) records =
    records_found (before ++ w) false records can.1 in
    let same : before ++ w ++ others ≡ before ++ (w ++ others) = append_assoc before w others in
    let rest : records_after (before ++ (w ++ others)) (length before + size) false ≡ placed_records (length before + size) records =
    subst (λ n. records_after (before ++ (w ++ others)) n false ≡ placed_records n records) place
    (subst (λ b. records_after b (length (before ++ w)) false ≡ placed_records (length (before ++ w)) records) same more) in
    records_after-next (before ++ (w ++ others)) (length before) first within
    ∙ ap (record_then (λ (frame : FrameView). records_after (before ++ (w ++ others)) (length before + frame.length) false) (length before))
    (found_between before others first fields can.0)
    ∙ ap (λ found. record { offset = length before; found = Ok (record { length = size; fields = fields }) } ∷ found) rest

pub written_records_found : WrittenRecordsAreFound
written_records_found records can = records_found [] true records can
