-- The records of a writable cell have at most 99,999 bytes.
use Rattle.std.proofs.Common.{◌≡◌, ◌≤◌, ℕ, true, List, refl, sym, ap, ◌∙◌, subst, arith}
use Rattle.std.specs.Prelude.{None}
use Rattle.frame_spec.specs.RecordFrame.{Field}
use Rattle.frame_spec.specs.WrittenRecord.{record_length, field_lengths}
use Rattle.s57_types.specs.Fitness.{is_fit_head, unfitness}
use Rattle.s57_types.specs.RecordFields.{identification_fields, parameter_fields, record_fields, written_length}
use Rattle.s57_types.specs.declared.cell.Cell.{Cell}
use Rattle.s57_types.specs.declared.head.Head.{Head}
use Rattle.s57_types.specs.declared.record.Rec.{Rec}
use Rattle.s57_types.specs.declared.record.Rec.TheVariants.{V, F, H}
use Rattle.file_spec.specs.DescriptiveRecord.{descriptive_fields}
use Rattle.file_spec.specs.EncodedCell.{record_counts}
use Rattle.file_spec.proofs.CellFields.{descriptive_length, head_fits, fit_is_found}
use Rattle.frame_write.specs.OutFields.{fields_of, lengths_of}
use Rattle.frame_write.specs.declared.field.OutField.{OutField}

-- fields to write are short where those that they stand for are
pub short_as : (slice items : List OutField) (fields : List Field) → slice ≡ items → fields_of items ≡ fields → record_length (field_lengths fields) ≤ 99999
    → record_length (lengths_of slice) ≤ 99999
short_as slice items fields same named short = subst (λ (f : List Field). record_length (field_lengths f) ≤ 99999) (sym (ap fields_of same ∙ named)) short

pub identification_short : (n : ℕ) (c : Cell) → is_fit_head c.head ≡ true
    → record_length (field_lengths (identification_fields n c.head (record_counts c))) ≤ 99999
identification_short n c fit = (head_fits c.head fit).0

pub parameters_short : (n : ℕ) (h : Head) → is_fit_head h ≡ true → record_length (field_lengths (parameter_fields n h)) ≤ 99999
parameters_short n h fit = (head_fits h fit).1

-- the number of a record doesn't change its length
same_length : (nall n : ℕ) (r : Rec) → record_length (field_lengths (record_fields nall n r)) ≡ written_length nall r
same_length nall n (V v) = refl
same_length nall n (F f) = refl
same_length nall n (H h) = refl

pub record_short : (nall n : ℕ) (r : Rec) → unfitness nall r ≡ None → record_length (field_lengths (record_fields nall n r)) ≤ 99999
record_short nall n r fit = subst (λ (k : ℕ). k ≤ 99999) (sym (same_length nall n r)) (fit_is_found nall r fit).short

-- the data descriptive record has the same length at each level
pub descriptive_short : (aall nall : ℕ) → record_length (field_lengths (descriptive_fields aall nall)) ≤ 99999
descriptive_short aall nall = subst (λ (n : ℕ). n ≤ 99999) (sym (descriptive_length aall nall)) (omega arith)
