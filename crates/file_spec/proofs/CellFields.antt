-- The records of a writable cell can be written, and are those of its file.
use Rattle.std.proofs.Common.{◌≡◌, ◌≤◌, ◌<◌, ℕ, ◌+◌, Bool, true, false, ◌&&◌, List, [], ◌∷◌, ◌++◌, length, map, refl, sym, ap, ◌∙◌, subst, arith, append_assoc}
use Rattle.std.specs.Prelude.{All, Some, None, ◌==◌, if◌then◌else◌, codes, not, nat_lt}
use Rattle.std.specs.List.{AllByRecursion, enumerate_from, flat_map}
use Rattle.std.specs.Fmt.{digits}
use Rattle.std.proofs.lemmas.Bool.{leb-true, ltb-false}
use Rattle.std.proofs.lemmas.List.{length-append}
use Rattle.std.proofs.lemmas.List.Elements.{All-append, All-cons, All-nil, All-from_recursion, recursion_from_All}
use Rattle.frame_spec.specs.RecordFrame.{Field}
use Rattle.frame_spec.specs.WrittenRecord.{CanBeWritten, record_length, field_lengths, written_record}
use Rattle.s57_types.specs.Fitness.{is_fit_head, unfitness, has_good_names, has_good_texts}
use Rattle.s57_types.specs.RecordFields.{number_field, dsid_of_head, dssi_of_head, dspm_of_head, identification_fields, parameter_fields, record_fields}
use Rattle.s57_types.specs.RecordFields.{rows_field, field_of, written_length, identification_length, length_limit}
use Rattle.s57_types.specs.FieldRows.{number_row, dsid_row, dssi_row, dspm_row, vrid_row, frid_row, foid_row, attribute_row, partner_row, place_row, end_row}
use Rattle.s57_types.specs.FieldRows.{plane_row, deep_row}
use Rattle.s57_types.specs.Subfield.{Subfield, row_bytes, field_terminator}
use Rattle.s57_types.specs.declared.fault.Unfit.TheVariants.{TooLong, BadText, BadName}
use Rattle.s57_types.specs.declared.cell.Cell.{Cell}
use Rattle.s57_types.specs.declared.head.Head.{Head}
use Rattle.s57_types.specs.declared.record.Rec.{Rec}
use Rattle.s57_types.specs.declared.record.Rec.TheVariants.{V, F, H}
use Rattle.cell_spec.specs.Lookup.{all_records}
use Rattle.cell_spec.specs.Writable.{IsWritable}
use Rattle.file_spec.specs.DescriptiveRecord.{Description, structure_controls, level_controls, label_text, description_field, descriptions, descriptive_fields}
use Rattle.file_spec.specs.EncodedCell.{encoded_cell, record_bytes, records_bytes, record_counts, record_number}
use Rattle.file_spec.specs.FieldTags.{tag_text}
use Rattle.file_spec.specs.FileRecords.{file_records}
use Rattle.file_spec.specs.declared.tag.FieldTag.{FieldTag}
use Rattle.file_spec.specs.declared.tag.FieldTag.TheVariants.{RecordNumber, Dsid, Dssi, Dspm, Frid, Foid, Attf, Natf, Ffpt, Fspt, Vrid, Attv, Vrpt, Sg2d, Sg3d}
use Rattle.file_spec.specs.WrittenFile.{written_records, fields_of_cell, CellRecordsAreFound}
use Rattle.file_spec.proofs.WrittenFile.{written_records_found}

-- a tag of four bytes, and a field that isn't empty
pub record IsWhole (f : Field) : Type 0 where
  pub tag : length f.tag ≡ 4
  pub some : 0 < length f.bytes

can_be_written : (fields : List Field) → AllByRecursion IsWhole fields → record_length (field_lengths fields) ≤ 99999 → CanBeWritten fields
can_be_written fields whole fits = record {
  tags = λ k d h. (All-from_recursion IsWhole fields whole k d h).tag;
  not_empty = λ k d h. (All-from_recursion IsWhole fields whole k d h).some;
  fits = fits;
}

ends : (x : List ℕ) (b : ℕ) (y : List ℕ) → 0 < length (x ++ (b ∷ y))
ends x b y = omega (arith, length-append x (b ∷ y))

row_whole : (tag : List ℕ) (row : List Subfield) → length tag ≡ 4 → IsWhole (field_of tag row)
row_whole tag row four = record { tag = four; some = ends (row_bytes row) field_terminator [] }

-- the data descriptive record
length_level : (level : ℕ) → length (level_controls level) ≡ 3
length_level level = by (level == 2) (level == 1)
  where
    by : (two one : Bool) → length (if two then codes "%/A" else (if one then codes "-A " else codes "   ")) ≡ 3
    by true one = refl
    by false true = refl
    by false false = refl

-- how long a description is, whatever its level
counted : Description → ℕ
counted d = length (structure_controls d.structure) + 3 + length d.name + 1 + length (label_text d.structure d.labels) + 1 + length d.formats + 1

description_length : (d : Description) → length (description_field d).bytes ≡ counted d
unfolding counted
description_length d = simp length-append (omega (arith, length_level d.level))

descriptions_lengths : (ds : List Description) → field_lengths (map description_field ds) ≡ map counted ds
descriptions_lengths [] = refl
descriptions_lengths (d ∷ ds) = ap (λ n. n ∷ field_lengths (map description_field ds)) (description_length d)
    ∙ ap (λ ns. counted d ∷ ns) (descriptions_lengths ds)

pub descriptive_length : (aall nall : ℕ) → record_length (field_lengths (descriptive_fields aall nall)) ≡ 1578
unfolding digits counted
descriptive_length aall nall = ap (λ (ns : List ℕ). record_length (123 ∷ ns)) (descriptions_lengths (descriptions aall nall))

described_whole : (d : Description) → length (tag_text d.tag) ≡ 4 → IsWhole (description_field d)
unfolding counted
described_whole d four = record { tag = four; some = let is = description_length d in omega (arith, is) }

tag_length : (tag : FieldTag) → length (tag_text tag) ≡ 4
tag_length RecordNumber = refl
tag_length Dsid = refl
tag_length Dssi = refl
tag_length Dspm = refl
tag_length Frid = refl
tag_length Foid = refl
tag_length Attf = refl
tag_length Natf = refl
tag_length Ffpt = refl
tag_length Fspt = refl
tag_length Vrid = refl
tag_length Attv = refl
tag_length Vrpt = refl
tag_length Sg2d = refl
tag_length Sg3d = refl

descriptions_whole : (ds : List Description) → AllByRecursion IsWhole (map description_field ds)
descriptions_whole [] = tt
descriptions_whole (d ∷ ds) = (described_whole d (tag_length d.tag), descriptions_whole ds)

descriptive_can : (aall nall : ℕ) → CanBeWritten (descriptive_fields aall nall)
descriptive_can aall nall =
    can_be_written (descriptive_fields aall nall) (record { tag = refl; some = omega arith }, descriptions_whole (descriptions aall nall))
    (omega (arith, descriptive_length aall nall))

-- the head records
pub both : (x y : Bool) → (x && y) ≡ true → (x ≡ true) × (y ≡ true)
both true y e = (refl, e)
both false y e = absurd cc

pub head_fits : (h : Head) → is_fit_head h ≡ true → (identification_length h ≤ 99999) × (record_length (field_lengths (parameter_fields 0 h)) ≤ 99999)
unfolding is_fit_head
head_fits h fit =
    let last = both _ _ fit in
    let first = both _ _ last.0 in
    (leb-true _ _ first.1, leb-true _ _ last.1)

identification_can : (h : Head) (n : ℕ) (c : Cell) → is_fit_head h ≡ true → CanBeWritten (identification_fields n h (record_counts c))
identification_can h n c fit = can_be_written (identification_fields n h (record_counts c)) (
  row_whole (codes "0001") (number_row n) refl,
  (
    row_whole (codes "DSID") (dsid_row (dsid_of_head h)) refl,
    (row_whole (codes "DSSI") (dssi_row (dssi_of_head h (record_counts c))) refl, tt),
  ),
)
    (head_fits h fit).0

parameter_can : (h : Head) (n : ℕ) → is_fit_head h ≡ true → CanBeWritten (parameter_fields n h)
parameter_can h n fit = can_be_written (parameter_fields n h) (
  row_whole (codes "0001") (number_row n) refl,
  (row_whole (codes "DSPM") (dspm_row (dspm_of_head h)) refl, tt),
) (head_fits h fit).1

-- vector and feature records
rows_whole : {X : Type 0} (level : ℕ) (tag : List ℕ) (row : X → List Subfield) (xs : List X) → length tag ≡ 4 → All IsWhole (rows_field level tag row xs)
rows_whole level tag row [] four = All-nil IsWhole
rows_whole level tag row (x ∷ xs) four = All-cons IsWhole _ [] (record { tag = four; some = by (level == 2) }) (All-nil IsWhole)
  where
    by : (two : Bool) → 0 < length (flat_map (λ y. row_bytes (row y)) (x ∷ xs) ++ (if two then field_terminator ∷ 0 ∷ [] else field_terminator ∷ []))
    by true = ends (flat_map (λ y. row_bytes (row y)) (x ∷ xs)) field_terminator (0 ∷ [])
    by false = ends (flat_map (λ y. row_bytes (row y)) (x ∷ xs)) field_terminator []

whole_five : (a b c d e : List Field) → AllByRecursion IsWhole a → All IsWhole b → All IsWhole c → All IsWhole d → All IsWhole e
    → All IsWhole (a ++ b ++ c ++ d ++ e)
whole_five a b c d e a_whole b_whole c_whole d_whole e_whole =
    All-append IsWhole (a ++ b ++ c ++ d) e
    (All-append IsWhole (a ++ b ++ c) d (All-append IsWhole (a ++ b) c (All-append IsWhole a b (All-from_recursion IsWhole a a_whole) b_whole)
    c_whole) d_whole) e_whole

record_whole : (nall n : ℕ) (r : Rec) → All IsWhole (record_fields nall n r)
record_whole nall n (V v) =
    let identifier : List Subfield = vrid_row (record { name = v.name; rver = v.rver; ruin = 1 }) in
    whole_five (number_field n ∷ field_of (codes "VRID") identifier ∷ []) (rows_field 0 (codes "ATTV") (attribute_row 0) v.attrs)
    (rows_field 0 (codes "VRPT") end_row v.ends)
    (rows_field 0 (codes "SG2D") plane_row v.plane) (rows_field 0 (codes "SG3D") deep_row v.deep)
    (row_whole (codes "0001") (number_row n) refl, (row_whole (codes "VRID") identifier refl, tt))
    (rows_whole 0 (codes "ATTV") (attribute_row 0) v.attrs refl) (rows_whole 0 (codes "VRPT") end_row v.ends refl)
    (rows_whole 0 (codes "SG2D") plane_row v.plane refl) (rows_whole 0 (codes "SG3D") deep_row v.deep refl)
record_whole nall n (F f) =
    let identifier : List Subfield = frid_row (record { rcid = f.name.id; prim = f.prim; grup = f.grup; objl = f.objl; rver = f.rver; ruin = 1 }) in
    whole_five (number_field n ∷ field_of (codes "FRID") identifier ∷ field_of (codes "FOID") (foid_row f.foid) ∷ [])
    (rows_field 0 (codes "ATTF") (attribute_row 0) f.attf) (rows_field nall (codes "NATF") (attribute_row nall) f.natf)
    (rows_field 0 (codes "FFPT") partner_row f.partners) (rows_field 0 (codes "FSPT") place_row f.places)
    (row_whole (codes "0001") (number_row n) refl, (row_whole (codes "FRID") identifier refl, (row_whole (codes "FOID") (foid_row f.foid) refl, tt)))
    (rows_whole 0 (codes "ATTF") (attribute_row 0) f.attf refl) (rows_whole nall (codes "NATF") (attribute_row nall) f.natf refl)
    (rows_whole 0 (codes "FFPT") partner_row f.partners refl) (rows_whole 0 (codes "FSPT") place_row f.places refl)
record_whole nall n (H h) = All-nil IsWhole

-- the number of a record doesn't change its length
same_length : (nall n : ℕ) (r : Rec) → record_length (field_lengths (record_fields nall n r)) ≡ written_length nall r
same_length nall n (V v) = refl
same_length nall n (F f) = refl
same_length nall n (H h) = refl

-- what a record that can be written is found to be
pub record IsFound (nall : ℕ) (r : Rec) : Type 0 where
  pub names : has_good_names r ≡ true
  pub texts : has_good_texts nall r ≡ true
  pub short : written_length nall r ≤ 99999

pub fit_is_found : (nall : ℕ) (r : Rec) → unfitness nall r ≡ None → IsFound nall r
unfolding unfitness
fit_is_found nall r fit = by (has_good_names r) (has_good_texts nall r) (nat_lt length_limit (written_length nall r)) refl refl refl fit
  where
    by : (names texts long : Bool) → has_good_names r ≡ names → has_good_texts nall r ≡ texts → nat_lt length_limit (written_length nall r) ≡ long
        → (if not names then Some BadName else (if not texts then Some BadText else (if long then Some TooLong else None))) ≡ None → IsFound nall r
    by true true false names texts long e = record { names = names; texts = texts; short = ltb-false _ _ long }
    by true true true names texts long e = absurd cc
    by true false long names texts is e = absurd cc
    by false texts long names is short e = absurd cc

record_can : (nall n : ℕ) (r : Rec) → unfitness nall r ≡ None → CanBeWritten (record_fields nall n r)
record_can nall n r fit = can_be_written (record_fields nall n r) (recursion_from_All IsWhole _ (record_whole nall n r))
    (subst (λ (k : ℕ). k ≤ 99999) (sym (same_length nall n r)) (fit_is_found nall r fit).short)

records_can : (nall n : ℕ) (records : List Rec) → AllByRecursion (λ r. unfitness nall r ≡ None) records
    → AllByRecursion CanBeWritten (map (λ (p : ℕ × Rec). record_fields nall (record_number p.0) p.1) (enumerate_from n records))
records_can nall n [] fit = tt
records_can nall n (r ∷ records) fit = (record_can nall (record_number n) r fit.0, records_can nall (n + 1) records fit.1)

cell_can : (c : Cell) → IsWritable c → AllByRecursion CanBeWritten (fields_of_cell c)
cell_can c w = (
  descriptive_can c.head.aall c.head.nall,
  (
    identification_can c.head 1 c w.head_fits,
    (
      parameter_can c.head 2 w.head_fits,
      records_can c.head.nall 3 (all_records c) (recursion_from_All _ (all_records c) w.records_fit),
    ),
  ),
)

-- the file of a cell is its records one after the other
following_are : (nall : ℕ) (records : List (ℕ × Rec)) → flat_map (λ (p : ℕ × Rec). record_bytes nall p.0 p.1) records ≡ written_records false
    (map (λ (p : ℕ × Rec). record_fields nall (record_number p.0) p.1) records)
following_are nall [] = refl
following_are nall (p ∷ records) = ap (λ b. record_bytes nall p.0 p.1 ++ b) (following_are nall records)

encoded_is : (c : Cell) → encoded_cell c ≡ written_records true (fields_of_cell c)
unfolding encoded_cell
encoded_is c =
    let first : List ℕ = written_record true (descriptive_fields c.head.aall c.head.nall) in
    let second : List ℕ = written_record false (identification_fields 1 c.head (record_counts c)) in
    let third : List ℕ = written_record false (parameter_fields 2 c.head) in
    let others : List ℕ = records_bytes c.head.nall 3 (all_records c) in
    append_assoc first (second ++ third) others ∙ ap (λ b. first ++ b) (append_assoc second third others)
    ∙ ap (λ b. first ++ (second ++ (third ++ b))) (following_are c.head.nall (enumerate_from 3 (all_records c)))

pub cell_records_found : CellRecordsAreFound
cell_records_found c w = ap file_records (encoded_is c) ∙ written_records_found (fields_of_cell c) (cell_can c w)
