-- The lengths of the head records.
use Rattle.std.proofs.Common.{◌≡◌, ℕ, ◌+◌, ◌*◌, List, [], ◌∷◌, ◌++◌, codes, length, map, refl, sym, ◌∙◌, ap, arith, leb, length-append}
use Rattle.frame_spec.specs.WrittenRecord.{record_length, field_lengths}
use Rattle.s57_types.specs.Subfield.{unsigned_of, row_bytes, field_terminator}
use Rattle.s57_types.specs.FieldRows.{dsid_row, dssi_row, dspm_row}
use Rattle.s57_types.specs.RecordFields.{number_field, field_of, length_limit}
use Rattle.s57_types.specs.declared.field.Dsid.{Dsid}
use Rattle.s57_types.specs.declared.field.Dssi.{Dssi}
use Rattle.s57_types.specs.declared.field.Dspm.{Dspm}
use Rattle.record_fit.specs.Lengths.{saturated, present, is_within_limit}
use Rattle.record_fit.proofs.PresentFields.{present-some}
use Rattle.record_fit.proofs.RecordLengths.{limit-saturated, length-saturated, within_limit-saturated}

-- numbers of 11 bytes, six texts and three fixed texts
pub dsid_length : (d : Dsid) → length (row_bytes (dsid_row d))
    ≡ length d.dsnm + length d.edtn + length d.updn + (length d.uadt + length d.isdt + length d.sted) + (length d.psdn + length d.pred + length d.comt) + 17
dsid_length d = simp length-append (omega arith)

pub dspm_length : (p : Dspm) → length (row_bytes (dspm_row p)) ≡ length p.comt + 25
dspm_length p = simp length-append (omega arith)

counts_length : (counts : List ℕ) → length (row_bytes (map (unsigned_of 4) counts)) ≡ 4 * length counts
counts_length [] = refl
counts_length (n ∷ counts) = let more = counts_length counts in omega (arith, more)

-- three numbers of one byte and eight counts
dssi_length : (s : Dssi) → length s.counts ≡ 8 → length (row_bytes (dssi_row s) ++ (field_terminator ∷ [])) ≡ 36
dssi_length s eight =
    let more = counts_length s.counts in
    length-append (row_bytes (dssi_row s)) (field_terminator ∷ []) ∙ omega (arith, more, eight)

pub identification_is_counted : (d : Dsid) (s : Dssi) (field : ℕ) → length s.counts ≡ 8 → field ≡ saturated (length (row_bytes (dsid_row d)) + 1)
    → saturated (record_length (present (3 ∷ field ∷ 36 ∷ []))) ≡ saturated
    (record_length (field_lengths (number_field 0 ∷ field_of (codes "DSID") (dsid_row d) ∷ field_of (codes "DSSI") (dssi_row s) ∷ [])))
identification_is_counted d s field eight counted =
    let row = row_bytes (dsid_row d) in
    ap (λ n. saturated (record_length (present (3 ∷ n ∷ 36 ∷ [])))) counted
    ∙ length-saturated (3 ∷ (length row + 1) ∷ 36 ∷ [])
    ∙ ap (λ ns. saturated (record_length (3 ∷ ns))) (present-some (length row + 1) (36 ∷ []) (omega arith))
    ∙ sym (ap (λ n. saturated (record_length (3 ∷ n ∷ 36 ∷ []))) (length-append row (field_terminator ∷ [])))
    ∙ sym (ap (λ n. saturated (record_length (3 ∷ length (row ++ (field_terminator ∷ [])) ∷ n ∷ []))) (dssi_length s eight))

pub identification_is_short : (d : Dsid) (s : Dssi) (field : ℕ) → length s.counts ≡ 8 → field ≡ saturated (length (row_bytes (dsid_row d)) + 1)
    → is_within_limit (3 ∷ field ∷ 36 ∷ []) ≡ leb (record_length
    (field_lengths (number_field 0 ∷ field_of (codes "DSID") (dsid_row d) ∷ field_of (codes "DSSI") (dssi_row s) ∷ []))) length_limit
identification_is_short d s field eight counted =
    sym (limit-saturated (record_length (present (3 ∷ field ∷ 36 ∷ [])))) ∙ ap (λ n. leb n length_limit) (identification_is_counted d s field eight counted)
    ∙ limit-saturated (record_length (field_lengths (number_field 0 ∷ field_of (codes "DSID") (dsid_row d) ∷ field_of (codes "DSSI") (dssi_row s) ∷ [])))

pub parameters_are_short : (p : Dspm) (field : ℕ) → field ≡ saturated (length (row_bytes (dspm_row p)) + 1)
    → is_within_limit (3 ∷ field ∷ []) ≡ leb (record_length (field_lengths (number_field 0 ∷ field_of (codes "DSPM") (dspm_row p) ∷ []))) length_limit
parameters_are_short p field counted =
    let row = row_bytes (dspm_row p) in
    ap (λ n. is_within_limit (3 ∷ n ∷ [])) counted
    ∙ within_limit-saturated (3 ∷ (length row + 1) ∷ [])
    ∙ ap (λ ns. leb (record_length (3 ∷ ns)) length_limit) (present-some (length row + 1) [] (omega arith))
    ∙ sym (ap (λ n. leb (record_length (3 ∷ n ∷ [])) length_limit) (length-append row (field_terminator ∷ [])))
