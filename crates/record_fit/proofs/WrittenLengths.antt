-- Whether a written record is within the limit, from the lengths of its fields.
use Rattle.std.proofs.Common.{◌≡◌, ℕ, ◌*◌, [], ◌∷◌, length, refl, sym, ◌∙◌, ap, arith, leb}
use Rattle.frame_spec.specs.WrittenRecord.{record_length}
use Rattle.s57_types.specs.FieldRows.{attribute_row, partner_row, end_row, plane_row, deep_row, place_row}
use Rattle.s57_types.specs.RecordFields.{written_length, length_limit}
use Rattle.s57_types.specs.declared.record.Vector.{Vector}
use Rattle.s57_types.specs.declared.record.Feature.{Feature}
use Rattle.s57_types.specs.declared.record.Rec.TheVariants.{V, F}
use Rattle.record_fit.specs.Lengths.{saturated, field_length, rows_length, is_within_limit}
use Rattle.record_fit.proofs.RowLengths.{rows_length_of_width}
use Rattle.record_fit.proofs.PresentFields.{vector_lengths, feature_lengths}
use Rattle.record_fit.proofs.RecordLengths.{within_limit-saturated}

same_four : (a b c d e f g h : ℕ) → a ≡ e → b ≡ f → c ≡ g → d ≡ h → (a ∷ b ∷ c ∷ d ∷ []) ≡ (e ∷ f ∷ g ∷ h ∷ [])
same_four a b c d e f g h p q r s = cc

pub vector_is_short : (nall : ℕ) (v : Vector) (attrs ends plane deep : ℕ)
    → attrs ≡ saturated (rows_length 0 (attribute_row 0) v.attrs) → ends ≡ saturated (field_length (length v.ends * 9) 1)
    → plane ≡ saturated (field_length (length v.plane * 8) 1) → deep ≡ saturated (field_length (length v.deep * 12) 1)
    → is_within_limit (3 ∷ 9 ∷ attrs ∷ ends ∷ plane ∷ deep ∷ []) ≡ leb (written_length nall (V v)) length_limit
vector_is_short nall v attrs ends plane deep p q r s =
    ap (λ ns. is_within_limit (3 ∷ 9 ∷ ns))
    (same_four attrs ends plane deep (saturated (rows_length 0 (attribute_row 0) v.attrs)) (saturated (rows_length 0 end_row v.ends))
    (saturated (rows_length 0 plane_row v.plane)) (saturated (rows_length 0 deep_row v.deep))
    p
    (q ∙ sym (ap saturated (rows_length_of_width end_row 9 (omega arith) (λ e. refl) v.ends)))
    (r ∙ sym (ap saturated (rows_length_of_width plane_row 8 (omega arith) (λ e. refl) v.plane)))
    (s ∙ sym (ap saturated (rows_length_of_width deep_row 12 (omega arith) (λ e. refl) v.deep))))
    ∙ within_limit-saturated (3 ∷ 9 ∷ rows_length 0 (attribute_row 0) v.attrs ∷ rows_length 0 end_row v.ends ∷ rows_length
    0 plane_row v.plane ∷ rows_length 0 deep_row v.deep ∷ [])
    ∙ ap (λ ns. leb (record_length ns) length_limit) (sym (vector_lengths v))

pub feature_is_short : (nall : ℕ) (f : Feature) (attf natf partners places : ℕ)
    → attf ≡ saturated (rows_length 0 (attribute_row 0) f.attf) → natf ≡ saturated (rows_length nall (attribute_row nall) f.natf)
    → partners ≡ saturated (rows_length 0 partner_row f.partners) → places ≡ saturated (field_length (length f.places * 8) 1)
    → is_within_limit (3 ∷ 13 ∷ 9 ∷ attf ∷ natf ∷ partners ∷ places ∷ []) ≡ leb (written_length nall (F f)) length_limit
feature_is_short nall f attf natf partners places p q r s =
    ap (λ ns. is_within_limit (3 ∷ 13 ∷ 9 ∷ ns))
    (same_four attf natf partners places (saturated (rows_length 0 (attribute_row 0) f.attf))
    (saturated (rows_length nall (attribute_row nall) f.natf)) (saturated (rows_length 0 partner_row f.partners))
    (saturated (rows_length 0 place_row f.places))
    p q r
    (s ∙ sym (ap saturated (rows_length_of_width place_row 8 (omega arith) (λ e. refl) f.places))))
    ∙ within_limit-saturated (3 ∷ 13 ∷ 9 ∷ rows_length 0 (attribute_row 0) f.attf ∷ rows_length nall
    (attribute_row nall) f.natf ∷ rows_length 0 partner_row f.partners ∷ rows_length 0 place_row f.places ∷ [])
    ∙ ap (λ ns. leb (record_length ns) length_limit) (sym (feature_lengths nall f))
