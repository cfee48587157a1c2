-- The fields of a record that are there, and their lengths.
use Rattle.std.proofs.Common.{◌≡◌, ℕ, zero, suc, ◌+◌, ◌<◌, ◌==◌, true, false, List, [], ◌∷◌, ◌++◌, length, map, codes, refl, sym, ◌∙◌, ap, arith}
use Rattle.std.proofs.Common.{length-append, if◌then◌else◌, append_assoc}
use Rattle.std.specs.List.{flat_map}
use Rattle.std.proofs.lemmas.Bool.{ne_eqb}
use Rattle.std.proofs.lemmas.List.{map-append}
use Rattle.frame_spec.specs.WrittenRecord.{field_lengths}
use Rattle.s57_types.specs.Subfield.{Subfield, row_bytes, field_terminator}
use Rattle.s57_types.specs.FieldRows.{attribute_row, partner_row, end_row, plane_row, deep_row, place_row, vrid_row, frid_row, foid_row}
use Rattle.s57_types.specs.RecordFields.{terminator_of, rows_field, field_of, number_field, vector_fields, feature_fields}
use Rattle.s57_types.specs.declared.record.Vector.{Vector}
use Rattle.s57_types.specs.declared.record.Feature.{Feature}
use Rattle.record_fit.specs.Lengths.{rows_length, present}

pub present-some : (n : ℕ) (ns : List ℕ) → 0 < n → present (n ∷ ns) ≡ n ∷ present ns
present-some n ns some = let e : (n == 0) ≡ false = ne_eqb n 0 (λ none. omega (arith, none)) in rw e

pub present-cons : (n : ℕ) (ns : List ℕ) → present (n ∷ ns) ≡ present (n ∷ []) ++ present ns
present-cons zero ns = refl
present-cons (suc n) ns = present-some (suc n) ns (omega arith) ∙ sym (ap (λ r. r ++ present ns) (present-some (suc n) [] (omega arith)))

some_terminator : (level : ℕ) → 0 < length (terminator_of level)
some_terminator level = elim (level == 2) as (λ wide. 0 < length (if wide then field_terminator ∷ 0 ∷ [] else field_terminator ∷ []))
    [ true ↦ omega arith | false ↦ omega arith ]

-- a field of rows is there where it has a length
pub rows_field_lengths : {X : Type 0} (level : ℕ) (tag : List ℕ) (row : X → List Subfield) (xs : List X)
    → field_lengths (rows_field level tag row xs) ≡ present (rows_length level row xs ∷ [])
rows_field_lengths level tag row [] = refl
rows_field_lengths level tag row (x ∷ xs) =
    let rows = flat_map (λ y. row_bytes (row y)) (x ∷ xs) in
    ap (λ n. n ∷ []) (length-append rows (terminator_of level))
    ∙ sym (present-some (length rows + length (terminator_of level)) [] (omega (arith, some_terminator level)))

four : (a b c d : ℕ) → present (a ∷ b ∷ c ∷ d ∷ []) ≡ present (a ∷ []) ++ (present (b ∷ []) ++ (present (c ∷ []) ++ present (d ∷ [])))
four a b c d =
    present-cons a (b ∷ c ∷ d ∷ [])
    ∙ ap (λ ns. present (a ∷ []) ++ ns) (present-cons b (c ∷ d ∷ []) ∙ ap (λ ns. present (b ∷ []) ++ ns) (present-cons c (d ∷ [])))

four_fields : {F : Type 0} (f : F → ℕ) (ns ks bs cs ds : List F) → map f (ns ++ ks ++ bs ++ cs ++ ds) ≡ map f ns
    ++ (map f ks ++ (map f bs ++ (map f cs ++ map f ds)))
four_fields f ns ks bs cs ds = simp (map-append, append_assoc)

joined : (ns a b c d e f g h : List ℕ) → a ≡ e → b ≡ f → c ≡ g → d ≡ h → ns ++ (a ++ (b ++ (c ++ d))) ≡ ns ++ (e ++ (f ++ (g ++ h)))
joined ns a b c d e f g h p q r s = cc

-- the lengths of four fields of rows behind those that are always there
four_lengths : {A B C D : Type 0} (ns : List ℕ) (ta tb tc td : List ℕ) (k l m n : ℕ) (ra : A → List Subfield) (rb : B → List Subfield)
    (rc : C → List Subfield) (rd : D → List Subfield) (ks : List A) (bs : List B) (cs : List C) (ds : List D)
    → ns ++ (field_lengths (rows_field k ta ra ks) ++ (field_lengths (rows_field l tb rb bs)
    ++ (field_lengths (rows_field m tc rc cs) ++ field_lengths (rows_field n td rd ds))))
    ≡ ns ++ present (rows_length k ra ks ∷ rows_length l rb bs ∷ rows_length m rc cs ∷ rows_length n rd ds ∷ [])
four_lengths ns ta tb tc td k l m n ra rb rc rd ks bs cs ds =
    joined ns _ _ _ _ _ _ _ _ (rows_field_lengths k ta ra ks) (rows_field_lengths l tb rb bs) (rows_field_lengths m tc rc cs) (rows_field_lengths n td rd ds)
    ∙ ap (λ r. ns ++ r) (sym (four (rows_length k ra ks) (rows_length l rb bs) (rows_length m rc cs) (rows_length n rd ds)))

-- the fields of a vector record
pub vector_lengths : (v : Vector) → field_lengths (vector_fields 0 v)
    ≡ present (3 ∷ 9 ∷ rows_length 0 (attribute_row 0) v.attrs ∷ rows_length 0 end_row v.ends ∷ rows_length 0 plane_row v.plane
    ∷ rows_length 0 deep_row v.deep ∷ [])
vector_lengths v =
    four_fields (λ field. length field.bytes) (number_field 0 ∷ field_of (codes "VRID")
    (vrid_row (record { name = v.name; rver = v.rver; ruin = 1 })) ∷ []) (rows_field 0 (codes "ATTV") (attribute_row 0) v.attrs)
    (rows_field 0 (codes "VRPT") end_row v.ends) (rows_field 0 (codes "SG2D") plane_row v.plane) (rows_field 0 (codes "SG3D") deep_row v.deep)
    ∙ four_lengths (3 ∷ 9 ∷ []) (codes "ATTV") (codes "VRPT") (codes "SG2D") (codes "SG3D") 0 0 0 0
    (attribute_row 0) end_row plane_row deep_row v.attrs v.ends v.plane v.deep

-- the fields of a feature
pub feature_lengths : (nall : ℕ) (f : Feature) → field_lengths (feature_fields nall 0 f)
    ≡ present (3 ∷ 13 ∷ 9 ∷ rows_length 0 (attribute_row 0) f.attf ∷ rows_length nall
    (attribute_row nall) f.natf ∷ rows_length 0 partner_row f.partners ∷ rows_length 0 place_row f.places ∷ [])
feature_lengths nall f =
    four_fields (λ field. length field.bytes) (number_field 0 ∷ field_of (codes "FRID")
    (frid_row (record { rcid = f.name.id; prim = f.prim; grup = f.grup; objl = f.objl; rver = f.rver; ruin = 1 })) ∷ field_of
    (codes "FOID") (foid_row f.foid) ∷ []) (rows_field 0 (codes "ATTF") (attribute_row 0) f.attf)
    (rows_field nall (codes "NATF") (attribute_row nall) f.natf) (rows_field 0 (codes "FFPT") partner_row f.partners)
    (rows_field 0 (codes "FSPT") place_row f.places)
    ∙ four_lengths (3 ∷ 13 ∷ 9 ∷ []) (codes "ATTF") (codes "NATF") (codes "FFPT") (codes "FSPT") 0 nall 0 0 (attribute_row 0)
    (attribute_row nall) partner_row place_row f.attf f.natf f.partners f.places
