-- A record that can be written has fewer pointers than a record may have bytes: each takes a byte or more.
use Rattle.std.proofs.Common.{◌≡◌, ℕ, ◌<◌, ◌≤◌, true, false, Bool, List, [], ◌∷◌, ◌++◌, length, sum_by, codes, map, None, Some, refl, sym, subst, ltb-false}
use Rattle.std.proofs.Common.{arith, length-append, if◌then◌else◌}
use Rattle.std.specs.Prelude.{not, nat_lt}
use Rattle.std.specs.List.{All, flat_map}
use Rattle.std.specs.Borrow.{Bor}
use Rattle.std.proofs.lemmas.List.{length-map, get_or-map}
use Rattle.std.proofs.lemmas.List.Concat.{length-flat_map}
use Rattle.std.proofs.lemmas.List.Elements.{All-weaker}
use Rattle.std.proofs.lemmas.List.Sums.{sum_by-cons, sum_by-append, sum-map}
use Rattle.frame_spec.specs.RecordFrame.{Field}
use Rattle.frame_spec.specs.WrittenRecord.{record_length, field_lengths}
use Rattle.s57_types.specs.Subfield.{Subfield, row_bytes}
use Rattle.s57_types.specs.FieldRows.{attribute_row, partner_row, end_row, plane_row, deep_row, place_row, vrid_row, frid_row, foid_row}
use Rattle.s57_types.specs.RecordFields.{terminator_of, rows_field, field_of, number_field, vector_fields, feature_fields, written_length, length_limit}
use Rattle.s57_types.specs.Fitness.{unfitness, has_good_names, has_good_texts}
use Rattle.s57_types.specs.declared.record.End.{End}
use Rattle.s57_types.specs.declared.record.Spot.{Spot}
use Rattle.s57_types.specs.declared.record.Vector.{Vector}
use Rattle.s57_types.specs.declared.record.Feature.{Feature}
use Rattle.s57_types.specs.declared.record.Rec.{Rec}
use Rattle.s57_types.specs.declared.record.Rec.TheVariants.{V, F, H}
use Rattle.s57_types.specs.declared.fault.Unfit.TheVariants.{TooLong, BadText, BadName}
use Rattle.cell_spec.specs.Lookup.{targets_of}
use Rattle.chain_topo.specs.Listed.{HasFewPointers}

size : Field → ℕ
size field = length field.bytes

rows_le : {X : Type 0} (f : X → ℕ) → ((x : X) → 0 < f x) → (xs : List X) → length xs ≤ sum_by f xs
rows_le f some [] = omega arith
rows_le f some (x ∷ xs) = omega (arith, sum_by-cons f x xs, some x, rows_le f some xs)

-- the rows of a field
field_le : {X : Type 0} (tag : List ℕ) (row : X → List Subfield) → ((x : X) → 0 < length (row_bytes (row x))) → (xs : List X)
    → length xs ≤ sum_by size (rows_field 0 tag row xs)
unfolding size
field_le tag row some [] = omega arith
field_le tag row some (x ∷ xs) =
    let rows = flat_map (λ y. row_bytes (row y)) (x ∷ xs) in
    omega (
      arith,
      length-append rows (terminator_of 0),
      length-flat_map (λ y. row_bytes (row y)) (x ∷ xs),
      rows_le (λ y. length (row_bytes (row y))) some (x ∷ xs),
    )

sizes_le : (fields : List Field) → sum_by size fields ≤ record_length (field_lengths fields)
unfolding size
sizes_le fields = let lengths = field_lengths fields in omega (arith, sum-map size fields)

-- the second and the last of lists of fields
second_le : (a b c d : List Field) → sum_by size b ≤ sum_by size (a ++ b ++ c ++ d)
second_le a b c d = omega (arith, sum_by-append size (a ++ b ++ c) d, sum_by-append size (a ++ b) c, sum_by-append size a b)

last_le : (a b : List Field) → sum_by size b ≤ sum_by size (a ++ b)
last_le a b = omega (arith, sum_by-append size a b)

ends_le : (nall : ℕ) (v : Vector) → length v.ends ≤ written_length nall (V v)
unfolding size
ends_le nall v =
    let head = number_field 0 ∷ field_of (codes "VRID") (vrid_row (record { name = v.name; rver = v.rver; ruin = 1 })) ∷ [] in
    omega (
      arith,
      field_le (codes "VRPT") end_row (λ e. omega arith) v.ends,
      second_le (head ++ rows_field 0 (codes "ATTV") (attribute_row 0) v.attrs) (rows_field 0 (codes "VRPT") end_row v.ends)
          (rows_field 0 (codes "SG2D") plane_row v.plane) (rows_field 0 (codes "SG3D") deep_row v.deep),
      sizes_le (vector_fields 0 v),
    )

places_le : (nall : ℕ) (f : Feature) → length f.places ≤ written_length nall (F f)
unfolding size
places_le nall f =
    let head = number_field 0 ∷ field_of (codes "FRID") (frid_row
    (record { rcid = f.name.id; prim = f.prim; grup = f.grup; objl = f.objl; rver = f.rver; ruin = 1 })) ∷ field_of (codes "FOID")
    (foid_row f.foid) ∷ [] in
    omega (
      arith,
      field_le (codes "FSPT") place_row (λ s. omega arith) f.places,
      last_le (head ++ rows_field 0 (codes "ATTF") (attribute_row 0) f.attf ++ rows_field nall (codes "NATF") (attribute_row nall) f.natf
          ++ rows_field 0 (codes "FFPT") partner_row f.partners) (rows_field 0 (codes "FSPT") place_row f.places),
      sizes_le (feature_fields nall 0 f),
    )

targets_le : (nall : ℕ) (r : Rec) → length (targets_of r) ≤ written_length nall r
targets_le nall (V v) = omega (arith, ends_le nall v, length-map v.ends (λ (e : End). e.to))
targets_le nall (F f) = omega (arith, places_le nall f, length-map f.places (λ (s : Spot). s.to))
targets_le nall (H h) = omega arith

fit_is_short : (nall : ℕ) (r : Rec) → unfitness nall r ≡ None → written_length nall r ≤ length_limit
unfolding unfitness
fit_is_short nall r fit = by (has_good_names r) (has_good_texts nall r) (nat_lt length_limit (written_length nall r)) refl fit
  where
    by : (names texts long : Bool) → nat_lt length_limit (written_length nall r) ≡ long
        → (if not names then Some BadName else (if not texts then Some BadText else (if long then Some TooLong else None))) ≡ None
        → written_length nall r ≤ length_limit
    by true true false long e = ltb-false _ _ long
    by true true true long e = absurd cc
    by true false long is e = absurd cc
    by false texts long is e = absurd cc

pub fit_has_few_pointers : (nall : ℕ) (r : Rec) → unfitness nall r ≡ None → HasFewPointers r
fit_has_few_pointers nall r fit = omega (arith, targets_le nall r, fit_is_short nall r fit)

-- the records of a list that can be written
pub all_have_few_pointers : (nall : ℕ) (rs : List Rec) (held : List (Bor Rec)) → map (λ (r : Bor Rec). r.now) held ≡ rs
    → All (λ r. unfitness nall r ≡ None) rs → All (λ (r : Bor Rec). HasFewPointers r.now) held
all_have_few_pointers nall rs held same fit =
    let now : Bor Rec → Rec = λ r. r.now in
    let few : All HasFewPointers (map now held) = subst (All HasFewPointers) (sym same) (All-weaker _ HasFewPointers (fit_has_few_pointers nall) rs fit) in
    λ k d within. subst HasFewPointers (get_or-map now held k d d.now within) (few k d.now (omega (arith, length-map held now)))
