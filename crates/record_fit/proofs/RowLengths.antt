-- How many bytes a row and a field of rows have.
use Rattle.std.proofs.Common.{◌≡◌, ℕ, zero, suc, get_or, take, ◌+◌, ◌*◌, ◌<◌, ◌==◌, true, false, List, [], ◌∷◌, ◌++◌, length, sum_by, refl, sym, ◌∙◌, ap}
use Rattle.std.proofs.Common.{arith, length-append, if◌then◌else◌}
use Rattle.std.proofs.lemmas.Bool.{ne_eqb}
use Rattle.std.proofs.lemmas.List.Concat.{length-flat_map}
use Rattle.std.proofs.lemmas.List.Sums.{sum_by-cons, sum_by_more}
use Rattle.s57_types.specs.Subfield.{Subfield, row_bytes, unsigned_of, text_of, wide_text_of, unit_terminator, field_terminator}
use Rattle.s57_types.specs.FieldRows.{attribute_row, partner_row}
use Rattle.s57_types.specs.RecordFields.{terminator_of}
use Rattle.s57_types.specs.declared.record.Attr.{Attr}
use Rattle.s57_types.specs.declared.record.Partner.{Partner}
use Rattle.record_fit.specs.Lengths.{saturated, field_length, rows_length}

-- a code of two bytes, and a text with its terminator
pub attribute_row_length : (level : ℕ) (a : Attr) → length (row_bytes (attribute_row level a)) ≡ length a.value + length (terminator_of level) + 2
attribute_row_length level a =
    elim (level == 2) as (λ wide. length (row_bytes (unsigned_of 2 a.code ∷ (if wide then wide_text_of a.value else text_of a.value) ∷ [])) ≡
    length a.value + length (if wide then field_terminator ∷ 0 ∷ [] else field_terminator ∷ []) + 2) [
      | true ↦ omega (arith, length-append (a.value ++ (unit_terminator ∷ 0 ∷ [])) [], length-append a.value (unit_terminator ∷ 0 ∷ []))
      | false ↦ omega (arith, length-append (a.value ++ (unit_terminator ∷ [])) [], length-append a.value (unit_terminator ∷ []))
    ]

-- a long name and an indicator of nine bytes, and a text with its terminator
pub partner_row_length : (p : Partner) → length (row_bytes (partner_row p)) ≡ length p.comt + 10
partner_row_length p = omega (arith, length-append (p.comt ++ (unit_terminator ∷ [])) [], length-append p.comt (unit_terminator ∷ []))

field_length-some : (n t : ℕ) → 0 < n → field_length n t ≡ n + t
field_length-some n t some = let e : (n == 0) ≡ false = ne_eqb n 0 (λ none. omega (arith, none)) in rw e

-- the rows' bytes and the terminator, where there is a row
pub rows_length_by_rows : {X : Type 0} (level : ℕ) (row : X → List Subfield) → ((x : X) → 0 < length (row_bytes (row x))) → (xs : List X)
    → rows_length level row xs ≡ field_length (sum_by (λ x. length (row_bytes (row x))) xs) (length (terminator_of level))
rows_length_by_rows level row some [] = refl
rows_length_by_rows {X} level row some (x ∷ xs) =
    let f : X → ℕ = λ y. length (row_bytes (row y)) in
    ap (λ n. n + length (terminator_of level)) (length-flat_map (λ y. row_bytes (row y)) (x ∷ xs))
    ∙ sym (field_length-some (sum_by f (x ∷ xs)) (length (terminator_of level)) (omega (arith, sum_by-cons f x xs, some x)))

sum_of_width : {X : Type 0} (f : X → ℕ) (width : ℕ) → ((x : X) → f x ≡ width) → (xs : List X) → sum_by f xs ≡ length xs * width
sum_of_width f width same [] = omega arith
sum_of_width f width same (x ∷ xs) = omega (arith, sum_by-cons f x xs, same x, sum_of_width f width same xs)

-- rows of one length
pub rows_length_of_width : {X : Type 0} (row : X → List Subfield) (width : ℕ) → 0 < width → ((x : X) → length (row_bytes (row x)) ≡ width) → (xs : List X)
    → rows_length 0 row xs ≡ field_length (length xs * width) 1
rows_length_of_width row width some same xs =
    rows_length_by_rows 0 row (λ x. omega (arith, same x)) xs
    ∙ ap (λ n. field_length n 1) (sum_of_width (λ x. length (row_bytes (row x))) width same xs)

-- a saturated count of the rows' bytes serves as well
pub saturated_field_length : (bytes terminator : ℕ) → saturated (field_length (saturated bytes) terminator) ≡ saturated (field_length bytes terminator)
saturated_field_length zero terminator = refl
saturated_field_length (suc n) terminator =
    ap saturated (field_length-some (saturated (suc n)) terminator (omega arith))
    ∙ (let e : saturated (saturated (suc n) + terminator) ≡ saturated (suc n + terminator) = omega arith in e)
    ∙ sym (ap saturated (field_length-some (suc n) terminator (omega arith)))

-- what a loop over the rows counts, at its end
pub counted_rows : {X : Type 0} (level : ℕ) (row : X → List Subfield) → ((x : X) → 0 < length (row_bytes (row x))) → (xs : List X) (bytes : ℕ)
    → bytes ≡ saturated (sum_by (λ x. length (row_bytes (row x))) xs) → saturated (field_length bytes (length (terminator_of level))) ≡
    saturated (rows_length level row xs)
counted_rows {X} level row some xs bytes counted =
    let f : X → ℕ = λ x. length (row_bytes (row x)) in
    ap (λ n. saturated (field_length n (length (terminator_of level)))) counted
    ∙ saturated_field_length (sum_by f xs) (length (terminator_of level))
    ∙ sym (ap saturated (rows_length_by_rows level row some xs))

-- one more row
pub counted_one_more : {X : Type 0} (row : X → List Subfield) (xs : List X) (i : ℕ) (x : X) (bytes total : ℕ) → i < length xs → x ≡ get_or xs i x
    → bytes ≡ saturated (sum_by (λ y. length (row_bytes (row y))) (take i xs)) → total ≡ saturated (bytes + length (row_bytes (row x)))
    → total ≡ saturated (sum_by (λ y. length (row_bytes (row y))) (take (i + 1) xs))
counted_one_more {X} row xs i x bytes total within here counted more =
    let f : X → ℕ = λ y. length (row_bytes (row y)) in
    omega (arith, sum_by_more f xs i x within, ap f here, counted, more)
