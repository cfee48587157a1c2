-- The bytes of a field that spell rows are cut into these rows.
use Rattle.std.proofs.Common.{◌≡◌, ◌⊎◌, inl, inr, ℕ, zero, suc, ◌+◌, ◌-◌, ◌%◌, ◌<◌, ◌≤◌, ◌==◌, ◌&&◌, ◌||◌, Bool, true, false, cond, List, [], ◌∷◌, ◌++◌}
use Rattle.std.proofs.Common.{length, map, take, nat_lt, slice_index, Some, refl, sym, ap, ◌∙◌, length-append, arith}
use Rattle.std.proofs.Math.Seq.{take-append_seam, get_or-append_seam}
use Rattle.std.proofs.lemmas.List.{append-nil, get_or-append-add}
use Rattle.std.proofs.lemmas.Bool.Decides.{nat_tests}
use Rattle.std.specs.Bool.{MatchBool}
use Rattle.std.specs.Option.{option_map, option_and_then}
use Rattle.std.specs.List.{flat_map, list_all, AllByRecursion}
use Rattle.std.specs.Int.{w32, cast_unsigned}
use Rattle.byteorder.specs.Numbers.{length-bytes_low_first}
use Rattle.s57_types.specs.Subfield.{Form, Subfield, unsigned_of, signed_of, text_of, wide_text_of, fixed_of, form_of, spelling, row_bytes, IsSubfield}
use Rattle.s57_types.specs.Subfield.{unit_terminator, field_terminator}
use Rattle.field_spec.specs.Cutting.{cut_row, cut_rows, before_terminator, before_wide_terminator, whole, field_row, field_rows}
use Rattle.field_spec.specs.FieldContent.{IsRow, IsField, IsFieldOfRows}
use Rattle.field_spec.specs.FieldFit.{takes_bytes, has_bytes, is_even, fits_level}
use Rattle.field_spec.proofs.Spelled.{cut_off, cut_row_spelling}

pub before_terminator-append : (xs : List ℕ) → before_terminator (xs ++ (field_terminator ∷ [])) ≡ Some xs
before_terminator-append xs =
    let b = xs ++ (field_terminator ∷ []) in
    let size : length b ≡ length xs + 1 = length-append xs (field_terminator ∷ []) in
    let some : nat_lt 0 (length b) ≡ true = grind (arith, nat_tests, size) in
    let back : length b - 1 ≡ length xs = omega (arith, size) in
    let last : slice_index b (length b - 1) ≡ field_terminator = ap (λ n. slice_index b n) back ∙ get_or-append_seam xs field_terminator [] 0 in
    let first : take (length b - 1) b ≡ xs = ap (λ n. take n b) back ∙ take-append_seam xs (field_terminator ∷ []) in
    rw (some, last, first) refl

before_wide_terminator-two : (xs : List ℕ) → length xs % 2 ≡ 0 → before_wide_terminator (xs ++ (field_terminator ∷ 0 ∷ [])) ≡ Some xs
before_wide_terminator-two xs even =
    let b = xs ++ (field_terminator ∷ 0 ∷ []) in
    let size : length b ≡ length xs + 2 = length-append xs (field_terminator ∷ 0 ∷ []) in
    let rest : length b % 2 ≡ 0 = omega (arith, size, even) in
    let not_odd : (length b % 2 == 1) ≡ false = rw rest refl in
    let some : nat_lt 1 (length b) ≡ true = grind (arith, nat_tests, size) in
    let back : length b - 2 ≡ length xs = omega (arith, size) in
    let behind : length b - 1 ≡ length xs + 1 = omega (arith, size) in
    let mark : slice_index b (length b - 2) ≡ field_terminator = ap (λ n. slice_index b n) back ∙ get_or-append_seam xs field_terminator (0 ∷ []) 0 in
    let last : slice_index b (length b - 1) ≡ 0 = ap (λ n. slice_index b n) behind ∙ get_or-append-add xs (field_terminator ∷ 0 ∷ []) 1 0 in
    let first : take (length b - 2) b ≡ xs = ap (λ n. take n b) back ∙ take-append_seam xs (field_terminator ∷ 0 ∷ []) in
    rw (not_odd, some, mark, last, first) refl

before_wide_terminator-one : (xs : List ℕ) → length xs % 2 ≡ 0 → before_wide_terminator (xs ++ (field_terminator ∷ [])) ≡ Some xs
before_wide_terminator-one xs even =
    let b = xs ++ (field_terminator ∷ []) in
    let size : length b ≡ length xs + 1 = length-append xs (field_terminator ∷ []) in
    let rest : length b % 2 ≡ 1 = omega (arith, size, even) in
    let odd : (length b % 2 == 1) ≡ true = rw rest refl in
    rw odd (before_terminator-append xs)

field_row_spelling : (row : List Subfield) → AllByRecursion IsSubfield row → field_row (map form_of row) (row_bytes row ++ (field_terminator ∷ [])) ≡ Some row
field_row_spelling row fits =
    ap (option_and_then (λ body. whole (cut_row (map form_of row) body))) (before_terminator-append (row_bytes row))
    ∙ ap whole (ap (cut_row (map form_of row)) (sym (append-nil (row_bytes row))) ∙ cut_row_spelling row [] fits)

-- a field of one row is cut into that row
pub row_of_field : (forms : List Form) (bytes : List ℕ) (row : List Subfield) → IsField forms bytes row → field_row forms bytes ≡ Some row
row_of_field forms bytes row field =
    ap (field_row forms) field.bytes_are
    ∙ ap (λ f. field_row f (row_bytes row ++ (field_terminator ∷ []))) (sym field.is_row.forms_are)
    ∙ field_row_spelling row field.is_row.each

either_true : (a b : Bool) → (a || b) ≡ true → (a ≡ true) ⊎ (b ≡ true)
either_true true b e = inl refl
either_true false b e = inr e

both_true : (a b : Bool) → (a && b) ≡ true → (a ≡ true) × (b ≡ true)
both_true true b e = (refl, e)
both_true false b e = absurd cc

spelling_some : (s : Subfield) → takes_bytes (form_of s) ≡ true → 0 < length (spelling s)
spelling_some (unsigned_of w n) takes = let size = length-bytes_low_first 0 w n in grind (arith, nat_tests)
spelling_some (signed_of z) takes = let size = length-bytes_low_first 0 4 (cast_unsigned w32 z) in omega (arith, size)
spelling_some (text_of t) takes = let size = length-append t (unit_terminator ∷ []) in omega (arith, size)
spelling_some (wide_text_of t) takes = let size = length-append t (unit_terminator ∷ 0 ∷ []) in omega (arith, size)
spelling_some (fixed_of t) takes = grind (arith, nat_tests)

row_some : (row : List Subfield) → has_bytes (map form_of row) ≡ true → 0 < length (row_bytes row)
row_some [] takes = absurd cc
row_some (s ∷ row) takes =
    let size = length-append (spelling s) (row_bytes row) in
    elim (either_true (takes_bytes (form_of s)) (has_bytes (map form_of row)) takes) [
      | inl first ↦ let some = spelling_some s first in omega (arith, size, some)
      | inr later ↦ let some = row_some row later in omega (arith, size, some)
    ]

cut_rows-next : (n : ℕ) (forms : List Form) (b : List ℕ) → 0 < length b
    → cut_rows (suc n) forms b ≡ option_and_then (λ x. option_map (λ rows. x.0 ∷ rows) (cut_rows n forms x.1)) (cut_row forms b)
cut_rows-next n forms [] some = absurd (omega arith)
cut_rows-next n forms (c ∷ b) some = refl

row_then : (forms : List Form) (row : List Subfield) (rest : List ℕ) → IsRow forms row → cut_row forms (row_bytes row ++ rest) ≡ cut_off row rest
row_then forms row rest is = ap (λ f. cut_row f (row_bytes row ++ rest)) (sym is.forms_are) ∙ cut_row_spelling row rest is.each

row_takes : (forms : List Form) (row : List Subfield) → has_bytes forms ≡ true → IsRow forms row → 0 < length (row_bytes row)
row_takes forms row takes is = row_some row (ap has_bytes is.forms_are ∙ takes)

cut_rows_spelling : (forms : List Form) (rows : List (List Subfield)) (n : ℕ) → has_bytes forms ≡ true → AllByRecursion (IsRow forms) rows
    → length (flat_map row_bytes rows) ≤ n
    → cut_rows n forms (flat_map row_bytes rows) ≡ Some rows
cut_rows_spelling forms [] n takes fits few = refl
cut_rows_spelling forms (row ∷ rows) zero takes fits few =
    let some = row_takes forms row takes fits.0 in
    let size = length-append (row_bytes row) (flat_map row_bytes rows) in
    absurd (omega (arith, size, some))
cut_rows_spelling forms (row ∷ rows) (suc n) takes fits few =
    let rest = flat_map row_bytes rows in
    let some = row_takes forms row takes fits.0 in
    let size = length-append (row_bytes row) rest in
    cut_rows-next n forms (row_bytes row ++ rest) (omega (arith, size, some))
    ∙ ap (option_and_then (λ x. option_map (λ others. x.0 ∷ others) (cut_rows n forms x.1))) (row_then forms row rest fits.0)
    ∙ ap (option_map (λ others. row ∷ others)) (cut_rows_spelling forms rows n takes fits.1 (omega (arith, size, some)))

spelling_even : (s : Subfield) → is_even (form_of s) ≡ true → IsSubfield s → length (spelling s) % 2 ≡ 0
spelling_even (unsigned_of w n) even fits = let width : w % 2 ≡ 0 = grind (arith, nat_tests) in ap (λ k. k % 2) (length-bytes_low_first 0 w n) ∙ width
spelling_even (signed_of z) even fits = ap (λ k. k % 2) (length-bytes_low_first 0 4 (cast_unsigned w32 z))
spelling_even (text_of t) even fits = absurd cc
spelling_even (wide_text_of t) even fits = let size = length-append t (unit_terminator ∷ 0 ∷ []) in omega (arith, size, fits.0)
spelling_even (fixed_of t) even fits = grind (arith, nat_tests)

joined_even : (a b : List ℕ) → length a % 2 ≡ 0 → length b % 2 ≡ 0 → length (a ++ b) % 2 ≡ 0
joined_even a b first later = let size = length-append a b in omega (arith, size, first, later)

row_even : (row : List Subfield) → list_all is_even (map form_of row) ≡ true → AllByRecursion IsSubfield row → length (row_bytes row) % 2 ≡ 0
row_even [] even fits = refl
row_even (s ∷ row) even fits =
    let parts = both_true (is_even (form_of s)) (list_all is_even (map form_of row)) even in
    joined_even (spelling s) (row_bytes row) (spelling_even s parts.0 fits.0) (row_even row parts.1 fits.1)

rows_even : (forms : List Form) (rows : List (List Subfield)) → list_all is_even forms ≡ true → AllByRecursion (IsRow forms) rows
    → length (flat_map row_bytes rows) % 2 ≡ 0
rows_even forms [] even fits = refl
rows_even forms (row ∷ rows) even fits =
    joined_even (row_bytes row) (flat_map row_bytes rows) (row_even row (ap (list_all is_even) fits.0.forms_are ∙ even) fits.0.each)
    (rows_even forms rows even fits.1)

by_level : (wide : Bool) (forms : List Form) (rows : List (List Subfield)) (bytes : List ℕ) → cond wide (list_all is_even forms) true ≡ true
    → AllByRecursion (IsRow forms) rows
    → MatchBool wide
    ((bytes ≡ flat_map row_bytes rows ++ (field_terminator ∷ 0 ∷ [])) ⊎ (bytes ≡ flat_map row_bytes rows ++ (field_terminator ∷ [])))
    (bytes ≡ flat_map row_bytes rows ++ (field_terminator ∷ []))
    → cond wide (before_wide_terminator bytes) (before_terminator bytes) ≡ Some (flat_map row_bytes rows)
by_level true forms rows bytes even fits (inl two) = ap before_wide_terminator two ∙ before_wide_terminator-two (flat_map row_bytes rows)
    (rows_even forms rows even fits)
by_level true forms rows bytes even fits (inr one) = ap before_wide_terminator one ∙ before_wide_terminator-one (flat_map row_bytes rows)
    (rows_even forms rows even fits)
by_level false forms rows bytes even fits one = ap before_terminator one ∙ before_terminator-append (flat_map row_bytes rows)

-- a field whose row repeats is cut into its rows
pub rows_of_field : (level : ℕ) (forms : List Form) (bytes : List ℕ) (rows : List (List Subfield)) → has_bytes forms ≡ true → fits_level level forms ≡ true
    → IsFieldOfRows level forms bytes rows → field_rows level forms bytes ≡ Some rows
rows_of_field level forms bytes rows takes even field =
    ap (option_and_then (λ body. cut_rows (length body) forms body)) (by_level (level == 2) forms rows bytes even field.each field.bytes_are)
    ∙ cut_rows_spelling forms rows (length (flat_map row_bytes rows)) takes field.each (omega arith)
