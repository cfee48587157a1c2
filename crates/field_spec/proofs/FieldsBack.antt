-- The rows into which a field is cut spell its bytes.
use Rattle.std.proofs.Common.{◌≡◌, ◌⊎◌, ◌↔◌, inl, inr, ℕ, suc, ◌-◌, ◌%◌, ◌<◌, ◌==◌, ◌&&◌, Bool, true, false, cond, List, [], ◌∷◌, ◌++◌, length, take, drop}
use Rattle.std.proofs.Common.{nat_lt, slice_index, Option, Some, None, refl, sym, ap, ◌∙◌, subst, arith}
use Rattle.std.specs.Prelude.{All}
use Rattle.std.proofs.lemmas.List.{take-append-drop, append-nil, drop_all}
use Rattle.std.proofs.Math.Seq.{drop-cons}
use Rattle.std.proofs.lemmas.Bool.Decides.{nat_tests}
use Rattle.std.specs.Bool.{MatchBool}
use Rattle.s57_types.specs.Subfield.{Form, Subfield, row_bytes, field_terminator}
use Rattle.field_spec.specs.Cutting.{cut_row, cut_rows, before_terminator, before_wide_terminator, body_at_level, whole, field_row, field_rows}
use Rattle.field_spec.specs.FieldContent.{IsField, IsFieldOfRows}
use Rattle.field_spec.specs.FieldFit.{has_bytes, fits_level}
use Rattle.field_spec.proofs.CutBack.{AreBytes, AreBytes-append, bound_back, row_back, rows_back}
use Rattle.field_spec.proofs.Spelled.{cut_off}
use Rattle.field_spec.proofs.FieldsSpelled.{row_of_field, rows_of_field}

both_true : (a b : Bool) → (a && b) ≡ true → (a ≡ true) × (b ≡ true)
both_true true b e = (refl, e)
both_true false b e = absurd cc

all_bytes : (bs : List ℕ) → All (λ b. b < 256) bs → AreBytes bs
all_bytes [] all = tt
all_bytes (b ∷ bs) all = (all 0 0 (omega arith), all_bytes bs (λ k d within. all (suc k) d (omega arith)))

last_one : (b : List ℕ) → 0 < length b → b ≡ take (length b - 1) b ++ (slice_index b (length b - 1) ∷ [])
last_one b some =
    let n = length b - 1 in
    let within : n < length b = omega arith in
    let none : drop (suc n) b ≡ [] = drop_all (suc n) b (omega arith) in
    sym (take-append-drop n b) ∙ ap (λ t. take n b ++ t) (drop-cons b n 0 within ∙ ap (λ t. slice_index b n ∷ t) none)

last_two : (b : List ℕ) → 1 < length b → b ≡ take (length b - 2) b ++ (slice_index b (length b - 2) ∷ slice_index b (length b - 1) ∷ [])
last_two b some =
    let n = length b - 2 in
    let next : suc n ≡ length b - 1 = omega arith in
    let none : drop (suc (length b - 1)) b ≡ [] = drop_all (suc (length b - 1)) b (omega arith) in
    let behind : drop (suc n) b ≡ slice_index b (length b - 1) ∷ [] = ap (λ m. drop m b) next ∙ drop-cons b (length b - 1) 0 (omega arith)
    ∙ ap (λ t. slice_index b (length b - 1) ∷ t) none in
    sym (take-append-drop n b) ∙ ap (λ t. take n b ++ t) (drop-cons b n 0 (omega arith) ∙ ap (λ t. slice_index b n ∷ t) behind)

terminator_back : (b body : List ℕ) → before_terminator b ≡ Some body → b ≡ body ++ (field_terminator ∷ [])
terminator_back b body e = tested (nat_lt 0 (length b) && (slice_index b (length b - 1) == field_terminator)) refl e
  where
    tested : (good : Bool) → (nat_lt 0 (length b) && (slice_index b (length b - 1) == field_terminator)) ≡ good
        → cond good (Some (take (length b - 1) b)) None ≡ Some body → b ≡ body ++ (field_terminator ∷ [])
    tested false is e = absurd cc
    tested true is e =
        let parts = both_true (nat_lt 0 (length b)) (slice_index b (length b - 1) == field_terminator) is in
        let some : 0 < length b = grind (arith, nat_tests, parts.0) in
        let mark : slice_index b (length b - 1) ≡ field_terminator = grind (arith, nat_tests, parts.1) in
        let same : take (length b - 1) b ≡ body = cc in
        last_one b some ∙ ap (λ c. take (length b - 1) b ++ (c ∷ [])) mark ∙ ap (λ t. t ++ (field_terminator ∷ [])) same

-- a body with its terminator of one byte or two
abbrev EndsWide : List ℕ → List ℕ → Type 0
EndsWide b body = (b ≡ body ++ (field_terminator ∷ 0 ∷ [])) ⊎ (b ≡ body ++ (field_terminator ∷ []))

wide_terminator_back : (b body : List ℕ) → before_wide_terminator b ≡ Some body → EndsWide b body
wide_terminator_back b body e = odd (length b % 2 == 1) e
  where
    tested : (good : Bool) → (nat_lt 1 (length b) && (slice_index b (length b - 2) == field_terminator) && (slice_index b (length b - 1) == 0)) ≡ good
        → cond good (Some (take (length b - 2) b)) None ≡ Some body → EndsWide b body
    tested false is e = absurd cc
    tested true is e =
        let outer = both_true (nat_lt 1 (length b) && (slice_index b (length b - 2) == field_terminator)) (slice_index b (length b - 1) == 0) is in
        let inner = both_true (nat_lt 1 (length b)) (slice_index b (length b - 2) == field_terminator) outer.0 in
        let some : 1 < length b = grind (arith, nat_tests, inner.0) in
        let mark : slice_index b (length b - 2) ≡ field_terminator = grind (arith, nat_tests, inner.1) in
        let last : slice_index b (length b - 1) ≡ 0 = grind (arith, nat_tests, outer.1) in
        let same : take (length b - 2) b ≡ body = cc in
        inl (last_two b some ∙ ap (λ c. take (length b - 2) b ++ (c ∷ slice_index b (length b - 1) ∷ [])) mark
        ∙ ap (λ c. take (length b - 2) b ++ (field_terminator ∷ c ∷ [])) last
        ∙ ap (λ t. t ++ (field_terminator ∷ 0 ∷ [])) same)

    odd : (is_odd : Bool) → cond is_odd (before_terminator b)
        (cond (nat_lt 1 (length b) && (slice_index b (length b - 2) == field_terminator) && (slice_index b (length b - 1) == 0))
        (Some (take (length b - 2) b)) None) ≡ Some body
        → EndsWide b body
    odd true e = inr (terminator_back b body e)
    odd false e = tested (nat_lt 1 (length b) && (slice_index b (length b - 2) == field_terminator) && (slice_index b (length b - 1) == 0)) refl e

-- what was cut whole left no bytes
whole_back : (cut : Option (List Subfield × List ℕ)) (row : List Subfield) → whole cut ≡ Some row → cut ≡ Some (row, [])
whole_back None row e = absurd cc
whole_back (Some x) row e = left x.0 x.1 e
  where
    left : (found : List Subfield) (rest : List ℕ) → cond (length rest == 0) (Some found) None ≡ Some row → cut_off found rest ≡ cut_off row []
    left found [] e = let same : found ≡ row = cc in ap (λ r. cut_off r []) same
    left found (c ∷ rest) e =
        let some : (length (c ∷ rest) == 0) ≡ false = grind (arith, nat_tests) in
        absurd cc

field_back : (forms : List Form) (bytes : List ℕ) (row : List Subfield) → AreBytes bytes → field_row forms bytes ≡ Some row → IsField forms bytes row
field_back forms bytes row all e = bound_back (λ (body : List ℕ). whole (cut_row forms body)) (IsField forms bytes row)
    (before_terminator bytes) row e (λ body is is_cut.
    let ends = terminator_back bytes body is in
    let parts = AreBytes-append body (field_terminator ∷ []) (subst AreBytes ends all) in
    let found = row_back forms body (row, []) parts.0 (whole_back (cut_row forms body) row is_cut) in
    record {
      is_row = found.is_row;
      bytes_are = ends ∙ ap (λ t. t ++ (field_terminator ∷ [])) (found.bytes_are ∙ append-nil (row_bytes row));
    })

-- a field of one row is decided
pub field_is_decided_lem : (forms : List Form) (bytes : List ℕ) (row : List Subfield) → All (λ b. b < 256) bytes
    → (IsField forms bytes row ↔ (field_row forms bytes ≡ Some row))
field_is_decided_lem forms bytes row all = (row_of_field forms bytes row, field_back forms bytes row (all_bytes bytes all))

-- the field's bytes are these with a terminator of the level
abbrev EndsAt : Bool → List ℕ → List ℕ → Type 0
EndsAt wide b body = MatchBool wide (EndsWide b body) (b ≡ body ++ (field_terminator ∷ []))

level_back : (wide : Bool) (b body : List ℕ) → cond wide (before_wide_terminator b) (before_terminator b) ≡ Some body → EndsAt wide b body
level_back true b body e = wide_terminator_back b body e
level_back false b body e = terminator_back b body e

body_bytes : (wide : Bool) (b body : List ℕ) → AreBytes b → EndsAt wide b body → AreBytes body
body_bytes true b body all (inl two) = (AreBytes-append body (field_terminator ∷ 0 ∷ []) (subst AreBytes two all)).0
body_bytes true b body all (inr one) = (AreBytes-append body (field_terminator ∷ []) (subst AreBytes one all)).0
body_bytes false b body all one = (AreBytes-append body (field_terminator ∷ []) (subst AreBytes one all)).0

rows_back_at_level : (level : ℕ) (forms : List Form) (bytes : List ℕ) (rows : List (List Subfield)) → AreBytes bytes
    → field_rows level forms bytes ≡ Some rows → IsFieldOfRows level forms bytes rows
rows_back_at_level level forms bytes rows all e = bound_back (λ (body : List ℕ). cut_rows (length body) forms body)
    (IsFieldOfRows level forms bytes rows) (body_at_level level bytes) rows e (λ body is is_cut.
    let ends = level_back (level == 2) bytes body is in
    let found = rows_back (length body) forms body rows (body_bytes (level == 2) bytes body all ends) is_cut in
    record {
      each = found.each;
      bytes_are = subst (EndsAt (level == 2) bytes) found.bytes_are ends;
    })

-- a field whose row repeats is decided
pub rows_are_decided_lem : (level : ℕ) (forms : List Form) (bytes : List ℕ) (rows : List (List Subfield)) → has_bytes forms ≡ true
    → fits_level level forms ≡ true → All (λ b. b < 256) bytes
    → (IsFieldOfRows level forms bytes rows ↔ (field_rows level forms bytes ≡ Some rows))
rows_are_decided_lem level forms bytes rows takes even all =
    (rows_of_field level forms bytes rows takes even, rows_back_at_level level forms bytes rows (all_bytes bytes all))
