-- The bytes that spell subfields are cut into these subfields.
use Rattle.std.proofs.Common.{◌≡◌, ℕ, ◌+◌, ◌%◌, ◌^◌, ◌<◌, ◌==◌, ◌&&◌, ◌||◌, Bool, true, false, not, List, [], ◌∷◌, ◌++◌, length, map, take, drop, position}
use Rattle.std.proofs.Common.{nat_lt, Option, Some, refl, sym, ap, ◌∙◌, append_assoc, length-append, arith}
use Rattle.std.specs.Prelude.{ℤ, FitsSigned}
use Rattle.std.proofs.Math.Seq.{take-append_seam, drop-append_seam}
use Rattle.std.proofs.lemmas.List.{append-nil}
use Rattle.std.proofs.lemmas.Bool.Decides.{nat_tests}
use Rattle.std.proofs.Math.Facts.{Fits-of_z, Fits-lt-pow, to_z-of_z}
use Rattle.std.specs.Option.{option_map, option_and_then}
use Rattle.std.specs.List.{prefix_len, AllByRecursion}
use Rattle.std.specs.Int.{w32, cast_unsigned, cast_signed, bytes_low_first}
use Rattle.byteorder.specs.Endian.{little_number, little_from}
use Rattle.byteorder.specs.Numbers.{little_number-reads_back, length-bytes_low_first}
use Rattle.s57_types.specs.Subfield.{Subfield, unsigned, signed, text, wide_text, unsigned_of, signed_of, text_of, wide_text_of, fixed_of, form_of, spelling}
use Rattle.s57_types.specs.Subfield.{row_bytes, IsSubfield, unit_terminator, holds, has_unit}
use Rattle.field_spec.specs.Cutting.{split, split_units, front, cut_row}

-- a subfield and the bytes after it
abbrev pub cut_off : {X : Type 0} → X → List ℕ → Option (X × List ℕ)
cut_off x rest = Some (x, rest)

abbrev with_bytes : (List ℕ → Subfield) → List ℕ × List ℕ → Subfield × List ℕ
with_bytes value x = (value x.0, x.1)

pub split_append : (n : ℕ) (xs rest : List ℕ) → length xs ≡ n → split n (xs ++ rest) ≡ cut_off xs rest
split_append n xs rest is =
    let total = length-append xs rest in
    let enough : nat_lt (length (xs ++ rest)) n ≡ false = grind (arith, nat_tests, total) in
    let first : take n (xs ++ rest) ≡ xs = ap (λ k. take k (xs ++ rest)) (sym is) ∙ take-append_seam xs rest in
    let later : drop n (xs ++ rest) ≡ rest = ap (λ k. drop k (xs ++ rest)) (sym is) ∙ drop-append_seam xs rest in
    rw (enough, first, later) refl

number_reads : (w n : ℕ) → n < 256 ^ w → little_number w (bytes_low_first 0 w n) ≡ n
number_reads w n fits = ap (little_from 0 w) (sym (append-nil (bytes_low_first 0 w n))) ∙ little_number-reads_back w n [] fits

unsigned_front : (w n : ℕ) (rest : List ℕ) → n < 256 ^ w → front (unsigned w) (bytes_low_first 0 w n ++ rest) ≡ cut_off (unsigned_of w n) rest
unsigned_front w n rest fits =
    ap (option_map (with_bytes (λ b. unsigned_of w (little_number w b)))) (split_append w (bytes_low_first 0 w n) rest (length-bytes_low_first 0 w n))
    ∙ ap (λ m. cut_off (unsigned_of w m) rest) (number_reads w n fits)

signed_front : (z : ℤ) (rest : List ℕ) → FitsSigned w32 z → front signed (bytes_low_first 0 4 (cast_unsigned w32 z) ++ rest) ≡ cut_off (signed_of z) rest
signed_front z rest fits =
    ap (option_map (with_bytes (λ b. signed_of (cast_signed w32 (little_number 4 b)))))
    (split_append 4 (bytes_low_first 0 4 (cast_unsigned w32 z)) rest (length-bytes_low_first 0 4 (cast_unsigned w32 z)))
    ∙ ap (λ m. cut_off (signed_of (cast_signed w32 m)) rest) (number_reads 4 (cast_unsigned w32 z) (Fits-lt-pow (Fits-of_z fits)))
    ∙ ap (λ y. cut_off (signed_of y) rest) (to_z-of_z fits)

neither : (a b : Bool) → (a || b) ≡ false → (a ≡ false) × (b ≡ false)
neither true b e = absurd cc
neither false b e = (refl, e)

-- a text ends at the first terminator
text_length : (t rest : List ℕ) → holds unit_terminator t ≡ false → prefix_len (λ c. not (c == unit_terminator)) (t ++ (unit_terminator ∷ rest)) ≡ length t
text_length [] rest none = refl
text_length (c ∷ t) rest none =
    let parts = neither (c == unit_terminator) (holds unit_terminator t) none in
    let later = text_length t rest parts.1 in
    rw (parts.0, later) (omega arith)

text_front : (t rest : List ℕ) → holds unit_terminator t ≡ false → front text ((t ++ (unit_terminator ∷ [])) ++ rest) ≡ cut_off (text_of t) rest
text_front t rest none =
    let b = t ++ (unit_terminator ∷ rest) in
    let regroup : (t ++ (unit_terminator ∷ [])) ++ rest ≡ b = append_assoc t (unit_terminator ∷ []) rest in
    let place = text_length t rest none in
    let total = length-append t (unit_terminator ∷ rest) in
    let found : nat_lt (length t) (length b) ≡ true = grind (arith, nat_tests, total) in
    let at : position (λ c. c == unit_terminator) b ≡ Some (length t) = rw (place, found) refl in
    let first = take-append_seam t (unit_terminator ∷ rest) in
    let size : length (t ++ (unit_terminator ∷ [])) ≡ length t + 1 = length-append t (unit_terminator ∷ []) in
    let later : drop (length t + 1) b ≡ rest = ap (λ n. drop n b) (sym size) ∙ ap (drop (length (t ++ (unit_terminator ∷ [])))) (sym regroup)
    ∙ drop-append_seam (t ++ (unit_terminator ∷ [])) rest in
    ap (front text) regroup ∙ rw (at, first, later) refl

wide_front : (t rest : List ℕ) → length t % 2 ≡ 0 → has_unit unit_terminator t ≡ false → split_units (t ++ (unit_terminator ∷ 0 ∷ rest)) ≡ cut_off t rest
wide_front [] rest even none = refl
wide_front (c ∷ []) rest even none = absurd (omega arith)
wide_front (c ∷ d ∷ t) rest even none =
    let parts = neither ((c == unit_terminator) && (d == 0)) (has_unit unit_terminator t) none in
    let shorter : length t % 2 ≡ 0 = omega arith in
    let later = wide_front t rest shorter parts.1 in
    rw (parts.0, later) refl

-- a subfield is cut off from the bytes that begin with its spelling
pub front_spelling : (s : Subfield) (rest : List ℕ) → IsSubfield s → front (form_of s) (spelling s ++ rest) ≡ cut_off s rest
front_spelling (unsigned_of w n) rest fits = unsigned_front w n rest fits
front_spelling (signed_of z) rest fits = signed_front z rest fits
front_spelling (text_of t) rest fits = text_front t rest fits
front_spelling (wide_text_of t) rest fits =
    ap (front wide_text) (append_assoc t (unit_terminator ∷ 0 ∷ []) rest) ∙ ap (option_map (with_bytes wide_text_of)) (wide_front t rest fits.0 fits.1)
front_spelling (fixed_of t) rest fits = ap (option_map (with_bytes fixed_of)) (split_append (length t) t rest refl)

-- a row is cut off from the bytes that begin with its spelling
pub cut_row_spelling : (row : List Subfield) (rest : List ℕ) → AllByRecursion IsSubfield row
    → cut_row (map form_of row) (row_bytes row ++ rest) ≡ cut_off row rest
cut_row_spelling [] rest fits = refl
cut_row_spelling (s ∷ row) rest fits =
    ap (cut_row (form_of s ∷ map form_of row)) (append_assoc (spelling s) (row_bytes row) rest)
    ∙ ap (option_and_then (λ x. option_map (λ y. (x.0 ∷ y.0, y.1)) (cut_row (map form_of row) x.1))) (front_spelling s (row_bytes row ++ rest) fits.0)
    ∙ ap (option_map (λ y. (s ∷ y.0, y.1))) (cut_row_spelling row rest fits.1)
