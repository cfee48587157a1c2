-- A row that was cut from bytes is cut from them where more bytes follow, too.
use Rattle.std.proofs.Common.{◌≡◌, ℕ, zero, suc, ◌+◌, ◌*◌, ◌/◌, ◌<◌, ◌≤◌, ◌==◌, ◌&&◌, Bool, true, false, not, cond, List, [], ◌∷◌, ◌++◌, length, take, drop}
use Rattle.std.proofs.Common.{nat_lt, Option, Some, None, get_or, refl, sym, ap, ◌∙◌, subst, arith, length-append, length-drop, drop-drop}
use Rattle.std.proofs.lemmas.List.{take-append-le, drop-append-le, take-append-drop}
use Rattle.std.proofs.lemmas.Bool.Decides.{nat_tests}
use Rattle.std.proofs.Math.Nat.{le-div_iff_mul-le, le-mul_of_pos_right}
use Rattle.std.specs.Option.{option_map, option_and_then}
use Rattle.std.specs.List.{list_all, position_or_len}
use Rattle.std.specs.Int.{w32, cast_signed}
use Rattle.std.specs.Simd.{first_chunks}
use Rattle.byteorder.specs.Endian.{little_number}
use Rattle.s57_types.specs.Subfield.{Form, Subfield, unsigned, signed, text, wide_text, fixed, unsigned_of, signed_of, text_of, wide_text_of, fixed_of}
use Rattle.s57_types.specs.Subfield.{unit_terminator, is_plain}
use Rattle.field_spec.specs.Cutting.{split, split_units, front, cut_row}
use Rattle.field_spec.proofs.CutBack.{mapped_back, bound_back}
use Rattle.s57_fields.specs.RowCutting.{take_row}
use Rattle.s57_fields.specs.RowLayouts.{RowLayout}

-- what was cut off, with more bytes behind what was left
abbrev with_more : {X : Type 0} → List ℕ → X × List ℕ → X × List ℕ
with_more more x = (x.0, x.1 ++ more)

split-more : (n : ℕ) (b more : List ℕ) (x : List ℕ × List ℕ) → split n b ≡ Some x → split n (b ++ more) ≡ Some (with_more more x)
split-more n b more x e = tested (nat_lt (length b) n) refl e
  where
    tested : (few : Bool) → nat_lt (length b) n ≡ few → cond few None (Some (take n b, drop n b)) ≡ Some x → split n (b ++ more) ≡ Some (with_more more x)
    tested true is e = absurd cc
    tested false is e =
        let enough : n ≤ length b = grind (arith, nat_tests) in
        let longer : nat_lt (length (b ++ more)) n ≡ false = grind (arith, nat_tests, length-append) in
        let same : (take n b, drop n b) ≡ x = cc in
        subst (λ y. split n (b ++ more) ≡ Some (with_more more y)) same (rw (longer, take-append-le n b more enough, drop-append-le n b more enough) refl)

-- the place of the first unit terminator
at_more : (p : ℕ → Bool) (b more : List ℕ) → position_or_len p b < length b → position_or_len p (b ++ more) ≡ position_or_len p b
at_more p [] more within = absurd (omega (arith, within))
at_more p (c ∷ b) more within = here (p c) within (at_more p b more)
  where
    here : (h : Bool) → cond (not h) (1 + position_or_len p b) 0 < suc (length b)
        → (position_or_len p b < length b → position_or_len p (b ++ more) ≡ position_or_len p b)
        → cond (not h) (1 + position_or_len p (b ++ more)) 0 ≡ cond (not h) (1 + position_or_len p b) 0
    here true w later = refl
    here false w later = ap (λ n. 1 + n) (later (omega (arith, w)))

text-more : (b more : List ℕ) (x : Subfield × List ℕ) → front text b ≡ Some x → front text (b ++ more) ≡ Some (with_more more x)
text-more b more x e = tested (nat_lt i (length b)) refl e
  where
    i : ℕ
    i = position_or_len (λ c. c == unit_terminator) b

    tested : (within : Bool) → nat_lt i (length b) ≡ within
        → option_map (λ k. (text_of (take k b), drop (k + 1) b)) (cond within (Some i) None) ≡ Some x → front text (b ++ more) ≡ Some (with_more more x)
    tested false is e = absurd cc
    tested true is e =
        let inside : i < length b = grind (arith, nat_tests) in
        let same : (text_of (take i b), drop (i + 1) b) ≡ x = cc in
        let place : position_or_len (λ c. c == unit_terminator) (b ++ more) ≡ i = at_more (λ c. c == unit_terminator) b more inside in
        let found : nat_lt i (length (b ++ more)) ≡ true = grind (arith, nat_tests, length-append) in
        subst (λ y. front text (b ++ more) ≡ Some (with_more more y)) same
        (rw (place, found, take-append-le i b more (omega arith), drop-append-le (i + 1) b more (omega arith)) refl)

split_units-more : (b more : List ℕ) (x : List ℕ × List ℕ) → split_units b ≡ Some x → split_units (b ++ more) ≡ Some (with_more more x)
split_units-more [] more x e = absurd cc
split_units-more (c ∷ []) more x e = absurd cc
split_units-more (c ∷ d ∷ rest) more x e = tested ((c == unit_terminator) && (d == 0)) e (split_units-more rest more)
  where
    tested : (ends : Bool) → cond ends (Some ([], rest)) (option_map (λ y. (c ∷ d ∷ y.0, y.1)) (split_units rest)) ≡ Some x
        → ((y : List ℕ × List ℕ) → split_units rest ≡ Some y → split_units (rest ++ more) ≡ Some (with_more more y))
        → cond ends (Some ([], rest ++ more)) (option_map (λ y. (c ∷ d ∷ y.0, y.1)) (split_units (rest ++ more))) ≡ Some (with_more more x)
    tested true e later = (let same : ([], rest) ≡ x = cc in subst (λ y. Some ([], rest ++ more) ≡ Some (with_more more y)) same refl)
    tested false e later =
        mapped_back (λ y. (c ∷ d ∷ y.0, y.1)) (λ z. option_map (λ y. (c ∷ d ∷ y.0, y.1)) (split_units (rest ++ more)) ≡ Some (with_more more z))
        (split_units rest) x e
        (λ y is. ap (option_map (λ z. (c ∷ d ∷ z.0, z.1))) (later y is))

front-more : (form : Form) (b more : List ℕ) (x : Subfield × List ℕ) → front form b ≡ Some x → front form (b ++ more) ≡ Some (with_more more x)
front-more (unsigned w) b more x e =
    mapped_back (λ (y : List ℕ × List ℕ). (unsigned_of w (little_number w y.0), y.1))
    (λ z. front (unsigned w) (b ++ more) ≡ Some (with_more more z)) (split w b) x e
    (λ y is. ap (option_map (λ (z : List ℕ × List ℕ). (unsigned_of w (little_number w z.0), z.1))) (split-more w b more y is))
front-more signed b more x e =
    mapped_back (λ (y : List ℕ × List ℕ). (signed_of (cast_signed w32 (little_number 4 y.0)), y.1))
    (λ z. front signed (b ++ more) ≡ Some (with_more more z)) (split 4 b) x e
    (λ y is. ap (option_map (λ (z : List ℕ × List ℕ). (signed_of (cast_signed w32 (little_number 4 z.0)), z.1))) (split-more 4 b more y is))
front-more text b more x e = text-more b more x e
front-more wide_text b more x e =
    mapped_back (λ (y : List ℕ × List ℕ). (wide_text_of y.0, y.1)) (λ z. front wide_text (b ++ more) ≡ Some (with_more more z)) (split_units b) x e
    (λ y is. ap (option_map (λ (z : List ℕ × List ℕ). (wide_text_of z.0, z.1))) (split_units-more b more y is))
front-more (fixed n) b more x e =
    mapped_back (λ (y : List ℕ × List ℕ). (fixed_of y.0, y.1)) (λ z. front (fixed n) (b ++ more) ≡ Some (with_more more z)) (split n b) x e
    (λ y is. ap (option_map (λ (z : List ℕ × List ℕ). (fixed_of z.0, z.1))) (split-more n b more y is))

cut_row-more : (forms : List Form) (b more : List ℕ) (x : List Subfield × List ℕ) → cut_row forms b ≡ Some x
    → cut_row forms (b ++ more) ≡ Some (with_more more x)
cut_row-more [] b more x e = (let same : ([], b) ≡ x = cc in subst (λ y. cut_row [] (b ++ more) ≡ Some (with_more more y)) same refl)
cut_row-more (form ∷ forms) b more x e =
    bound_back (λ (y : Subfield × List ℕ). option_map (λ (z : List Subfield × List ℕ). (y.0 ∷ z.0, z.1)) (cut_row forms y.1))
    (cut_row (form ∷ forms) (b ++ more) ≡ Some (with_more more x)) (front form b) x e
    (λ y first others.
    ap (option_and_then (λ (s : Subfield × List ℕ). option_map (λ (z : List Subfield × List ℕ). (s.0 ∷ z.0, z.1)) (cut_row forms s.1)))
    (front-more form b more y first)
    ∙ mapped_back (λ (z : List Subfield × List ℕ). (y.0 ∷ z.0, z.1))
    (λ w. option_map (λ (z : List Subfield × List ℕ). (y.0 ∷ z.0, z.1)) (cut_row forms (y.1 ++ more)) ≡ Some (with_more more w))
    (cut_row forms y.1) x others
    (λ z is. ap (option_map (λ (s : List Subfield × List ℕ). (y.0 ∷ s.0, s.1))) (cut_row-more forms y.1 more z is)))

pub take_row-more : {X : Type 0} (layout : RowLayout X) (b more : List ℕ)
    (x : X) (plain : Bool) (after : List ℕ)
    → take_row layout b ≡ Some (x, plain, after) → take_row layout (b ++ more) ≡ Some (x, plain, after ++ more)
take_row-more {X} layout b more x plain after e =
    bound_back judge (take_row layout (b ++ more) ≡ Some (x, plain, after ++ more)) (cut_row layout.forms b) (x, plain, after) e
    (λ y cut is. ap (option_and_then judge) (cut_row-more layout.forms b more y cut) ∙ tested y (layout.good y.0) is)
  where
    answer : List Subfield × List ℕ → Bool → Option (X × Bool × List ℕ)
    answer y g = cond {A = Option (X × Bool × List ℕ)} g (Some (layout.value y.0, list_all is_plain y.0, y.1)) None

    judge : List Subfield × List ℕ → Option (X × Bool × List ℕ)
    judge y = answer y (layout.good y.0)

    tested : (y : List Subfield × List ℕ) (g : Bool) → answer y g ≡ Some (x, plain, after) → answer (with_more more y) g ≡ Some (x, plain, after ++ more)
    tested y true is = ap (λ (z : Option (X × Bool × List ℕ)). option_map (λ r. (r.0, r.1, r.2 ++ more)) z) is
    tested y false is = absurd cc

-- the chunks of so many bytes
pub get_chunk : (n k count : ℕ) (xs d : List ℕ) → k < count → get_or (first_chunks n count xs) k d ≡ take n (drop (k * n) xs)
get_chunk n k zero xs d within = absurd (omega (arith, within))
get_chunk n zero (suc count) xs d within = ap (λ j. take n (drop j xs)) (let none : 0 ≡ 0 * n = omega arith in none)
get_chunk n (suc k) (suc count) xs d within =
    get_chunk n k count (drop n xs) d (omega (arith, within)) ∙ ap (take n) (drop-drop (k * n) n xs ∙ ap (λ j. drop j xs) (omega arith))

-- the row that fills a chunk is the next row
pub chunk_row : {X : Type 0} (layout : RowLayout X) (n k : ℕ) (xs : List ℕ) (x : X) (plain : Bool)
    → take_row layout (take n (drop (k * n) xs)) ≡ Some (x, plain, [])
    → take_row layout (drop (k * n) xs) ≡ Some (x, plain, drop ((k + 1) * n) xs)
chunk_row layout n k xs x plain e =
    ap (take_row layout) (sym (take-append-drop n (drop (k * n) xs)))
    ∙ take_row-more layout (take n (drop (k * n) xs)) (drop n (drop (k * n) xs)) x plain [] e
    ∙ ap (λ rest. Some (x, plain, rest)) (drop-drop n (k * n) xs ∙ ap (λ j. drop j xs) (omega arith))

-- behind each chunk fewer bytes are left, and before it stand no fewer bytes than chunks
pub chunk_room : (n k : ℕ) (xs : List ℕ) → 0 < n → k < length xs / n
    → (length (drop (k * n) xs) + k ≤ length xs) × (length (drop ((k + 1) * n) xs) < length (drop (k * n) xs))
chunk_room n k xs some within =
    let next : k + 1 ≤ length xs / n = omega (arith, within) in
    let whole : (k + 1) * n ≤ length xs = (le-div_iff_mul-le some).0 next in
    let before : k ≤ k * n = le-mul_of_pos_right k some in
    let here = length-drop (k * n) xs in
    let behind = length-drop ((k + 1) * n) xs in
    (omega (arith, whole, before, here), omega (arith, some, whole, here, behind))
