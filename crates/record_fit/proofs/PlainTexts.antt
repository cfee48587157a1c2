-- Which texts of rows are plain.
use Rattle.std.proofs.Common.{◌≡◌, ℕ, suc, ◌<◌, ◌≤◌, ◌%◌, ◌==◌, Bool, true, false, not, ◌&&◌, ◌||◌, List, [], ◌∷◌, length, get_or, drop, refl, sym, ◌∙◌, ap}
use Rattle.std.proofs.Common.{arith}
use Rattle.std.specs.List.{list_all, flat_map}
use Rattle.s57_types.specs.Subfield.{is_plain, text_of, wide_text_of, has_unit}
use Rattle.s57_types.specs.FieldRows.{level_text, partner_row}
use Rattle.s57_types.specs.Fitness.{attribute_texts}
use Rattle.s57_types.specs.declared.record.Attr.{Attr}
use Rattle.s57_types.specs.declared.record.Partner.{Partner}

pub attribute_texts_plain : (level : ℕ) (attrs : List Attr) → list_all is_plain (attribute_texts level attrs) ≡ list_all
    (λ a. is_plain (level_text level a.value)) attrs
attribute_texts_plain level [] = refl
attribute_texts_plain level (a ∷ attrs) = ap (λ b. is_plain (level_text level a.value) && b) (attribute_texts_plain level attrs)

pub partner_texts_plain : (partners : List Partner) → list_all is_plain (flat_map partner_row partners) ≡ list_all (λ p. is_plain (text_of p.comt)) partners
partner_texts_plain [] = refl
partner_texts_plain (p ∷ partners) = ap (λ b. is_plain (text_of p.comt) && b) (partner_texts_plain partners)

-- a two-byte unit is one of the terminators
abbrev pub is_control_unit : ℕ → ℕ → Bool
is_control_unit low high = ((low == 30) && (high == 0)) || ((low == 31) && (high == 0))

regrouped : (x y even u v : Bool) → (even && not ((x || u) || (y || v))) ≡ (not (x || y) && (even && not (u || v)))
regrouped true y true u v = refl
regrouped true y false u v = refl
regrouped false true true true v = refl
regrouped false true true false v = refl
regrouped false true false u v = refl
regrouped false false even u v = refl

-- the first unit, and the others
pub wide_text_by_unit : (t : List ℕ) → 1 < length t → is_plain (wide_text_of t) ≡
    (not (is_control_unit (get_or t 0 0) (get_or t 1 0)) && is_plain (wide_text_of (drop 2 t)))
wide_text_by_unit [] long = absurd (omega arith)
wide_text_by_unit (a ∷ []) long = absurd (omega arith)
wide_text_by_unit (a ∷ b ∷ t) long =
    let even : suc (suc (length t)) % 2 ≡ length t % 2 = omega arith in
    ap (λ n. (n == 0) && not (has_unit 30 (a ∷ b ∷ t) || has_unit 31 (a ∷ b ∷ t))) even
    ∙ regrouped ((a == 30) && (b == 0)) ((a == 31) && (b == 0)) (length t % 2 == 0) (has_unit 30 t) (has_unit 31 t)

pub wide_text_of_no_unit : (t : List ℕ) → length t ≤ 1 → is_plain (wide_text_of t) ≡ (length t == 0)
wide_text_of_no_unit [] short = refl
wide_text_of_no_unit (a ∷ []) short = refl
wide_text_of_no_unit (a ∷ b ∷ t) short = absurd (omega arith)

pub wide_text_at_control : (t : List ℕ) → 1 < length t → is_control_unit (get_or t 0 0) (get_or t 1 0) ≡ true → is_plain (wide_text_of t) ≡ false
wide_text_at_control t long control = wide_text_by_unit t long ∙ ap (λ b. not b && is_plain (wide_text_of (drop 2 t))) control

pub wide_text_behind : (t : List ℕ) → 1 < length t → is_control_unit (get_or t 0 0) (get_or t 1 0) ≡ false
    → is_plain (wide_text_of (drop 2 t)) ≡ is_plain (wide_text_of t)
wide_text_behind t long other = sym (wide_text_by_unit t long ∙ ap (λ b. not b && is_plain (wide_text_of (drop 2 t))) other)
