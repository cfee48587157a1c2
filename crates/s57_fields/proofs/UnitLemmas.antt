-- The unit at which a text ends, by its place.
use Rattle.std.proofs.Common.{◌≡◌, ℕ, suc, ◌+◌, ◌≤◌, ◌==◌, ◌&&◌, ◌||◌, Bool, true, false, cond, List, [], ◌∷◌, length, take, drop, slice_index, Option, Some}
use Rattle.std.proofs.Common.{None, is_some, refl, sym, ap, ◌∙◌, arith}
use Rattle.std.specs.Option.{option_map}
use Rattle.s57_types.specs.Subfield.{unit_terminator, has_unit}
use Rattle.field_spec.specs.Cutting.{split_units}
use Rattle.s57_fields.specs.Units.{unit_place}

-- two bytes are the next unit
pub unit_place-step : (low : ℕ) (rest : List ℕ) → 2 ≤ length rest
    → unit_place low rest ≡ cond ((slice_index rest 0 == low) && (slice_index rest 1 == 0)) (Some 0) (option_map (λ i. i + 2) (unit_place low (drop 2 rest)))
unit_place-step low [] some = absurd (omega arith)
unit_place-step low (a ∷ []) some = absurd (omega arith)
unit_place-step low (a ∷ b ∷ rest) some = refl

moved : (at : ℕ) (place : Option ℕ) → option_map (λ i. i + at) (option_map (λ i. i + 2) place) ≡ option_map (λ i. i + (at + 2)) place
moved at None = refl
moved at (Some i) = ap Some (omega arith)

pub goes_on : (low at : ℕ) (rest : List ℕ) (total : Option ℕ) → 2 ≤ length rest → ((slice_index rest 0 == low) && (slice_index rest 1 == 0)) ≡ false
    → option_map (λ i. i + at) (unit_place low rest) ≡ total → option_map (λ i. i + (at + 2)) (unit_place low (drop 2 rest)) ≡ total
goes_on low at rest total some other so_far =
    sym (moved at (unit_place low (drop 2 rest)))
    ∙ sym (ap (option_map (λ i. i + at)) (unit_place-step low rest some
    ∙ ap (λ t. cond t (Some 0) (option_map (λ i. i + 2) (unit_place low (drop 2 rest)))) other))
    ∙ so_far

pub found : (low at : ℕ) (rest : List ℕ) (total : Option ℕ) → 2 ≤ length rest → ((slice_index rest 0 == low) && (slice_index rest 1 == 0)) ≡ true
    → option_map (λ i. i + at) (unit_place low rest) ≡ total → Some at ≡ total
found low at rest total some here so_far =
    let zero_at : at ≡ 0 + at = omega arith in
    ap Some zero_at
    ∙ sym (ap (option_map (λ i. i + at)) (unit_place-step low rest some
    ∙ ap (λ t. cond t (Some 0) (option_map (λ i. i + 2) (unit_place low (drop 2 rest)))) here))
    ∙ so_far

pub not_found : (low at : ℕ) (rest : List ℕ) (total : Option ℕ) → length rest ≤ 1 → option_map (λ i. i + at) (unit_place low rest) ≡ total → None ≡ total
not_found low at [] total few so_far = so_far
not_found low at (a ∷ []) total few so_far = so_far
not_found low at (a ∷ b ∷ rest) total few so_far = absurd (omega arith)

-- some unit is there exactly where it has a place
pub place_holds : (low : ℕ) (b : List ℕ) → is_some (unit_place low b) ≡ has_unit low b
place_holds low [] = refl
place_holds low (a ∷ []) = refl
place_holds low (a ∷ b ∷ rest) = either ((a == low) && (b == 0)) (unit_place low rest) (place_holds low rest)
  where
    later : (place : Option ℕ) → is_some (option_map (λ i. i + 2) place) ≡ is_some place
    later None = refl
    later (Some i) = refl

    either : (here : Bool) (place : Option ℕ) → is_some place ≡ has_unit low rest
        → is_some (cond here (Some 0) (option_map (λ i. i + 2) place)) ≡ (here || has_unit low rest)
    either true place same = refl
    either false place same = later place ∙ same

two_more : (c d i : ℕ) (rest : List ℕ) → (let a : List ℕ × List ℕ = (c ∷ d ∷ take i rest, drop (i + 2) rest) in let b : List ℕ × List ℕ =
    (take (i + 2) (c ∷ d ∷ rest), drop (i + 2 + 2) (c ∷ d ∷ rest)) in a ≡ b)
two_more c d i rest =
    let two : i + 2 ≡ suc (suc i) = omega arith in
    let four : i + 2 + 2 ≡ suc (suc (i + 2)) = omega arith in
    rw (four, two) refl

-- the text before a place and the bytes after its unit
abbrev parts : List ℕ → ℕ → List ℕ × List ℕ
parts b i = (take i b, drop (i + 2) b)

abbrev behind : ℕ → ℕ → List ℕ × List ℕ → List ℕ × List ℕ
behind c d x = (c ∷ d ∷ x.0, x.1)

-- a text ends at the place of its terminator
pub split_at_place : (b : List ℕ) → split_units b ≡ option_map (parts b) (unit_place unit_terminator b)
split_at_place [] = refl
split_at_place (c ∷ []) = refl
split_at_place (c ∷ d ∷ rest) = either ((c == unit_terminator) && (d == 0)) (unit_place unit_terminator rest) (split_at_place rest)
  where
    later : (place : Option ℕ) → option_map (behind c d) (option_map (parts rest) place)
        ≡ option_map (parts (c ∷ d ∷ rest)) (option_map (λ i. i + 2) place)
    later None = refl
    later (Some i) = ap Some (two_more c d i rest)

    either : (here : Bool) (place : Option ℕ) → split_units rest ≡ option_map (parts rest) place
        → cond here (Some ([], rest)) (option_map (behind c d) (split_units rest)) ≡ option_map (parts (c ∷ d ∷ rest))
        (cond here (Some 0) (option_map (λ i. i + 2) place))
    either true place same = refl
    either false place same = ap (option_map (behind c d)) same ∙ later place
