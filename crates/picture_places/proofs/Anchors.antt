-- Where marks are held, told without their strokes.
use Rattle.std.proofs.Common.{◌≡◌, ℕ, zero, suc, ◌+◌, ◌-◌, ◌/◌, ◌<◌, ℤ, List, [], ◌∷◌, ◌++◌, Option, None, Some, get_or, length, drop, is_some, true}
use Rattle.std.proofs.Common.{false, cond, ◌==◌, map, refl, ap, sym, ◌∙◌, arith}
use Rattle.std.specs.List.{flat_map}
use Rattle.std.proofs.lemmas.List.{drop_more, length-map}
use Rattle.std.proofs.lemmas.Bool.{false≢true, ne_eqb}
use Rattle.geometry_spec.specs.Points.{Point}
use Rattle.geometry_spec.specs.declared.tile.Box4.{Box4}
use Rattle.picture_places.specs.declared.page.PagePoint.{PagePoint}
use Rattle.picture_places.specs.Labels.{anchor_of, half_way, middle_of, or_else, point_at}
use Rattle.picture_places.specs.Page.{page_point, without_depth}
use Rattle.picture_places.specs.Strokes.{Stroke, dot_at}

or_else_on : (a b c : Option PagePoint) → or_else a (or_else b c) ≡ or_else (or_else a b) c
or_else_on None b c = refl
or_else_on (Some p) b c = refl

-- of strokes one after the other, the first that is anywhere
pub first_held : (xs ys : List Stroke) → anchor_of (xs ++ ys) ≡ or_else (anchor_of xs) (anchor_of ys)
first_held [] ys = refl
first_held (x ∷ xs) ys = ap (or_else (middle_of x)) (first_held xs ys) ∙ or_else_on (middle_of x) (anchor_of xs) (anchor_of ys)

half_of_two : (n : ℕ) → (n + n) / 2 ≡ n
half_of_two n = omega arith

-- a dot is held where it is
pub dot_held : (p : PagePoint) → middle_of (p ∷ []) ≡ Some p
dot_held p = λ i. Some (record { x = half_of_two p.x i; y = half_of_two p.y i })

pub dot_first : (p : PagePoint) (rest : List Stroke) → anchor_of ((p ∷ []) ∷ rest) ≡ Some p
dot_first p rest = ap (λ at. or_else at (anchor_of rest)) (dot_held p)

-- a sounding is held where it is
pub sounding_first : (around : Box4) (deep : List (ℤ × ℤ × ℤ)) (d : ℤ × ℤ × ℤ) → 0 < length deep
    → Some (page_point around (without_depth (get_or deep 0 d))) ≡ anchor_of (map (dot_at around) (map without_depth deep))
sounding_first around [] d some = absurd (omega (arith, some))
sounding_first around (s ∷ deep) d some =
    sym (dot_first (page_point around (without_depth s)) (map (dot_at around) (map without_depth deep)))

-- a point of a stroke through points
pub point_through : (around : Box4) (points : List Point) (k : ℕ) (d : Point) → k < length points
    → point_at (map (page_point around) points) k ≡ page_point around (get_or points k d)
point_through around [] k d within = absurd (omega (arith, within))
point_through around (p ∷ points) zero d within = refl
point_through around (p ∷ points) (suc k) d within = point_through around points k d (omega (arith, within))

-- the middle of a stroke through points
pub middle_is : (around : Box4) (points : List Point) (a b : PagePoint) (d e : Point) → (length points ≡ 0 → ⊥)
    → a ≡ page_point around (get_or points ((length points - 1) / 2) d) → b ≡ page_point around (get_or points (length points / 2) e)
    → Some (half_way a b) ≡ middle_of (map (page_point around) points)
middle_is around [] a b d e some is_a is_b = absurd (some refl)
middle_is around (p ∷ more) a b d e some is_a is_b =
    let points = p ∷ more in
    let stroke = map (page_point around) points in
    let before : (length points - 1) / 2 < length points = omega arith in
    let behind : length points / 2 < length points = omega arith in
    let same = length-map points (page_point around) in
    let first : a ≡ point_at stroke ((length stroke - 1) / 2) =
    is_a ∙ sym (point_through around points ((length points - 1) / 2) d before) ∙ ap (λ n. point_at stroke ((n - 1) / 2)) (sym same) in
    let second : b ≡ point_at stroke (length stroke / 2) =
    is_b ∙ sym (point_through around points (length points / 2) e behind) ∙ ap (λ n. point_at stroke (n / 2)) (sym same) in
    let middle = Some (half_way (point_at stroke ((length stroke - 1) / 2)) (point_at stroke (length stroke / 2))) in
    let filled : (length stroke == 0) ≡ false = ne_eqb (length stroke) 0 (λ none. some (sym same ∙ none)) in
    (λ i. Some (half_way (first i) (second i))) ∙ sym (ap (λ empty. cond empty None middle) filled)

-- of two lists of points, the first that has one
pub both_held : (around : Box4) (xs ys : List Point)
    → anchor_of (map (dot_at around) (xs ++ ys)) ≡ or_else (anchor_of (map (dot_at around) xs)) (anchor_of (map (dot_at around) ys))
both_held around [] ys = refl
both_held around (x ∷ xs) ys =
    ap (or_else (middle_of (dot_at around x))) (both_held around xs ys)
    ∙ or_else_on (middle_of (dot_at around x)) (anchor_of (map (dot_at around) xs)) (anchor_of (map (dot_at around) ys))

-- of lists of strokes from a place on: the first that is anywhere, or one of those behind it
next_held : {X : Type 0} (f : X → List Stroke) (xs : List X) (k : ℕ) (d : X) → k < length xs
    → anchor_of (flat_map f (drop k xs)) ≡ or_else (anchor_of (f (get_or xs k d))) (anchor_of (flat_map f (drop (k + 1) xs)))
next_held f xs k d within =
    ap (λ rest. anchor_of (flat_map f rest)) (drop_more xs k d within) ∙ first_held (f (get_or xs k d)) (flat_map f (drop (k + 1) xs))

pub here : {X : Type 0} (f : X → List Stroke) (xs : List X) (k : ℕ) (d : X) (at : Option PagePoint) → k < length xs
    → at ≡ anchor_of (f (get_or xs k d)) → is_some at ≡ true → at ≡ anchor_of (flat_map f (drop k xs))
here f xs k d at within is some = by at some ∙ ap (λ held. or_else held rest) is ∙ sym (next_held f xs k d within)
  where
    rest : Option PagePoint
    rest = anchor_of (flat_map f (drop (k + 1) xs))

    by : (held : Option PagePoint) → is_some held ≡ true → held ≡ or_else held rest
    by None hit = absurd (false≢true hit)
    by (Some p) _ = refl

pub behind : {X : Type 0} (f : X → List Stroke) (xs : List X) (k : ℕ) (d : X) (at : Option PagePoint) → k < length xs
    → at ≡ anchor_of (f (get_or xs k d)) → is_some at ≡ false → anchor_of (flat_map f (drop (k + 1) xs)) ≡ anchor_of (flat_map f (drop k xs))
behind f xs k d at within is none = by at none ∙ ap (λ held. or_else held rest) is ∙ sym (next_held f xs k d within)
  where
    rest : Option PagePoint
    rest = anchor_of (flat_map f (drop (k + 1) xs))

    by : (held : Option PagePoint) → is_some held ≡ false → rest ≡ or_else held rest
    by None _ = refl
    by (Some p) missed = absurd (false≢true (sym missed))
