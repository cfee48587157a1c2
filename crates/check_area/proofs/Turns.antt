-- The turn of a loop, by the sweeps of its lines.
use Rattle.std.proofs.Common.{◌≡◌, ℕ, ◌<◌, ◌==◌, Bool, true, false, ℤ, pos, ◌+ℤ◌, ◌-ℤ◌, List, [], ◌∷◌, ◌++◌, length, map, flat_map, reverse, cond, refl, sym}
use Rattle.std.proofs.Common.{ap, ◌∙◌, append_assoc, arith}
use Rattle.std.specs.List.{AllByRecursion}
use Rattle.std.proofs.lemmas.Grind.{reverse_onto}
use Rattle.std.proofs.lemmas.Int.{ints}
use Rattle.std.proofs.lemmas.List.{reverse-reverse}
use Rattle.geometry_spec.specs.Areas.{signed_double_area, twice_area_step, twice_area_along}
use Rattle.geometry_spec.specs.Points.{Point}
use Rattle.geometry_spec.proofs.AreaSums.{twice_area_along-append}
use Rattle.rule_spec.specs.declared.line.BoundaryRow.{BoundaryRow}
use Rattle.rule_spec.specs.declared.line.EdgeLine.{EdgeLine}
use Rattle.rule_spec.specs.Boundary.{line_along, reversed_line, turn_of_loop}
use Rattle.near_records.specs.declared.ends.LineEnd.{LineEnd}
use Rattle.check_area.specs.Parts.{area_home, part_of, turn_of_parts}
use Rattle.check_area.specs.Sweeps.{first_point, last_point, sweep_along, sweep_between, sweep_of, turned_sweep}

-- ---- a line from its end to its beginning
step_turned : (p q : Point) → twice_area_step q p ≡ (pos 0 -ℤ twice_area_step p q)
step_turned p q = omega (arith, ints)

pub last-append : (points : List Point) (p : Point) → last_point (points ++ p ∷ []) ≡ p
last-append [] p = refl
last-append (a ∷ []) p = refl
last-append (a ∷ b ∷ points) p = last-append (b ∷ points) p

last-reverse : (points : List Point) → last_point (reverse points) ≡ first_point points
last-reverse [] = refl
last-reverse (p ∷ points) = ap last_point (reverse_onto points p []) ∙ last-append (reverse points) p

first-reverse : (points : List Point) → first_point (reverse points) ≡ last_point points
first-reverse points = sym (last-reverse (reverse points)) ∙ ap last_point (reverse-reverse points)

area-reverse : (points : List Point) → twice_area_along (reverse points) ≡ (pos 0 -ℤ twice_area_along points)
area-reverse [] = refl
area-reverse (p ∷ []) = refl
area-reverse (p ∷ q ∷ points) =
    ap twice_area_along (reverse_onto (q ∷ points) p [] ∙ ap (λ l. l ++ p ∷ []) (reverse_onto points q []))
    ∙ twice_area_along-append (reverse points) q p
    ∙ omega (arith, ints, step_turned p q, sym (ap twice_area_along (reverse_onto points q [])) ∙ area-reverse (q ∷ points))

sweep-reversed : (line : EdgeLine) → sweep_of (reversed_line line) ≡ turned_sweep (sweep_of line)
sweep-reversed line = λ i. record {
  begins = line.ends;
  ends = line.begins;
  first = first-reverse line.points i;
  last =
      last-reverse line.points i;
  swept = area-reverse line.points i;
}

sweep_by : (turned : Bool) (line : EdgeLine) → sweep_of (cond turned (reversed_line line) line) ≡ cond turned (turned_sweep (sweep_of line)) (sweep_of line)
sweep_by true line = sweep-reversed line
sweep_by false line = refl

-- what a line sweeps as a spatial pointer goes along it
pub sweep-along : (ornt : ℕ) (line : EdgeLine) → sweep_of (line_along ornt line) ≡ sweep_along ornt (sweep_of line)
sweep-along ornt line = sweep_by (ornt == 2) line

-- ---- a loop
-- the sum along two lists, with the step from the last point of the one to the first of the other
pub area-append : (p : Point) (points more : List Point) → twice_area_along (p ∷ (points ++ more)) ≡
    (twice_area_along (p ∷ points) +ℤ twice_area_along (last_point (p ∷ points) ∷ more))
area-append p [] more = omega (arith, ints)
area-append p (q ∷ points) more = omega (arith, ints, area-append q points more)

-- a row has points
abbrev pub HasPoints : BoundaryRow → Type 0
HasPoints row = 0 < length row.line.points

abbrev points_of : List BoundaryRow → List Point
points_of rows = flat_map (λ (row : BoundaryRow). row.line.points) rows

one_on : (home at : Point) (points rest : List Point) (area : ℤ) → 0 < length points → area ≡ twice_area_along (last_point points ∷ (rest ++ home ∷ []))
    → ((twice_area_step at (first_point points) +ℤ twice_area_along points) +ℤ area) ≡ twice_area_along (at ∷ ((points ++ rest) ++ home ∷ []))
one_on home at [] rest area h e = absurd (omega (arith, h))
one_on home at (p ∷ points) rest area h e =
    omega (arith, ints, e, area-append p points (rest ++ home ∷ []), ap (λ l. twice_area_along (p ∷ l)) (append_assoc points rest (home ∷ [])))

-- the sum of what parts sweep is the sum along the points of their rows
home-rows : (home at : Point) (rows : List BoundaryRow) → AllByRecursion HasPoints rows
    → area_home home at (map part_of rows) ≡ twice_area_along (at ∷ (points_of rows ++ home ∷ []))
home-rows home at [] h = omega (arith, ints)
home-rows home at (row ∷ rows) h =
    one_on home at row.line.points (points_of rows) (area_home home (last_point row.line.points) (map part_of rows)) h.0
    (home-rows home (last_point row.line.points) rows h.1)

back_home : (points rest : List Point) (first : Point) → 0 < length points → first ≡ first_point points
    → twice_area_along (first ∷ ((points ++ rest) ++ first ∷ [])) ≡ signed_double_area (points ++ rest)
back_home [] rest first h e = absurd (omega (arith, h))
back_home (p ∷ points) rest first h e =
    ap (λ (q : Point). twice_area_along (q ∷ (((p ∷ points) ++ rest) ++ q ∷ []))) e
    ∙ omega (arith, ints)

-- the turn of a loop of rows with points
pub turn-rows : (rows : List BoundaryRow) → AllByRecursion HasPoints rows → turn_of_parts (map part_of rows) ≡ turn_of_loop rows
turn-rows [] h = refl
turn-rows (row ∷ rows) h =
    home-rows (first_point row.line.points) (first_point row.line.points) (row ∷ rows) h
    ∙ back_home row.line.points (points_of rows) (first_point row.line.points) h.0 refl

-- what a line between two nodes sweeps: its inner points, and the step to the last
pub between_is : (begins ends : LineEnd) (points : List Point) (swept : ℤ)
    → swept ≡ (twice_area_along (begins.at ∷ points) +ℤ twice_area_step (last_point (begins.at ∷ points)) ends.at)
    → sweep_between begins points ends ≡ record { begins = begins.node; ends = ends.node; first = begins.at; last = ends.at; swept = swept }
between_is begins ends points swept e =
    let all : twice_area_along (begins.at ∷ (points ++ ends.at ∷ [])) ≡ swept = omega (arith, ints, e, area-append begins.at points (ends.at ∷ [])) in
    λ i. record { begins = begins.node; ends = ends.node; first = begins.at; last = last-append (begins.at ∷ points) ends.at i; swept = all i }
