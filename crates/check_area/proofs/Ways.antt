-- One step of a sum along points, and along the parts of a loop.
use Rattle.std.proofs.Common.{◌≡◌, ℕ, ◌+◌, ◌<◌, ℤ, ◌+ℤ◌, List, ◌∷◌, length, drop, get_or, sym, ap, ◌∙◌}
use Rattle.std.proofs.Math.IntN.{+ℤ_assoc}
use Rattle.std.proofs.lemmas.List.{drop_more}
use Rattle.geometry_spec.specs.Areas.{twice_area_step, twice_area_along}
use Rattle.geometry_spec.specs.Points.{Point}
use Rattle.check_area.specs.declared.part.BoundaryEdge.{BoundaryEdge}
use Rattle.check_area.specs.Parts.{area_home}
use Rattle.check_area.specs.Sweeps.{last_point}

-- the sum along what is left, one point on
pub area_on : (at next : Point) (swept further : ℤ) (rest : List Point) (k : ℕ) (d : Point) → k < length rest → next ≡ get_or rest k d
    → further ≡ (swept +ℤ twice_area_step at (get_or rest k d)) → (further +ℤ twice_area_along (next ∷ drop (k + 1) rest)) ≡
    (swept +ℤ twice_area_along (at ∷ drop k rest))
area_on at next swept further rest k d h e f =
    (λ i. f i +ℤ twice_area_along (e i ∷ drop (k + 1) rest))
    ∙ +ℤ_assoc swept (twice_area_step at (get_or rest k d)) (twice_area_along (get_or rest k d ∷ drop (k + 1) rest))
    ∙ ap (λ l. swept +ℤ twice_area_along (at ∷ l)) (sym (drop_more rest k d h))

-- the last point of what is left, one point on
pub last_on : (at next : Point) (rest : List Point) (k : ℕ) (d : Point) → k < length rest → next ≡ get_or rest k d
    → last_point (next ∷ drop (k + 1) rest) ≡ last_point (at ∷ drop k rest)
last_on at next rest k d h e = ap (λ p. last_point (p ∷ drop (k + 1) rest)) e ∙ ap (λ l. last_point (at ∷ l)) (sym (drop_more rest k d h))

-- the sum along the parts that are left, one part on
pub home_on : (home at next : Point) (swept further : ℤ) (parts : List BoundaryEdge) (k : ℕ) (d : BoundaryEdge) → k < length parts
    → next ≡ (get_or parts k d).sweep.last
    → further ≡ ((swept +ℤ twice_area_step at (get_or parts k d).sweep.first) +ℤ (get_or parts k d).sweep.swept)
    → (further +ℤ area_home home next (drop (k + 1) parts)) ≡ (swept +ℤ area_home home at (drop k parts))
home_on home at next swept further parts k d h e f =
    let part = get_or parts k d in
    let step = twice_area_step at part.sweep.first in
    let rest = area_home home part.sweep.last (drop (k + 1) parts) in
    (λ i. f i +ℤ area_home home (e i) (drop (k + 1) parts))
    ∙ ap (λ t. t +ℤ rest) (+ℤ_assoc swept step part.sweep.swept)
    ∙ +ℤ_assoc swept (step +ℤ part.sweep.swept) rest
    ∙ ap (λ l. swept +ℤ area_home home at l) (sym (drop_more parts k d h))
