-- A line of at most one segment doesn't meet itself.
use Rattle.std.proofs.Common.{◌≡◌, ◌≤◌, Bool, true, false, List, [], ◌∷◌, is_some, length, refl, arith}
use Rattle.std.specs.Prelude.{if◌then◌else◌}
use Rattle.geometry_spec.specs.Points.{Point}
use Rattle.rule_spec.specs.Rule.{Found}
use Rattle.rule_spec.specs.Vectors.{self_meet_of, stacked_segment}

none : Found
none = []

either : (b : Bool) → (if b then none else none) ≡ none
either true = refl
either false = refl

pub short_line : (points : List Point) → length points ≤ 2 → self_meet_of points ≡ []
unfolding none
short_line [] h = refl
short_line (p ∷ []) h = refl
short_line (p ∷ q ∷ []) h = either (is_some (stacked_segment (p ∷ q ∷ [])))
short_line (p ∷ q ∷ r ∷ points) h = absurd (omega (arith, h))
