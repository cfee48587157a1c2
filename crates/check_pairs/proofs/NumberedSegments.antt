-- The place of a segment among numbered ones.
use Rattle.std.proofs.Common.{◌≡◌, ℕ, ◌+◌, Bool, List, [], ◌∷◌, Some, cond, refl, ap}
use Rattle.std.specs.List.{enumerate_from, position_from}
use Rattle.rule_spec.specs.EdgePoints.{Segment}
use Rattle.rule_spec.specs.Vectors.{Numbered}

pub place_of_numbered : (test : Segment → Bool) (k m : ℕ) (segments : List Segment)
    → position_from (λ (s : Numbered). test s.1) k (enumerate_from m segments) ≡ position_from test k segments
place_of_numbered test k m [] = refl
place_of_numbered test k m (s ∷ segments) = ap (λ rest. cond (test s) (Some k) rest) (place_of_numbered test (k + 1) (m + 1) segments)
