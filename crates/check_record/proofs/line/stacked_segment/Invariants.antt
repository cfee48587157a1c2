use Rattle.std.proofs.Common.{◌≡◌, ◌∷◌, ◌+◌, drop}
use Rattle.std.specs.List.{position_from}
use Rattle.std.specs.Prelude.{zip}
use Rattle.rule_spec.specs.EdgePoints.{Segment, same_point}
use Rattle.rule_spec.specs.Vectors.{stacked_segment}
use Rattle.check_record.proofs.line.stacked_segment.Given as goal

abbrev pub invariant-loop-k : goal.invariant-loop-k
invariant-loop-k l =
    position_from (λ (s : Segment). same_point s.0 s.1) (l.k + 1) (zip (l.before ∷ drop l.k l.rest) (drop l.k l.rest)) ≡ stacked_segment l.points
