use Rattle.std.proofs.Common.{◌≡◌, ◌+◌, drop}
use Rattle.std.specs.List.{position_from}
use Rattle.rule_spec.specs.Contacts.{is_on}
use Rattle.rule_spec.specs.Vectors.{Numbered}
use Rattle.check_pairs.proofs.finding.first_segment_under.Given as goal

abbrev pub invariant-loop-k : goal.invariant-loop-k
invariant-loop-k l =
    position_from (λ (s : Numbered). is_on s.1 l.w) (l.k + 1) (drop l.k l.segments) ≡ position_from (λ (s : Numbered). is_on s.1 l.w) 1 l.segments
