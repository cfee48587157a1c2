use Rattle.std.proofs.Common.{◌≡◌, drop, find, map}
use Rattle.rule_spec.specs.Vectors.{meets_wrongly}
use Rattle.check_record.proofs.self_meet.first_in_row.Given as goal

abbrev pub invariant-loop-b : goal.invariant-loop-b
invariant-loop-b l = find (meets_wrongly l.closed l.count) (map (λ b. (l.a, b)) (drop l.b-index l.row)) ≡ find (meets_wrongly l.closed l.count)
    (map (λ b. (l.a, b)) l.row)
