use Rattle.std.proofs.Common.{◌≡◌, drop, find, map}
use Rattle.rule_spec.specs.Vectors.{meets_wrongly}
use Rattle.check_record.specs.Blocks.{segments_in}
use Rattle.check_record.proofs.self_meet.first_in_blocks.Given as goal

abbrev pub invariant-loop-block : goal.invariant-loop-block
invariant-loop-block l = find (meets_wrongly l.closed l.count) (map (λ b. (l.a, b)) (segments_in (drop l.block-index l.blocks))) ≡
    find (meets_wrongly l.closed l.count) (map (λ b. (l.a, b)) (segments_in l.blocks))
