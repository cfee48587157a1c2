use Rattle.std.proofs.Common.{◌≡◌, drop, find, length}
use Rattle.rule_spec.specs.Vectors.{meets_wrongly, each_with_each, first_wrong_meeting}
use Rattle.check_record.proofs.self_meet.first_wrong_meeting.Given as goal

abbrev pub invariant-loop-a : goal.invariant-loop-a
invariant-loop-a l = find (meets_wrongly l.closed (length l.segments)) (each_with_each (drop l.a-index l.segments) l.segments) ≡
    first_wrong_meeting l.closed l.segments
