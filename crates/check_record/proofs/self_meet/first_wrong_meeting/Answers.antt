use Rattle.std.proofs.Common.{sym, ◌∙◌, length}
use Rattle.rule_spec.specs.Vectors.{meets_wrongly}
use Rattle.check_words.proofs.Appends.{row_hit, row_missed}
use Rattle.check_record.proofs.BlockRows.{row_at}
use Rattle.check_record.proofs.self_meet.first_wrong_meeting.Goals as goal

pub returns-in-Some : goal.returns-in-Some
returns-in-Some c = sym (row_hit (meets_wrongly c.args.closed (length c.args.segments.now)) c.args.segments.now c.args.segments.now
    c.loop-a.a-index _ c.in-Some.pair c.loop-a-test.true (row_at _ _ _ _ _ c.requires.segments c.in-Some.ensures)) ∙ c.loop-a.invariant

pub loop-a-preserved : goal.loop-a-preserved
loop-a-preserved c = sym (row_missed (meets_wrongly c.args.closed (length c.args.segments.now)) c.args.segments.now c.args.segments.now
    c.loop-a.a-index _ c.loop-a-test.true (row_at _ _ _ _ _ c.requires.segments c.in_default.ensures)) ∙ c.loop-a.invariant
