use Rattle.report_text.proofs.Entries.{one_session}
use Rattle.report_text.proofs.report.push_sessions.Goals as goal

pub loop-k-preserved : goal.loop-k-preserved
loop-k-preserved c =
    one_session c.args.out.now.items c.loop-k.out.items c.push_head.new.out.items c.push_bytes.new.out.items c.in_ok-narrow.field-0
    c.loop-k.k c.lines.result.now c.index-transcripts-k.result c.args.transcripts.now
    c.loop-k-test.true c.index-transcripts-k.is c.loop-k.invariant c.in_ok-narrow.ensures.same c.in_ok-push_head.ensures
    c.lines.ensures c.in_ok-push_bytes.ensures.ok
