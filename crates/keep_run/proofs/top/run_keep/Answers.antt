use Rattle.std.proofs.Common.{map, string_bytes}
use Rattle.keep_run.proofs.Ended.{refused_end, work_end}
use Rattle.keep_run.proofs.top.run_keep.Goals as goal

pub returns-in-Err-clause-end : goal.returns-in-Err-clause-end
returns-in-Err-clause-end g c =
    refused_end (map string_bytes c.args.words.now) _ _ _ _ _ c.a_journal_has_one_reading.ensures _ _ _ _ _ _ (g.O.Sink.written c.args.out.now)
    (g.O.Sink.faults c.args.out.now) c.in-Err.status c.in-Err.ensures.reads.files c.in-Err.ensures.reads.write_faults c.in-Err.ensures.asked
    c.in-Err.ensures.told_reads c.in-Err.ensures.told_disk

pub returns-in-Ok-clause-end : goal.returns-in-Ok-clause-end
returns-in-Ok-clause-end g c =
    work_end (map string_bytes c.args.words.now) _ _ _ _ _ c.a_journal_has_one_reading.ensures _ _ _ _ _ _ _ _ _ _ _ _ _ c.in-Ok.work c.finish.result
    c.in-Ok.ensures.reads.files c.in-Ok.ensures.reads.write_faults c.finish.ensures.read_faults c.in-Ok.ensures.asked
    c.in-Ok.ensures.told_reads c.in-Ok.ensures.told_disk c.finish.ensures.done
