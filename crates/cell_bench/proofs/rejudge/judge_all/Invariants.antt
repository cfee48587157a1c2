use Rattle.std.proofs.Common.{◌≡◌, ◌+◌, ◌*◌, ◌≤◌, drop, sum_by}
use Rattle.cell_bench.specs.Rejudging.{fresh_in, judged_in, reads_anew}
use Rattle.cell_bench.proofs.rejudge.judge_all.Given as goal

abbrev pub invariant-loop-place : goal.invariant-loop-place
invariant-loop-place g l = record {
  judged : judged_in (g.B.Look.cell l.look) l.rejudged (drop l.place l.judged) ≡ judged_in (g.B.Look.cell l.look) l.fn.rejudged l.judged;
  fresh : l.rejudged.fresh + fresh_in (g.B.Look.cell l.look) (drop l.place l.judged) ≡ l.fn.rejudged.fresh + fresh_in (g.B.Look.cell l.look) l.judged;
  steps : l.steps + 4 * sum_by (reads_anew (g.B.Look.cell l.look) l.ready.stale l.ready.rows)
      (drop l.place l.judged) ≤ l.fn.steps + 4 * sum_by (reads_anew (g.B.Look.cell l.look) l.ready.stale l.ready.rows) l.judged;
}
