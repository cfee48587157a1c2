use Rattle.std.proofs.Common.{◌≡◌, ◌+◌, drop}
use Rattle.cell_bench.specs.Rejudging.{fresh_among, with_rows}
use Rattle.cell_bench.proofs.rejudge.enter_all.Given as goal

abbrev pub invariant-loop-row : goal.invariant-loop-row
invariant-loop-row l = record {
  entered : with_rows l.rejudged (drop l.row-index l.rows) ≡ with_rows l.fn.rejudged l.rows;
  fresh : l.rejudged.fresh + fresh_among (drop l.row-index l.rows) ≡ l.fn.rejudged.fresh + fresh_among l.rows;
}
