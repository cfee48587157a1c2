use Rattle.std.proofs.Common.{Less, take}
use Rattle.row_spec.specs.Rows.{EachKeyIs}
use Rattle.shared_table.proofs.run.Run.search.Given as goal

abbrev pub invariant-loop-place : goal.invariant-loop-place
invariant-loop-place g l = EachKeyIs g.K.Ord.cmp Less l.key (take l.place l.row-items)
