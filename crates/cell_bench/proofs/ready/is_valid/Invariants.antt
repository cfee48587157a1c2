use Rattle.std.proofs.Common.{◌≡◌, drop}
use Rattle.std.specs.List.{list_any}
use Rattle.cell_bench.specs.Ready.{is_in}
use Rattle.cell_bench.proofs.ready.is_valid.Given as goal

abbrev pub invariant-loop-key : goal.invariant-loop-key
invariant-loop-key l = list_any (is_in l.keys) (drop l.key-index l.row.reads) ≡ list_any (is_in l.keys) l.row.reads
