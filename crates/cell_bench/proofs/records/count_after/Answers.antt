use Rattle.std.proofs.Common.{arith}
use Rattle.cell_bench.proofs.records.count_after.Goals as goal

pub overflow_sub-result : goal.overflow_sub-result
overflow_sub-result c =
    let law = c.counts_after_edits.ensures c.args.edits.now c.args.store.now c.requires.found in
    omega (arith, law, c.additions.ensures, c.deletions.ensures, c.count.ensures)
