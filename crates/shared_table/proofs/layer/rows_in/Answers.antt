use Rattle.std.proofs.Common.{◌∙◌, length, ap, arith, take_all}
use Rattle.shared_table.specs.Pieces.{rows_of}
use Rattle.shared_table.proofs.Gathered.{counted_more}
use Rattle.shared_table.proofs.layer.rows_in.Goals as goal

pub loop-entry-preserved : goal.loop-entry-preserved
loop-entry-preserved g c =
    let more = counted_more c.args.entries.now c.loop-entry.entry-index c.entry-item.result c.loop-entry-test.true c.entry-item.is in
    omega (arith, more, c.loop-entry.invariant, c.len-count.ensures)

pub returns : goal.returns
returns g c = c.loop-entry.invariant ∙ ap (λ parts. length (rows_of parts)) (take_all c.loop-entry.entry-index c.args.entries.now c.loop-entry-test.false)
