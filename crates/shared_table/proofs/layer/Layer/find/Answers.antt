use Rattle.std.proofs.Common.{length, arith, ap, add-one}
use Rattle.row_spec.proofs.Joined.{rows_before-suc}
use Rattle.shared_table.specs.Pieces.{blocks_of}
use Rattle.shared_table.proofs.Parts.{length-blocks, part_rows}
use Rattle.shared_table.proofs.Places.{block_left}
use Rattle.shared_table.proofs.layer.Layer.find.Goals as goal

pub loop-left-preserved : goal.loop-left-preserved
loop-left-preserved g c =
    let lt = block_left (blocks_of c.self.inside.entries.items) c.loop-left.piece c.loop-left.left c.args.place c.loop-left.invariant
    (rw (← c.self.view_is) at c.requires) in
    let rows = part_rows c.self.inside.entries.items c.loop-left.piece c.index-in-loop-left.result.now
    (omega (arith, lt, length-blocks c.self.inside.entries.items)) c.index-in-loop-left.ensures in
    let tested = part_rows c.self.inside.entries.items c.loop-left.piece c.index.result.now
    (omega (arith, lt, length-blocks c.self.inside.entries.items)) c.index.ensures in
    let next = rows_before-suc (blocks_of c.self.inside.entries.items) c.loop-left.piece lt in
    rw (add-one c.loop-left.piece) (omega (
      arith,
      next,
      c.loop-left.invariant,
      c.len-left.ensures,
      ap length rows,
      ap length tested,
      c.len.ensures,
      c.loop-left-test.true,
    ))
