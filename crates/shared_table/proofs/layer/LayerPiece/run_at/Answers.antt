use Rattle.std.proofs.Common.{arith, ◌∙◌, subst}
use Rattle.shared_table.specs.Pieces.{blocks_of, IsRunAt}
use Rattle.shared_table.proofs.Parts.{length-blocks, part_rows}
use Rattle.shared_table.proofs.Places.{run_in_block}
use Rattle.shared_table.proofs.layer.LayerPiece.run_at.Goals as goal

pub returns : goal.returns
returns g c =
    let at = rw (← c.self.view_is) at c.find-piece.ensures.piece in
    let is = rw (← c.self.view_is) at c.find-piece.ensures.place in
    let rows = c.piece.ensures ∙ part_rows c.self.inside.entries.items c.find-piece.result.0 c.index.result.now
    (omega (arith, at.in_range, length-blocks c.self.inside.entries.items)) c.index.ensures in
    rw (← c.self.view_is) (run_in_block (blocks_of c.self.inside.entries.items) c.find-piece.result.0 at.in_range c.find-piece.result.1
    c.args.place c.run_at.result.now is (subst (λ r. IsRunAt r c.find-piece.result.1 c.run_at.result.now) rows c.run_at.ensures))
