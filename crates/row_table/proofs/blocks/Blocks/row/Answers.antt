use Rattle.std.proofs.Common.{arith, ap, ◌∙◌, ◌≡◌, ◌+◌, ◌-◌}
use Rattle.std.specs.List.{slice_get}
use Rattle.std.proofs.lemmas.Grind.{get_or_default_zero}
use Rattle.row_spec.specs.Blocks.{joined, rows_of, rows_before}
use Rattle.row_spec.proofs.Joined.{slice_get-joined}
use Rattle.row_spec.proofs.Runs.{block_at-rows_of}
use Rattle.row_table.proofs.blocks.Blocks.row.Goals as goal

pub returns : goal.returns
returns g c =
    let at = rw (← c.self.view_is) at c.block_at-block.ensures in
    let block = block_at-rows_of c.self.inside.runs.items c.block_at-block.result at.in_range c.index.result.now c.index.ensures in
    let start : c.index-2.result.now ≡ rows_before (rows_of c.self.inside.runs.items) c.block_at-block.result =
    c.index-2.ensures ∙ get_or_default_zero c.self.inside.starts.items c.block_at-block.result c.index-2.result.now
    (omega (arith, c.self.invariant.2.count, at.in_range)) ∙ c.self.invariant.2.start c.block_at-block.result at.in_range in
    let offset : c.args.place ≡ rows_before (rows_of c.self.inside.runs.items) c.block_at-block.result + (c.args.place - c.index-2.result.now) =
    omega (arith, start, at.from) in
    rw (← c.self.view_is) (
    ap (slice_get (joined (rows_of c.self.inside.runs.items))) offset
    ∙ slice_get-joined (rows_of c.self.inside.runs.items) c.block_at-block.result (c.args.place - c.index-2.result.now) at.in_range
    (omega (arith, start, at.from, at.to))
    ∙ ap (λ rows. slice_get rows (c.args.place - c.index-2.result.now)) block
    ∙ c.row.ensures)
