use Rattle.std.proofs.Common.{sym, ap, ap₂, ◌∙◌, ◌+◌, arith, is_lt}
use Rattle.std.proofs.lemmas.List.Sums.{prefix_len-le-length}
use Rattle.row_spec.specs.Rows.{lower_bound}
use Rattle.row_spec.specs.Blocks.{joined}
use Rattle.row_spec.proofs.Whole.{lower_bound-block}
use Rattle.row_table.proofs.table.RowTable.place_of.Goals as goal

pub overflow_add-result : goal.overflow_add-result
overflow_add-result g c =
    let own = c.place_of.ensures ∙ ap (λ rows. lower_bound g.K.Ord.cmp rows c.args.key.now) c.run.ensures.rows in
    let all = lower_bound-block g.K.Ord.cmp _ _ _ c.block_for-place.ensures in
    let most = prefix_len-le-length (λ row. is_lt (g.K.Ord.cmp row.0 c.args.key.now)) (joined c.self.inside.blocks.blocks) in
    omega (arith, c.start.ensures, own, all, most, c.self.invariant.1, c.self.invariant.2)

pub returns : goal.returns
returns g c =
    rw (← c.self.view_is) (ap₂ (λ m n. m + n) c.start.ensures
    (c.place_of.ensures ∙ ap (λ rows. lower_bound g.K.Ord.cmp rows c.args.key.now) c.run.ensures.rows)
    ∙ sym (lower_bound-block g.K.Ord.cmp _ _ _ c.block_for-place.ensures))
