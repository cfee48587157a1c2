use Rattle.std.proofs.Common.{sym, ap, ◌∙◌}
use Rattle.row_spec.specs.Rows.{value_of}
use Rattle.row_spec.proofs.Whole.{value_of-block}
use Rattle.row_table.proofs.table.RowTable.get.Goals as goal

pub returns : goal.returns
returns g c =
    rw (← c.self.view_is) (c.get.ensures ∙ ap (λ rows. value_of g.K.Ord.cmp rows c.args.key.now) c.run.ensures.rows
    ∙ sym (value_of-block g.K.Ord.cmp _ _ _ c.block_for-place.ensures))
