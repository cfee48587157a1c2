use Rattle.std.proofs.Common.{length, ap, ◌∙◌, arith}
use Rattle.update_apply.proofs.KeptRows.{enough_rows}
use Rattle.update_apply.proofs.given.kept_rows_of.Goals as goal

pub returns-then-len-ge-ROW_LIMIT : goal.returns-then-len-ge-ROW_LIMIT
returns-then-len-ge-ROW_LIMIT g c =
    enough_rows c.args.tag (g.T.Given.content 0) c.args.frame.now.fields c.loop-k.k c.of_vec.result
    (c.of_vec.ensures ∙ c.loop-k.invariant) (omega (arith, ap length c.of_vec.ensures))
