use Rattle.std.proofs.Common.{◌≡◌, ◌++◌, ◌+◌, drop}
use Rattle.std.specs.List.{flat_map}
use Rattle.cell_picture.specs.ShapeText.{shape_text}
use Rattle.cell_picture.specs.Shapes.{rows_from}
use Rattle.cell_picture.proofs.picture.draw_rows.Given as goal

abbrev pub invariant-loop-k : goal.invariant-loop-k
invariant-loop-k l = l.out.items ++ flat_map shape_text (rows_from (l.k + 1) (drop l.k l.findings)) ≡
    l.initial.out.items ++ flat_map shape_text (rows_from 1 l.findings)
