use Rattle.std.proofs.Common.{◌≡◌, ◌++◌, take}
use Rattle.std.specs.List.{flat_map}
use Rattle.cell_picture.specs.ShapeText.{shape_text}
use Rattle.cell_picture.specs.Shapes.{record_shapes}
use Rattle.cell_picture.proofs.picture.Scene.records.Given as goal

abbrev pub invariant-loop-rec : goal.invariant-loop-rec
invariant-loop-rec g l =
    l.out.items ≡ l.initial.out.items ++ flat_map shape_text (flat_map (record_shapes l.self.view.look.now l.self.view.around) (take l.rec-index l.recs))
