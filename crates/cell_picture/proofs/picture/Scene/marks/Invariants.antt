use Rattle.std.proofs.Common.{◌≡◌, ◌++◌, ◌+◌, [], drop}
use Rattle.std.specs.List.{flat_map}
use Rattle.cell_picture.specs.ShapeText.{shape_text}
use Rattle.cell_picture.specs.Shapes.{marks_from}
use Rattle.cell_picture.proofs.picture.Scene.marks.Given as goal

abbrev pub invariant-loop-k : goal.invariant-loop-k
invariant-loop-k g l = l.out.items ++ flat_map shape_text (marks_from l.self.view.look.now l.self.view.around l.taken.items (l.k + 1) (drop l.k l.findings)) ≡
    l.initial.out.items ++ flat_map shape_text (marks_from l.self.view.look.now l.self.view.around [] 1 l.findings)
