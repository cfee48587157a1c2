use Rattle.std.proofs.Common.{◌≡◌, ◌++◌, take}
use Rattle.std.specs.List.{flat_map}
use Rattle.cell_picture.specs.ShapeText.{stroke_text}
use Rattle.cell_picture.proofs.text.push_strokes.Given as goal

abbrev pub invariant-loop-stroke : goal.invariant-loop-stroke
invariant-loop-stroke l = l.out.items ≡ l.initial.out.items ++ flat_map stroke_text (take l.stroke-index l.strokes)
