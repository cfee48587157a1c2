use Rattle.std.proofs.Common.{◌≡◌, ◌++◌, take}
use Rattle.std.specs.List.{flat_map}
use Rattle.picture_places.specs.Holds.{IsHeld}
use Rattle.cell_picture.specs.ShapeText.{shape_text}
use Rattle.cell_picture.specs.Shapes.{spot_of}
use Rattle.cell_picture.proofs.picture.Scene.spots.Given as goal

abbrev pub invariant-loop-found : goal.invariant-loop-found
invariant-loop-found g l = record {
  text : l.out.items ≡ l.initial.out.items ++ flat_map shape_text (flat_map (spot_of l.self.view.look.now l.self.view.around) (take l.found-index l.findings));
  held : IsHeld l.self.view.look.now l.self.view.around l.held;
}
