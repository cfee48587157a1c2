-- Connected nodes and edges of a cell. This project's own.
use Rattle.std.specs.Prelude.{◌≡◌, All, List}
use Rattle.std.specs.List.{flat_map}
use Rattle.s57_types.specs.declared.cell.Cell.{Cell}
use Rattle.s57_types.specs.declared.name.RecName.{RecName}
use Rattle.box_tree.specs.declared.leaf.Leaf.{Leaf}
use Rattle.check_pairs.specs.Parts.{IsPart}
use Rattle.cell_findings.specs.Near.{leaves_in}
use Rattle.cell_findings.specs.declared.part.PlacedParts.{PlacedParts}
use Rattle.cell_findings.specs.declared.part_window.PartWindow.{PartWindow}

-- a window has the parts of a cell with these names, and the boxes around them
pub record IsWindowOf (c : Cell) (names : List RecName) (window : PartWindow) : Type 0 where
  pub parts : All (IsPart c) window.parts.items
  pub leaves : window.leaves.items ≡ leaves_in c names

-- all in windows are parts of a cell
abbrev pub HaveParts : Cell → List PartWindow → Type 0
HaveParts c windows = All (λ (window : PartWindow). All (IsPart c) window.parts.items) windows

-- all are parts of a cell
abbrev pub AreParts : Cell → PlacedParts → Type 0
AreParts c placed = HaveParts c placed.windows.items

-- the boxes of windows, one window after the other
abbrev pub leaves_of_windows : List PartWindow → List Leaf
leaves_of_windows windows = flat_map (λ (window : PartWindow). window.leaves.items) windows
