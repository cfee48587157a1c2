-- A connected node or an edge of a cell with what the rules on two of them ask of it. This project's own.
use Rattle.std.specs.Prelude.{◌≡◌, Option, Some}
use Rattle.std.specs.List.{enumerate_from}
use Rattle.s57_types.specs.declared.name.RecName.{RecName}
use Rattle.s57_types.specs.declared.record.Rec.TheVariants.{V}
use Rattle.s57_types.specs.declared.cell.Cell.{Cell}
use Rattle.cell_spec.specs.Lookup.{lookup_record}
use Rattle.geometry_spec.specs.declared.tile.Box4.{Box4}
use Rattle.line_boxes.specs.LineBoxes.{line_box}
use Rattle.rule_spec.specs.Candidates.{segments_named}
use Rattle.rule_spec.specs.EdgePoints.{edge_line_of}
use Rattle.check_pairs.specs.declared.part.ChainPart.{ChainPart}

-- what is kept under a name is the cell's: its record, and the line of an edge
pub record IsPart (c : Cell) (part : ChainPart) : Type 0 where
  pub record_held : lookup_record c part.name ≡ Some (V part.record.now)
  pub line_held : part.line ≡ edge_line_of c part.name

-- the least box around a connected node or an edge
abbrev pub extent_at : Cell → RecName → Option Box4
extent_at c n = line_box (enumerate_from 1 (segments_named c n))
