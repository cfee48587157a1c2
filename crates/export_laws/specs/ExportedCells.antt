-- A file that is written after a run of scripts on the cell of a file. This project's own rules.
use Rattle.std.specs.Prelude.{◌≡◌, ℕ, List, Ok, All}
use Rattle.s57_types.specs.declared.cell.Cell.{Cell}
use Rattle.file_spec.specs.DecodedCell.{decoded_cell}
use Rattle.file_spec.specs.EncodedCell.{encoded_cell}
use Rattle.text_spec.specs.declared.command.Command.{Command}
use Rattle.text_spec.specs.ScriptLines.{IsScript}
use Rattle.history_spec.specs.ReportText.{final_cell}
use Rattle.export_laws.specs.DecodedTypes.{AreFileBytes}

-- the commands of some text that is a script
abbrev pub IsScriptOfText : List Command → Type 0
IsScriptOfText commands = (text : List ℕ) × IsScript text commands

-- the file of the cell that a run leaves is read as that cell
abbrev pub IsReadBack : Cell → List (List Command) → List ℕ → Type 0
IsReadBack c scripts order = decoded_cell (encoded_cell (final_cell c scripts order)) ≡ Ok (final_cell c scripts order)

-- this is so of each run of scripts on a cell that was read from a file, in whatever order
abbrev pub ExportsAreReadBack : Type 0
ExportsAreReadBack = (b : List ℕ) (c : Cell) (scripts : List (List Command)) (order : List ℕ) → AreFileBytes b → decoded_cell b ≡ Ok c
    → All IsScriptOfText scripts → IsReadBack c scripts order
