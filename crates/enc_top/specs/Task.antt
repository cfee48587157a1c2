-- What the forms of words do once their input is read. This project's own.
use Rattle.std.specs.Prelude.{ℕ, List, length, None, Some}
use Rattle.cell_make.specs.GeneratedCell.{generated_cell}
use Rattle.drill_run.specs.Drills.{drill_counts}
use Rattle.drill_run.specs.DrillText.{drill_line, made_line}
use Rattle.file_spec.specs.EncodedCell.{encoded_cell}
use Rattle.geometry_spec.specs.Points.{Point}
use Rattle.history_spec.specs.ReportText.{final_cell, report}
use Rattle.s57_types.specs.declared.cell.Cell.{Cell}
use Rattle.skin_probe.specs.ProbeText.{probe_text}
use Rattle.skin_probe.specs.Sheet.{sheet_of}
use Rattle.text_spec.specs.CellText.{cell_text}
use Rattle.text_spec.specs.declared.command.Command.{Command}
use Rattle.call_files.specs.Task.{Task}

-- the text of a cell is put
abbrev pub check_task : Cell → Task
check_task c = record { text = cell_text c; file = None }

-- the report of scripts on a cell in an order is put, and the cell that is left is written under a name
abbrev pub run_task : Cell → List ℕ → List (List Command) → List ℕ → Task
run_task c out commands sessions = record { text = report c commands sessions; file = Some (out, encoded_cell (final_cell c commands sessions)) }

-- the line of the generated cell is put, and the cell is written under a name
abbrev pub make_task : ℕ → List ℕ → Task
make_task n out = record {
  text = made_line (generated_cell n) (length (encoded_cell (generated_cell n)));
  file = Some (out, encoded_cell (generated_cell n));
}

-- the line of a drill is put
abbrev pub drill_task : ℕ → ℕ → Task
drill_task n sessions = record { text = drill_line n sessions (drill_counts n sessions); file = None }

-- the text of the cell that an operation or an update leaves is put, and the cell is written under a name
abbrev pub left_task : Cell → List ℕ → Task
left_task d out = record { text = cell_text d; file = Some (out, encoded_cell d) }

-- what is told of the areas of a cell round a point is put
abbrev pub probe_task : Cell → Point → Task
probe_task c at = record { text = probe_text at (sheet_of c at); file = None }
