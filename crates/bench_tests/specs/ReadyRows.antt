-- Rows of the subjects that edits affect.
use Rattle.std.specs.Prelude.{◌≡◌, List, map}
use Rattle.s57_types.specs.declared.cell.Cell.{Cell}
use Rattle.cell_spec.specs.declared.edit.Edit.{Edit}
use Rattle.cell_spec.specs.declared.finding.Row.{Row}
use Rattle.cell_spec.specs.Edits.{apply_edits}
use Rattle.rule_spec.specs.Affected.{affected_list, change_by, exact_row}

-- the right row of each affected subject of the edited cell
abbrev pub AreRowsAfter : Cell → List Edit → List Row → Type 0
AreRowsAfter c edits rows = rows ≡ map (exact_row (apply_edits edits c)) (affected_list (change_by edits c))
