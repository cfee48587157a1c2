-- The rows that are made before edits are committed. This project's own rules.
use Rattle.std.specs.Prelude.{List, [], map, if◌then◌else◌}
use Rattle.s57_types.specs.declared.cell.Cell.{Cell}
use Rattle.cell_spec.specs.declared.edit.Edit.{Edit}
use Rattle.cell_spec.specs.declared.finding.Row.{Row}
use Rattle.cell_spec.specs.Edits.{apply_edits, is_applicable}
use Rattle.rule_spec.specs.Affected.{affected_list, change_by, exact_row}

-- the rows of the affected subjects of the edited cell, in the order in which they are looked at first
abbrev pub edited_rows : List Edit → Cell → List Row
edited_rows edits c = map (exact_row (apply_edits edits c)) (affected_list (change_by edits c))

-- those, where the cell takes the edits, and else none
abbrev pub prepared_rows : List Edit → Cell → List Row
prepared_rows edits c = if is_applicable edits c then edited_rows edits c else []
