-- Why a cell doesn't take edits, but for the findings that they leave. This project's own rules.
use Rattle.std.specs.Prelude.{◌≡◌, ◌&&◌, Bool, nat_lt, filter_map, List, length, Option, Some, None, if◌then◌else◌}
use Rattle.std.specs.List.{list_any}
use Rattle.std.specs.Option.{option_map_or}
use Rattle.s57_types.specs.RecordFields.{identification_length, length_limit}
use Rattle.s57_types.specs.declared.cell.Cell.{Cell}
use Rattle.s57_types.specs.declared.head.Head.{Head}
use Rattle.cell_spec.specs.Edits.{apply_edits, head_after, is_head_edit}
use Rattle.cell_spec.specs.Lookup.{all_records}
use Rattle.cell_spec.specs.Writable.{record_limit}
use Rattle.cell_spec.specs.declared.edit.Edit.{Edit as CellEdit}
use Rattle.history_spec.specs.Steps.{edit_refusal, first_of}
use Rattle.history_spec.specs.declared.refusal.StateRefusal.{StateRefusal}
use Rattle.history_spec.specs.declared.refusal.StateRefusal.TheVariants.{CellFull, HeadTooLong}
use Rattle.cell_bench.specs.declared.refusal.PlanRefusal.{PlanRefusal}
use Rattle.cell_bench.specs.declared.refusal.PlanRefusal.TheVariants.{State, NoMemory}

-- a head that edits left is too long, where one of them is of the head
abbrev pub is_long_head : Head → List CellEdit → Bool
is_long_head h edits = list_any is_head_edit edits && nat_lt length_limit (identification_length h)

abbrev pub head_refusal : Head → List CellEdit → Option StateRefusal
head_refusal h edits = if is_long_head h edits then Some (HeadTooLong (identification_length h)) else None

-- why there is no room for what edits leave: its records, then its head
abbrev pub room_refusal : Cell → List CellEdit → Option StateRefusal
room_refusal c edits =
    if nat_lt record_limit (length (all_records (apply_edits edits c))) then Some (CellFull (length (all_records (apply_edits edits c))))
    else head_refusal (head_after edits c.head) edits

-- why a cell doesn't take edits: the first edit that it doesn't take, then what they leave no room for
abbrev pub records_refusal : Cell → List CellEdit → Option StateRefusal
records_refusal c edits = option_map_or Some (first_of (filter_map (edit_refusal c) edits)) (room_refusal c edits)

-- this is why, or memory is out
abbrev pub IsRecordsRefusal : Cell → List CellEdit → PlanRefusal → Type 0
IsRecordsRefusal c edits (State why) = records_refusal c edits ≡ Some why
IsRecordsRefusal c edits NoMemory = Unit {0}
