-- The keys that one edit touches. This project's own rule.
use Rattle.std.specs.Prelude.{◌∷◌, ◌++◌, List, Option, flat_map, option_to_list}
use Rattle.s57_types.specs.declared.record.Rec.{Rec}
use Rattle.cell_spec.specs.declared.edit.Edit.{Edit}
use Rattle.cell_spec.specs.declared.key.Key.{Key}
use Rattle.cell_spec.specs.declared.key.Key.TheVariants.{Name}
use Rattle.cell_spec.specs.Edits.{keys_answered_by, left_by, name_of_edit}

-- the name of an edit, and the keys that what had the name answers and what the edit leaves
abbrev pub keys_touched_by : Option Rec → Edit → List Key
keys_touched_by old edit = Name (name_of_edit edit) ∷ flat_map keys_answered_by (option_to_list old ++ option_to_list (left_by edit))
