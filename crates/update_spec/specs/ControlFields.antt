-- The control fields of update records: their tags, and what their bytes say (S-57 Part 3, 8.4.2 and 8.4.3).
use Rattle.std.specs.Prelude.{ℕ, ◌==◌, Bool, List, [], ◌∷◌, codes, find, is_some, nat_eq, Option, Some, None, Result, if◌then◌else◌}
use Rattle.std.specs.Cmp.Lexicographic.{pointwise}
use Rattle.std.specs.List.{list_any}
use Rattle.std.specs.Option.{option_and_then}
use Rattle.std.specs.Result.{result_ok}
use Rattle.frame_spec.specs.RecordFrame.{Field}
use Rattle.s57_types.specs.Subfield.{Form, Subfield, b11, b12}
use Rattle.field_spec.specs.Contents.{row_as, any_row, number_in}
use Rattle.field_spec.specs.declared.fault.FieldFault.{FieldFault}
use Rattle.file_spec.specs.declared.tag.RecordType.{RecordType}
use Rattle.file_spec.specs.declared.tag.RecordType.TheVariants as types
use Rattle.update_spec.specs.declared.control.Control.{Control}
use Rattle.update_spec.specs.declared.control.ControlTag.{ControlTag}
use Rattle.update_spec.specs.declared.control.ControlTag.TheVariants.{Vrpc, Sgcc, Ffpc, Fspc}
use Rattle.update_spec.specs.declared.control.Instruction.{Instruction}
use Rattle.update_spec.specs.declared.control.Instruction.TheVariants.{Insert, Delete, Modify}

-- the instruction of a number, as RUIN and the control fields have it
abbrev pub instruction_of : ℕ → Option Instruction
instruction_of n = if n == 1 then Some Insert else (if n == 2 then Some Delete else (if n == 3 then Some Modify else None))

abbrev pub control_text : ControlTag → List ℕ
control_text Vrpc = codes "VRPC"
control_text Sgcc = codes "SGCC"
control_text Ffpc = codes "FFPC"
control_text Fspc = codes "FSPC"

abbrev pub is_control : ControlTag → Field → Bool
is_control tag field = pointwise nat_eq field.tag (control_text tag)

-- the control fields that may stand in a record, beside the fields of a cell's record of its type
abbrev pub controls_of : RecordType → List ControlTag
controls_of types.GeneralInformation = []
controls_of types.GeographicReference = []
controls_of types.Vector = Vrpc ∷ Sgcc ∷ []
controls_of types.Feature = Ffpc ∷ Fspc ∷ []

-- the control field that a field of a record is, if it is one of the record's
abbrev pub control_in : RecordType → Field → Option ControlTag
control_in type field = find (λ tag. is_control tag field) (controls_of type)

-- the instruction, the place of the first row and the number of rows
abbrev pub control_forms : List Form
control_forms = b11 ∷ b12 ∷ b12 ∷ []

abbrev pub control_value : List Subfield → Control
control_value row = record { instruction = number_in row 0; index = number_in row 1; count = number_in row 2 }

unfoldable pub control_content : List ℕ → Result Control FieldFault
control_content = row_as control_value control_forms any_row

-- what the control field of a tag says, if the record has it
abbrev pub control_among : ControlTag → List Field → Option Control
control_among tag fields = option_and_then (λ (field : Field). result_ok (control_content field.bytes)) (find (is_control tag) fields)

-- one of the fields is a control field of the record
abbrev pub has_controls : RecordType → List Field → Bool
has_controls type fields = list_any (λ field. is_some (control_in type field)) fields
