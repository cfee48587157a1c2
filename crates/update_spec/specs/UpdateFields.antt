-- The first fault of the fields of an update record. Beside the fields of a cell's record it may have control fields, each once.
use Rattle.std.specs.Prelude.{ℕ, List, [], ◌∷◌, ◌++◌, Option, Some, None, Result, Ok, Err, if◌then◌else◌}
use Rattle.std.specs.List.{list_any}
use Rattle.std.specs.Option.{option_map, option_or}
use Rattle.std.specs.Result.{result_err}
use Rattle.frame_spec.specs.RecordFrame.{Field}
use Rattle.file_spec.specs.RecordFaults.{of_field}
use Rattle.file_spec.specs.RecordReading.{field_fault}
use Rattle.file_spec.specs.declared.fault.RecordFault.{RecordFault}
use Rattle.file_spec.specs.declared.fault.RecordFault.TheVariants.{RepeatedField}
use Rattle.file_spec.specs.declared.tag.RecordType.{RecordType}
use Rattle.update_spec.specs.ControlFields.{is_control, control_in, control_content}
use Rattle.update_spec.specs.declared.control.ControlTag.{ControlTag}
use Rattle.update_spec.specs.declared.fault.UpdateFault.{UpdateFault}
use Rattle.update_spec.specs.declared.fault.UpdateFault.TheVariants.{Record}

-- the fault of a control field that stands behind others: it stands twice, or its bytes aren't its three subfields
abbrev pub control_fault : ControlTag → List Field → Field → Option RecordFault
control_fault tag before field = if list_any (is_control tag) before then Some RepeatedField else option_map of_field
    (result_err (control_content field.bytes))

-- the fault of a field that stands behind others; national attributes are at the update's own level NALL
abbrev pub update_field_fault : ℕ → RecordType → List Field → Field → Option RecordFault
update_field_fault nall type before field = of_control (control_in type field)
  where
    of_control : Option ControlTag → Option RecordFault
    of_control None = field_fault nall type before field
    of_control (Some tag) = control_fault tag before field

-- the fault of the first field that has one, among fields behind others
unfoldable pub update_fields_fault : ℕ → RecordType → List Field → List Field → Option RecordFault
update_fields_fault nall type before [] = None
update_fields_fault nall type before (field ∷ fields) = option_or (update_field_fault nall type before field)
    (update_fields_fault nall type (before ++ (field ∷ [])) fields)

abbrev pub good_unless : Option RecordFault → Result (Unit {0}) UpdateFault
good_unless None = Ok tt
good_unless (Some fault) = Err (Record fault)

-- the fields of a record of a type have no fault
abbrev pub checked_fields : ℕ → RecordType → List Field → Result (Unit {0}) UpdateFault
checked_fields nall type fields = good_unless (update_fields_fault nall type [] fields)
