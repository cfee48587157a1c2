-- The faults of the records of an update file, and how they are told.
use Rattle.std.specs.Prelude.{ℕ, Result}
use Rattle.std.specs.Result.{result_map_both}
use Rattle.s57_types.specs.declared.fault.CellFault.{CellFault}
use Rattle.file_spec.specs.RecordFaults.{code_of}
use Rattle.file_spec.specs.declared.fault.RecordFault.{RecordFault}
use Rattle.update_spec.specs.declared.fault.UpdateFault.{UpdateFault}
use Rattle.update_spec.specs.declared.fault.UpdateFault.TheVariants.{Record, NoTarget, TargetThere, WrongVersion, OtherIdentity, BadControl, LevelMix}
use Rattle.update_spec.specs.declared.fault.UpdateFault.TheVariants.{WrongEdition, WrongUpdate, TooManyEdits}

-- the codes are this project's own; they go on from those of a cell file
abbrev pub update_code : UpdateFault → ℕ
update_code (Record fault) = code_of fault
update_code NoTarget = 15
update_code TargetThere = 16
update_code WrongVersion = 17
update_code OtherIdentity = 18
update_code BadControl = 19
update_code LevelMix = 20
update_code WrongEdition = 21
update_code WrongUpdate = 22
update_code TooManyEdits = 23

-- a fault of the record of a number, which begins at an offset
abbrev pub update_fault_at : ℕ → ℕ → UpdateFault → CellFault
update_fault_at number offset fault = record { number = number; offset = offset; code = update_code fault }

-- what a cell file's definitions say of a record, or the fault that they find
abbrev pub of_record : {X : Type 0} → Result X RecordFault → Result X UpdateFault
of_record said = result_map_both (λ x. x) Record said
