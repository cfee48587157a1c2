-- The faults of the records of a cell file, and how the first of several is said.
use Rattle.std.specs.Prelude.{ℕ, Bool, Option, Some, None, Result, Ok, Err, if◌then◌else◌}
use Rattle.frame_spec.specs.declared.fault.FrameFault.{FrameFault}
use Rattle.frame_spec.specs.declared.fault.FrameFault.TheVariants as frame
use Rattle.field_spec.specs.declared.fault.FieldFault.{FieldFault}
use Rattle.field_spec.specs.declared.fault.FieldFault.TheVariants as field
use Rattle.s57_types.specs.declared.fault.CellFault.{CellFault}
use Rattle.file_spec.specs.declared.fault.RecordFault.{RecordFault}
use Rattle.file_spec.specs.declared.fault.RecordFault.TheVariants.{Short, BadLeader, BadDirectory, BadField, MissingField, RepeatedField, ForeignTag}
use Rattle.file_spec.specs.declared.fault.RecordFault.TheVariants.{NotBase, NotChainNode, TwiceName, HeadOrder, BadText, TooLong, TooMany}

-- the codes are this project's own
abbrev pub code_of : RecordFault → ℕ
code_of Short = 1
code_of BadLeader = 2
code_of BadDirectory = 3
code_of BadField = 4
code_of MissingField = 5
code_of RepeatedField = 6
code_of ForeignTag = 7
code_of NotBase = 8
code_of NotChainNode = 9
code_of TwiceName = 10
code_of HeadOrder = 11
code_of BadText = 12
code_of TooLong = 13
code_of TooMany = 14

abbrev pub of_frame : FrameFault → RecordFault
of_frame frame.Short = Short
of_frame frame.BadLeader = BadLeader
of_frame frame.BadDirectory = BadDirectory

abbrev pub of_field : FieldFault → RecordFault
of_field field.BadField = BadField
of_field field.BadText = BadText

-- a fault of the record of a number, which begins at an offset
abbrev pub fault_at : ℕ → ℕ → RecordFault → CellFault
fault_at number offset fault = record { number = number; offset = offset; code = code_of fault }

-- one step, and the others where it has no fault
infixl 10 ◌>>=◌
abbrev pub ◌>>=◌ : {E A B : Type 0} → Result A E → (A → Result B E) → Result B E
(Ok x) >>= f = f x
(Err e) >>= f = Err e

infixl 10 ◌>>◌
abbrev pub ◌>>◌ : {E B : Type 0} → Option E → Result B E → Result B E
None >> others = others
(Some e) >> others = Err e

-- a test, and the fault of what fails it
abbrev pub demand : {E : Type 0} → Bool → E → Option E
demand holds fault = if holds then None else Some fault
