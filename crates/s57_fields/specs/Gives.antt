-- What a reader of a field answers.
use Rattle.std.specs.Prelude.{◌≡◌, Result, Ok, Err}
use Rattle.field_spec.specs.declared.fault.FieldFault.{FieldFault}
use Rattle.field_spec.specs.declared.fault.FieldFault.TheVariants as fault
use Rattle.s57_fields.specs.declared.refusal.FieldRefusal.{FieldRefusal}
use Rattle.s57_fields.specs.declared.refusal.FieldRefusal.TheVariants as refusal

-- the content or its fault, unless memory ran out
abbrev pub Gives : {X : Type 0} → Result X FieldRefusal → Result X FieldFault → Type 0
Gives (Ok x) content = content ≡ Ok x
Gives (Err refusal.BadField) content = content ≡ Err fault.BadField
Gives (Err refusal.BadText) content = content ≡ Err fault.BadText
Gives (Err refusal.NoMemory) content = Unit {0}
