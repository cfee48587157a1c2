-- The fault of a field whose rows take so many bytes each, whatever these are.
use Rattle.std.specs.Prelude.{ℕ, ◌%◌, ◌==◌, List, length, Option, Some, None, if◌then◌else◌}
use Rattle.field_spec.specs.Cutting.{before_terminator}
use Rattle.field_spec.specs.declared.fault.FieldFault.{FieldFault}
use Rattle.field_spec.specs.declared.fault.FieldFault.TheVariants.{BadField}

-- so many bytes are whole rows
abbrev pub fault_of_length : ℕ → ℕ → Option FieldFault
fault_of_length size n = if n % size == 0 then None else Some BadField

abbrev pub size_fault : ℕ → List ℕ → Option FieldFault
size_fault size b = of_body (before_terminator b)
  where
    of_body : Option (List ℕ) → Option FieldFault
    of_body None = Some BadField
    of_body (Some body) = fault_of_length size (length body)
