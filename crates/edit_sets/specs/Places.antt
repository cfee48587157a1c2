-- The places of edits by their names. This project's own.
use Rattle.std.specs.Prelude.{◌≡◌, ℕ, ◌<◌, List, length, map, slice_get, slice_index_or, Option, None, Some}
use Rattle.s57_types.specs.declared.name.RecName.{RecName}
use Rattle.cell_spec.specs.Ascending.{ascending}
use Rattle.cell_spec.specs.Edits.{edit_of, name_of_edit}
use Rattle.cell_spec.specs.Names.{name_order}
use Rattle.cell_spec.specs.declared.edit.Edit.{Edit}
use Rattle.edit_sets.specs.FormFault.{first_edit_fault}
use Rattle.edit_sets.specs.declared.fault.FormRefusal.{FormRefusal}
use Rattle.edit_sets.specs.declared.fault.FormRefusal.TheVariants.{Fault, NoMemory}
use Rattle.edit_sets.specs.declared.places.Places.{Places}

-- a place is that of the edit of a name, and there is none where no edit has the name
abbrev pub IsPlaceOf : List Edit → RecName → Option ℕ → Type 0
IsPlaceOf edits name None = edit_of name edits ≡ None
IsPlaceOf edits name (Some place) = (place < length edits) × (slice_get edits place ≡ edit_of name edits)

-- the places of the edits of names, name for name
pub record ArePlaces (edits : List Edit) (names : List RecName) (places : List (Option ℕ)) : Type 0 where
  pub as_many : length places ≡ length names
  pub each : (i : ℕ) (d : RecName) → i < length names → IsPlaceOf edits (slice_index_or names i d) (slice_index_or places i None)

-- the names of edits in order, with their places
pub record ArePlacesOf (edits : List Edit) (places : Places) : Type 0 where
  pub names_are : places.names ≡ ascending name_order (map name_of_edit edits)
  pub places_are : ArePlaces edits places.names places.places.items

-- the places of edits without a fault, or the fault of the first that has one
pub record IsWithoutFault (nall : ℕ) (edits : List Edit) (places : Places) : Type 0 where
  pub none : first_edit_fault nall edits ≡ None
  pub places_are : ArePlacesOf edits places

abbrev pub IsEditRefusal : ℕ → List Edit → FormRefusal → Type 0
IsEditRefusal nall edits (Fault fault) = first_edit_fault nall edits ≡ Some fault
IsEditRefusal nall edits NoMemory = Unit {0}
