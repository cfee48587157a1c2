-- What an edit set keeps. This project's own.
use Rattle.std.specs.Prelude.{◌≡◌, ◌++◌, None, map}
use Rattle.cell_spec.specs.Ascending.{ascending}
use Rattle.cell_spec.specs.Edits.{name_of_edit}
use Rattle.cell_spec.specs.Names.{name_order}
use Rattle.edit_sets.specs.FormFault.{form_fault}
use Rattle.edit_sets.specs.Places.{ArePlacesOf}
use Rattle.edit_sets.specs.declared.edit_set.Parts.{Parts}

-- edits and guards without a fault, the places of the edits, and in order the names that a commit of them rests on
pub record AreParts (parts : Parts) : Type 0 where
  pub no_fault : form_fault parts.nall parts.edits parts.guards ≡ None
  pub places_are : ArePlacesOf parts.edits parts.places
  pub claims_are : parts.claims ≡ ascending name_order (map name_of_edit parts.edits ++ parts.guards)
