-- The names of the records that were read.
use Rattle.std.specs.Prelude.{◌≡◌, ◌||◌, Bool, length}
use Rattle.std.specs.BTreeSet.{contains}
use Rattle.std.specs.List.{list_any}
use Rattle.std.specs.List.Sorted.{IsStrictlySortedBy}
use Rattle.cell_spec.specs.Lookup.{all_records, is_named}
use Rattle.cell_spec.specs.Names.{name_order, same_name}
use Rattle.s57_types.specs.declared.name.RecName.{RecName}
use Rattle.cell_read.specs.declared.names.Names.{Names}
use Rattle.cell_read.specs.declared.reading.Reading.{Reading}

abbrev pub has_name : Names → RecName → Bool
has_name names n = list_any (same_name n) names.ascending.items || contains name_order names.others n

abbrev pub Ascends : Names → Type 0
Ascends names = IsStrictlySortedBy name_order names.ascending.items

-- the names and the number are those of the records
pub record IsKnown (reading : Reading) : Type 0 where
  pub names_are : (n : RecName) → has_name reading.names n ≡ list_any (is_named n) (all_records reading.cell)
  pub ascends : Ascends reading.names
  pub count_is : reading.count ≡ length (all_records reading.cell)
