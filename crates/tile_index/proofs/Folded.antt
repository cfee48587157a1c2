-- Changes one after the other: the rows ascend, and each name has what the last change of it says.
use Rattle.std.proofs.Common.{◌≡◌, List, [], ◌∷◌, Option, None, Some, cond, refl, ap, ◌∙◌, is_eq}
use Rattle.std.specs.Option.{option_map_or}
use Rattle.s57_types.specs.declared.name.RecName.{RecName}
use Rattle.cell_spec.specs.Names.{name_order}
use Rattle.cell_spec.proofs.Orders.{names_tie, same_from_either, total_names}
use Rattle.row_spec.specs.Rows.{IsAscending, value_of, with_row, without_key}
use Rattle.row_spec.proofs.Ascending.{IsAscending-with_row, IsAscending-without_key}
use Rattle.row_spec.proofs.Changes.{value_of-with_row, value_of-without_key}
use Rattle.finding_laws.specs.Tables.{Covering}
use Rattle.tile_index.specs.declared.change.TileChange.{TileChange}
use Rattle.tile_index.specs.Changes.{after_change, after_changes, covering_after, covering_given}

module _ (rows : List (RecName × Covering)) (name : RecName) (ascending : IsAscending name_order rows) where
  -- the rows with another covering of the name, or without it
  abbrev changed : Option Covering → List (RecName × Covering)
  changed given = option_map_or (λ covering. with_row name_order rows name covering) given (without_key name_order rows name)

  changed_ascends : (given : Option Covering) → IsAscending name_order (changed given)
  changed_ascends None = IsAscending-without_key name_order rows name ascending
  changed_ascends (Some covering) = IsAscending-with_row name_order total_names rows name covering ascending

  value_changed : (n : RecName) (given : Option Covering)
      → value_of name_order (changed given) n ≡ cond (is_eq (name_order name n)) given (value_of name_order rows n)
  value_changed n None = value_of-without_key name_order total_names rows name n ascending
  value_changed n (Some covering) = value_of-with_row name_order total_names rows name n covering

-- all changes
pub all_ascend : (rows : List (RecName × Covering)) (changes : List TileChange) → IsAscending name_order rows
    → IsAscending name_order (after_changes rows changes)
all_ascend rows [] ascending = ascending
all_ascend rows (change ∷ changes) ascending =
    all_ascend (after_change rows change) changes (changed_ascends rows change.name ascending (covering_given change))

pub all_set : (rows : List (RecName × Covering)) (changes : List TileChange) (n : RecName) → IsAscending name_order rows
    → value_of name_order (after_changes rows changes) n ≡ covering_after (value_of name_order rows n) changes n
all_set rows [] n ascending = refl
all_set rows (change ∷ changes) n ascending =
    all_set (after_change rows change) changes n (changed_ascends rows change.name ascending (covering_given change))
    ∙ ap (λ had. covering_after had changes n)
    (value_changed rows change.name ascending n (covering_given change)
    ∙ ap (λ b. cond b (covering_given change) (value_of name_order rows n)) (names_tie change.name n ∙ same_from_either n change.name))
