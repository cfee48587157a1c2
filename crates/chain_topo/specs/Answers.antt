-- What the sorted lists of a cell answer. This project's own.
use Rattle.std.specs.Prelude.{◌≡◌, List, map, find}
use Rattle.std.specs.Borrow.{Bor}
use Rattle.std.specs.List.{IsDistinct}
use Rattle.std.specs.List.Sorted.{IsSortedByKey}
use Rattle.s57_types.specs.declared.name.RecName.{RecName}
use Rattle.s57_types.specs.declared.name.Lnam.{Lnam}
use Rattle.s57_types.specs.declared.record.Rec.{Rec}
use Rattle.s57_types.specs.declared.cell.Cell.{Cell}
use Rattle.cell_spec.specs.declared.key.Ref.{Ref}
use Rattle.cell_spec.specs.Ascending.{order_by}
use Rattle.cell_spec.specs.Lookup.{is_named, name_of, listed_record, lookup_pointers, lookup_identity}
use Rattle.cell_spec.specs.Names.{name_order, identity_parts, same_name}
use Rattle.chain_topo.specs.Listed.{values_at}
use Rattle.chain_topo.specs.Readable.{IsReadable}

-- records in the order of their names, no name twice
pub record IsByName (records : List (Bor Rec)) : Type 0 where
  pub rises : IsSortedByKey (λ (r : Bor Rec). name_of r.now) name_order records
  pub distinct : IsDistinct same_name (map name_of (map (λ (r : Bor Rec). r.now) records))

-- a cell that can be looked into, and lists that answer as it does: its records, its pointers by target, and its features by identifier
pub record Answers (c : Cell) (records : List (Bor Rec)) (pointers : List (RecName × Ref)) (identities : List (Lnam × RecName)) : Type 0 where
  pub readable : IsReadable c
  pub by_name : IsByName records
  pub get : (n : RecName) → find (is_named n) (map (λ (r : Bor Rec). r.now) records) ≡ listed_record c n
  pub refs : (n : RecName) → values_at name_order pointers n ≡ lookup_pointers c n
  pub bearers : (l : Lnam) → values_at (order_by identity_parts) identities l ≡ lookup_identity c l
