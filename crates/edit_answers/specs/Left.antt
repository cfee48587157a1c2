-- The pointers and the identifiers of the records that edits leave. This project's own rules.
use Rattle.std.specs.Prelude.{List, filter_map}
use Rattle.s57_types.specs.declared.name.RecName.{RecName}
use Rattle.s57_types.specs.declared.name.Lnam.{Lnam}
use Rattle.cell_spec.specs.declared.edit.Edit.{Edit}
use Rattle.cell_spec.specs.declared.key.Ref.{Ref}
use Rattle.cell_spec.specs.Edits.{left_by}
use Rattle.chain_topo.specs.Listed.{AreBearersOf, ArePointersOf}

-- both of the records that edits leave
pub record AreLeftBy (edits : List Edit) (pointers : List (RecName × Ref)) (bearers : List (Lnam × RecName)) : Type 0 where
  pub pointers_are : ArePointersOf (filter_map left_by edits) pointers
  pub bearers_are : AreBearersOf (filter_map left_by edits) bearers
