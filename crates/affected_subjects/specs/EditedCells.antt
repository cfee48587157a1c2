-- What tells of an edited cell without a look-up. This project's own rules.
use Rattle.std.specs.Prelude.{◌≡◌, ◌||◌, Bool, true, false, List, [], ◌∷◌, Option, None, Some, length, nat_lt, option_map, if◌then◌else◌}
use Rattle.std.specs.List.{list_any}
use Rattle.s57_types.specs.declared.name.Kind.TheVariants.{Vc, Ve}
use Rattle.s57_types.specs.declared.name.RecName.{RecName}
use Rattle.s57_types.specs.declared.name.Lnam.{Lnam}
use Rattle.s57_types.specs.declared.record.Vector.{Vector}
use Rattle.s57_types.specs.declared.cell.Cell.{Cell}
use Rattle.cell_spec.specs.declared.edit.Edit.{Edit}
use Rattle.cell_spec.specs.declared.edit.Edit.TheVariants.{Add, Set, Del, Head}
use Rattle.cell_spec.specs.declared.key.Key.{Key}
use Rattle.cell_spec.specs.declared.key.Key.TheVariants.{Foid}
use Rattle.cell_spec.specs.declared.key.Subject.{Subject}
use Rattle.cell_spec.specs.declared.key.Subject.TheVariants.{Rec, Side, Pair, Ident}
use Rattle.cell_spec.specs.Edits.{touched_keys}
use Rattle.cell_spec.specs.Lookup.{lookup_identity}
use Rattle.cell_spec.specs.Names.{identity_order, is_of_kind, same_key}
use Rattle.geometry_spec.specs.Points.{Point}
use Rattle.rule_spec.specs.EdgePoints.{edge_points_of}
use Rattle.rule_spec.specs.Records.{node_named}
use Rattle.row_spec.specs.Rows.{value_of}
use Rattle.finding_laws.specs.Tables.{IsReadsOf}
use Rattle.answer_laws.specs.EditedAnswers.{FindTheirRecords, bearers_after}
use Rattle.tile_index.specs.declared.change.TileChange.{TileChange}

-- whether a feature bears an identifier after edits
abbrev pub is_borne_after : List Edit → Cell → Lnam → Bool
is_borne_after edits c l = nat_lt 0 (length (bearers_after edits l (lookup_identity c l)))

-- of each identifier whose key is among some it is known whether a feature bears it after edits, and of no other
pub record KnowsBearers (keys : List Key) (edits : List Edit) (c : Cell) (borne : List (Lnam × Bool)) : Type 0 where
  pub bearers_are : (l : Lnam) → value_of identity_order borne l ≡ (if list_any (same_key (Foid l)) keys then Some (is_borne_after edits c l) else None)

-- edits that find their records in a cell, the read sets of the cell, and whether touched identifiers are borne after the edits
pub record IsEdited (c : Cell) (edits : List Edit) (rows : List (Subject × List Key)) (borne : List (Lnam × Bool)) : Type 0 where
  pub found : FindTheirRecords edits c
  pub reads : IsReadsOf c rows
  pub bearers : KnowsBearers (touched_keys edits c) edits c borne

-- whether there is a record under a name, where there was one or none, by the edit of the name
abbrev pub is_listed_after : Bool → Option Edit → Bool
is_listed_after was None = was
is_listed_after was (Some (Add r)) = true
is_listed_after was (Some (Set r)) = true
is_listed_after was (Some (Del n)) = false
is_listed_after was (Some (Head e)) = was

-- a name of a connected node or of an edge
abbrev pub is_chain_name : RecName → Bool
is_chain_name n = is_of_kind Vc n || is_of_kind Ve n

-- the points of a connected node as they stand, those of an edge from its beginning node to its end node
abbrev pub points_in : Cell → RecName → Option (List Point)
points_in c n = if is_of_kind Vc n then option_map (λ (node : Vector). node.plane) (node_named c n) else edge_points_of c n

-- where a record lies in a cell, as a change of where it lay
abbrev pub change_to : Cell → RecName → TileChange
change_to c n = record { name = n; points = points_in c n }

-- the change of a subject that is a connected node or an edge
abbrev pub changes_to : Cell → Subject → List TileChange
changes_to c (Rec n) = if is_chain_name n then change_to c n ∷ [] else []
changes_to c (Side n) = []
changes_to c (Pair a b) = []
changes_to c (Ident l) = []
