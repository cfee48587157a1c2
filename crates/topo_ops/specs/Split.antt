-- Splitting an edge at one of its points by a new connected node and a new edge. This project's own rules.
use Rattle.std.specs.Prelude.{ℕ, ◌+◌, ◌-◌, ◌==◌, ◌&&◌, List, [], ◌∷◌, Option, None, Some, length, map, flat_map, take, drop, slice_get, nat_le}
use Rattle.std.specs.Prelude.{option_to_list, if◌then◌else◌}
use Rattle.std.specs.Option.{option_map_or}
use Rattle.s57_types.specs.declared.name.RecName.{RecName}
use Rattle.s57_types.specs.declared.record.End.{End}
use Rattle.s57_types.specs.declared.record.Feature.{Feature}
use Rattle.s57_types.specs.declared.record.Spot.{Spot}
use Rattle.s57_types.specs.declared.record.Vector.{Vector}
use Rattle.s57_types.specs.declared.record.Rec.TheVariants.{V}
use Rattle.s57_types.specs.declared.cell.Cell.{Cell}
use Rattle.cell_spec.specs.declared.edit.Edit.{Edit}
use Rattle.cell_spec.specs.declared.edit.Edit.TheVariants.{Add, Set}
use Rattle.cell_spec.specs.Names.{same_name}
use Rattle.topo_ops.specs.Causes.{name_taken, version_end, form_refused}
use Rattle.topo_ops.specs.Chains.{Chain, chain_named, edge_name, node_name}
use Rattle.topo_ops.specs.Features.{features_at, feature_edit}
use Rattle.topo_ops.specs.Refusals.{first_of}
use Rattle.topo_ops.specs.declared.refusal.OpRefusal.{OpRefusal}
use Rattle.topo_ops.specs.declared.refusal.OpRefusal.TheVariants.{BadPlace, NoEdge}
use Rattle.topo_ops.specs.declared.operation.EdgeSplit.{EdgeSplit}

-- the split of an edge at a point by a node and an edge, by their numbers
abbrev pub split_by : ℕ → ℕ → ℕ → ℕ → EdgeSplit
split_by edge at node fresh = record { edge = edge_name edge; at = at; node = node_name node; fresh = edge_name fresh }

-- an end node (TOPI 2) becomes another; any other end stays
abbrev pub end_moved : RecName → End → End
end_moved node e = if e.topi == 2 then record e { to = node } else e

-- how many points the edge has between its beginning node and the point at which it is split
abbrev pub points_before : EdgeSplit → ℕ
points_before s = s.at - 2

-- the edge up to the point
abbrev pub first_part : EdgeSplit → Vector → Vector
first_part s e = record e { rver = e.rver + 1; ends = map (end_moved s.node) e.ends; plane = take (points_before s) e.plane }

-- the new node, at the point
abbrev pub new_node : EdgeSplit → Vector → Vector
new_node s e = record { name = s.node; rver = 1; attrs = []; ends = []; plane = option_to_list (slice_get e.plane (points_before s)); deep = [] }

-- an end of a new edge: no orientation, usage and masking indicator (255)
abbrev pub new_end : ℕ → RecName → End
new_end topi to = record { to = to; ornt = 255; usag = 255; topi = topi; mask = 255 }

-- the new edge, from the point on
abbrev pub second_part : EdgeSplit → Chain → Vector
second_part s chain = record {
  name = s.fresh;
  rver = 1;
  attrs = chain.edge.attrs;
  ends = new_end 1 s.node ∷ new_end 2 chain.line.ends ∷ [];
  plane = drop (points_before s + 1) chain.edge.plane;
  deep = [];
}

abbrev pub on_edge : RecName → Spot → Spot
on_edge n s = record s { to = n }

-- a spatial pointer to the edge becomes two with its codes: to the edge, then to the new edge, or the other way round where it goes along the edge in
-- reverse (ORNT 2)
abbrev pub split_place : RecName → RecName → Spot → List Spot
split_place edge fresh s = if same_name s.to edge then
    (if s.ornt == 2 then on_edge fresh s ∷ s ∷ [] else s ∷ on_edge fresh s ∷ []) else s ∷ []

abbrev pub split_places : RecName → RecName → List Spot → List Spot
split_places edge fresh places = flat_map (split_place edge fresh) places

-- the edits of a split: the edge, the new edge, the new node, and features that point to the edge
abbrev pub edits_by_split : EdgeSplit → Chain → List Feature → List Edit
edits_by_split s chain fs = Set (V (first_part s chain.edge)) ∷ Add (V (second_part s chain)) ∷ Add (V (new_node s chain.edge))
    ∷ map (feature_edit (split_places s.edge s.fresh)) fs

-- the same with all features that do, ascending by name
abbrev pub edits_of_split : Cell → EdgeSplit → Chain → List Edit
edits_of_split c s chain = edits_by_split s chain (features_at c (s.edge ∷ []))

-- an edge of so many segments is split at one of its points from the second to the last but one
abbrev pub bad_place : EdgeSplit → Chain → Option OpRefusal
bad_place s chain = let segments = length chain.line.points - 1 in if nat_le 2 s.at && nat_le s.at segments then None else Some (BadPlace segments)

-- why an edge with points can't be cut there by these names, if it can't
abbrev pub cut_fault : Cell → EdgeSplit → Chain → Option OpRefusal
cut_fault c s chain = first_of (bad_place s chain ∷ name_taken c s.node ∷ name_taken c s.fresh ∷ [])

-- why an edge with points isn't split, if it isn't: the first cause in this order
abbrev pub split_fault : ℕ → Cell → EdgeSplit → Chain → Option OpRefusal
split_fault nall c s chain = first_of (
    cut_fault c s chain
    ∷ version_end chain.edge (features_at c (s.edge ∷ []))
    ∷ form_refused nall (edits_of_split c s chain)
    ∷ [])

-- the same for any name; NALL is that of the edit set
unfoldable pub split_refusal : ℕ → Cell → EdgeSplit → Option OpRefusal
split_refusal nall c s = option_map_or (split_fault nall c s) (chain_named c s.edge) (Some (NoEdge s.edge.id))

-- the edits of a split where the edge has points
unfoldable pub split_edits : Cell → EdgeSplit → List Edit
split_edits c s = option_map_or (edits_of_split c s) (chain_named c s.edge) []
