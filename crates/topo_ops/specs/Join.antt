-- Joining two edges that follow each other, by which the connected node between them goes. This project's own rules.
use Rattle.std.specs.Prelude.{ℕ, ◌+◌, ◌-◌, ◌==◌, ◌&&◌, ◌||◌, ◌++◌, Bool, false, not, List, [], ◌∷◌, Option, None, Some, length, map, drop, filter, find}
use Rattle.std.specs.Prelude.{slice_get, nat_lt, is_some, option_map, if◌then◌else◌}
use Rattle.std.specs.Option.{option_map_or}
use Rattle.s57_types.specs.declared.name.RecName.{RecName}
use Rattle.s57_types.specs.declared.record.End.{End}
use Rattle.s57_types.specs.declared.record.Feature.{Feature}
use Rattle.s57_types.specs.declared.record.Spot.{Spot}
use Rattle.s57_types.specs.declared.record.Vector.{Vector}
use Rattle.s57_types.specs.declared.record.Rec.TheVariants.{V}
use Rattle.s57_types.specs.declared.cell.Cell.{Cell}
use Rattle.cell_spec.specs.declared.edit.Edit.{Edit}
use Rattle.cell_spec.specs.declared.edit.Edit.TheVariants.{Set, Del}
use Rattle.cell_spec.specs.declared.key.Ref.{Ref}
use Rattle.cell_spec.specs.Lookup.{lookup_pointers}
use Rattle.cell_spec.specs.Names.{same_name}
use Rattle.rule_spec.specs.Records.{node_named}
use Rattle.topo_ops.specs.Attributes.{same_attributes}
use Rattle.topo_ops.specs.Causes.{version_end, form_refused}
use Rattle.topo_ops.specs.Chains.{Chain, chain_named, edge_name}
use Rattle.topo_ops.specs.Features.{features_at, feature_edit}
use Rattle.topo_ops.specs.Refusals.{first_of}
use Rattle.topo_ops.specs.Split.{end_moved}
use Rattle.topo_ops.specs.declared.refusal.OpRefusal.{OpRefusal}
use Rattle.topo_ops.specs.declared.refusal.OpRefusal.TheVariants.{NoEdge, NotAChain, NodeUsed, AttrsDiffer, NotPaired}
use Rattle.topo_ops.specs.declared.operation.EdgeJoin.{EdgeJoin}

-- the join of an edge with the one behind it, by their numbers
abbrev pub join_by : ℕ → ℕ → EdgeJoin
join_by edge other = record { edge = edge_name edge; other = edge_name other }

-- the two edges are one, or the first doesn't end where the second begins
abbrev pub not_a_chain : Chain → Chain → Option OpRefusal
not_a_chain e f = if same_name e.edge.name f.edge.name || not (same_name e.line.ends f.line.begins) then Some NotAChain else None

-- a pointer is an end of an edge with a topology indicator (TOPI)
abbrev pub is_end_of : ℕ → Vector → Ref → Bool
is_end_of topi edge r = same_name r.from edge.name && option_map_or (λ (e : End). e.topi == topi) (slice_get edge.ends (r.place - 1)) false

-- the node between two edges has another pointer than the end of the one and the beginning of the other; the least
abbrev pub is_other_pointer : Chain → Chain → Ref → Bool
is_other_pointer e f r = not (is_end_of 2 e.edge r || is_end_of 1 f.edge r)

abbrev pub node_used : Cell → Chain → Chain → Option OpRefusal
node_used c e f = option_map (λ (r : Ref). NodeUsed r.from r.place) (find (is_other_pointer e f) (lookup_pointers c e.line.ends))

-- a connected node has attributes
abbrev pub has_attributes : Cell → RecName → Bool
has_attributes c n = option_map_or (λ (node : Vector). nat_lt 0 (length node.attrs)) (node_named c n) false

-- the edges' attributes differ, or the node has any
abbrev pub attrs_differ : Cell → Chain → Chain → Option OpRefusal
attrs_differ c e f = if same_attributes e.edge.attrs f.edge.attrs && not (has_attributes c e.line.ends) then None else Some AttrsDiffer

-- a spatial pointer names one of the two edges
abbrev pub names_either : EdgeJoin → Spot → Bool
names_either j s = same_name s.to j.edge || same_name s.to j.other

-- two spatial pointers name the one edge, then the other, or the other way round where they go along the edges in reverse (ORNT 2)
abbrev pub name_in_order : EdgeJoin → Spot → Spot → Bool
name_in_order j s t = if s.ornt == 2 then same_name s.to j.other && same_name t.to j.edge else same_name s.to j.edge && same_name t.to j.other

-- and have the same orientation, usage and masking indicators
abbrev pub have_same_codes : Spot → Spot → Bool
have_same_codes s t = (s.ornt == t.ornt) && (s.usag == t.usag) && (s.mask == t.mask)

abbrev pub are_paired : EdgeJoin → Spot → Spot → Bool
are_paired j s t = name_in_order j s t && have_same_codes s t

-- the place that waits for its pair behind a next place, if any; none at all where the place that waits isn't paired
abbrev pub waiting_behind : EdgeJoin → Option Spot → Spot → Option (Option Spot)
waiting_behind j None t = Some (if names_either j t then Some t else None)
waiting_behind j (Some s) t = if are_paired j s t then Some None else None

-- the first place that names one of the edges and isn't paired, places being paired from the first on, where one waits for its pair or none does and the
-- next has a number
abbrev pub unpaired_from : EdgeJoin → ℕ → Option Spot → List Spot → Option ℕ
unpaired_from j k waiting [] = if is_some waiting then Some (k - 1) else None
unpaired_from j k waiting (t ∷ rest) = option_map_or (λ next. unpaired_from j (k + 1) next rest) (waiting_behind j waiting t) (Some (k - 1))

-- the same of a feature
abbrev pub feature_unpaired : EdgeJoin → Feature → Option OpRefusal
feature_unpaired j f = option_map (λ place. NotPaired f.name.id place) (unpaired_from j 1 None f.places)

-- the features that point to one of the edges
abbrev pub features_of_join : Cell → EdgeJoin → List Feature
features_of_join c j = features_at c (j.edge ∷ j.other ∷ [])

-- why edges aren't joined for the features that point to them, if they aren't: the least such place of a feature, or a version that can't rise
abbrev pub features_fault : EdgeJoin → Vector → List Feature → Option OpRefusal
features_fault j e fs = first_of (first_of (map (feature_unpaired j) fs) ∷ version_end e fs ∷ [])

-- the joined edge: behind its first point its points up to the node's, then those of the second edge to its end node
abbrev pub joined_edge : Chain → Chain → Vector
joined_edge e f = record (e.edge) {
  rver = e.edge.rver + 1;
  ends = map (end_moved f.line.ends) e.edge.ends;
  plane = drop 1 e.line.points ++ f.edge.plane;
}

-- of two paired places the one of the first edge stays
abbrev pub joined_places : RecName → List Spot → List Spot
joined_places other places = filter (λ (s : Spot). not (same_name s.to other)) places

-- the edits of a join: the edge, the end of the second edge and of the node, and features that point to one of the edges
abbrev pub edits_by_join : EdgeJoin → Chain → Chain → List Feature → List Edit
edits_by_join j e f fs = Set (V (joined_edge e f)) ∷ Del j.other ∷ Del e.line.ends ∷ map (feature_edit (joined_places j.other)) fs

-- the same with all features that do, ascending by name
abbrev pub edits_of_join : Cell → EdgeJoin → Chain → Chain → List Edit
edits_of_join c j e f = edits_by_join j e f (features_of_join c j)

-- why two edges with points aren't joined for what they and the node between them are, if they aren't
abbrev pub chains_fault : Cell → Chain → Chain → Option OpRefusal
chains_fault c e f = first_of (not_a_chain e f ∷ node_used c e f ∷ attrs_differ c e f ∷ [])

-- why two edges with points aren't joined, if they aren't: the first cause in this order
abbrev pub join_fault : ℕ → Cell → EdgeJoin → Chain → Chain → Option OpRefusal
join_fault nall c j e f = first_of (
    chains_fault c e f
    ∷ features_fault j e.edge (features_of_join c j)
    ∷ form_refused nall (edits_of_join c j e f)
    ∷ [])

-- the same for any names; NALL is that of the edit set
unfoldable pub join_refusal : ℕ → Cell → EdgeJoin → Option OpRefusal
join_refusal nall c j =
    option_map_or (λ e. option_map_or (join_fault nall c j e) (chain_named c j.other) (Some (NoEdge j.other.id))) (chain_named c j.edge)
    (Some (NoEdge j.edge.id))

-- the edits of a join where both edges have points
unfoldable pub join_edits : Cell → EdgeJoin → List Edit
join_edits c j = option_map_or (λ e. option_map_or (edits_of_join c j e) (chain_named c j.other) []) (chain_named c j.edge) []
