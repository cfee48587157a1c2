-- Edges that edits leave alone have the lines that they had.
use Rattle.std.proofs.Common.{◌≡◌, ℕ, Bool, true, false, Option, None, Some, map, refl, sym, ap, ◌∙◌}
use Rattle.std.specs.Prelude.{◌==◌, option_and_then, option_map}
use Rattle.std.specs.List.{list_any}
use Rattle.std.proofs.lemmas.Bool.{both_ways as contradiction, eqb-true, false_from_ne_true}
use Rattle.s57_types.specs.declared.name.Kind.{Kind}
use Rattle.s57_types.specs.declared.name.Kind.TheVariants.{Vc, Ve, Fe}
use Rattle.s57_types.specs.declared.name.RecName.{RecName}
use Rattle.s57_types.specs.declared.record.End.{End}
use Rattle.s57_types.specs.declared.record.Vector.{Vector}
use Rattle.s57_types.specs.declared.cell.Cell.{Cell}
use Rattle.cell_spec.specs.Lookup.{lookup_record}
use Rattle.cell_spec.specs.Names.{is_of_kind, kind_rank, same_name}
use Rattle.cell_spec.proofs.Orders.{one_when_same, same_from_either}
use Rattle.geometry_spec.specs.Points.{Point}
use Rattle.rule_spec.specs.EdgePoints.{edge_line_of, line_between, line_of, node_at, node_position}
use Rattle.rule_spec.specs.Records.{edge_named, is_edge_name, node_named, the_only, vector_of}
use Rattle.answer_laws.proofs.Among.{among_map, any_passes}
use Rattle.topo_ops.proofs.Lines.{end_at, line_through}
use Rattle.topo_ops.proofs.PlaceCounts.{same_self}
use Rattle.topo_ops.proofs.Records.{no_vector}

-- names of different kinds differ
pub kinds_apart : (k : Kind) (a n : RecName) → is_of_kind k a ≡ false → is_of_kind k n ≡ true → same_name a n ≡ false
kinds_apart k a n other kind = false_from_ne_true (same_name a n) (λ same.
    contradiction (is_of_kind k a) other (ap (is_of_kind k) (one_when_same a n same) ∙ kind))

-- a name of a vector's kind isn't a feature's
pub node_no_feature : (n : RecName) → is_of_kind Vc n ≡ true → is_of_kind Fe n ≡ false
node_no_feature n e = ap (λ k. k == 3) (eqb-true (kind_rank n.kind) 1 e)

pub edge_no_feature : (n : RecName) → is_of_kind Ve n ≡ true → is_of_kind Fe n ≡ false
edge_no_feature n e = ap (λ k. k == 3) (eqb-true (kind_rank n.kind) 2 e)

node_no_edge : (n : RecName) → is_of_kind Vc n ≡ true → is_of_kind Ve n ≡ false
node_no_edge n e = ap (λ k. k == 2) (eqb-true (kind_rank n.kind) 1 e)

edge_no_node : (n : RecName) → is_of_kind Ve n ≡ true → is_of_kind Vc n ≡ false
edge_no_node n e = ap (λ k. k == 1) (eqb-true (kind_rank n.kind) 2 e)

-- a record names a target among its ends
pub end_named : (topi : ℕ) (v : Vector) (m : RecName) → node_at topi v ≡ Some m → list_any (same_name m) (map (λ (e : End). e.to) v.ends) ≡ true
end_named topi v m e =
    let there = end_at topi v m e in
    any_passes (same_name m) there.end.to (map (λ (e : End). e.to) v.ends) (among_map (λ (e : End). e.to) there.end v.ends there.among)
    (ap (same_name m) there.to_is ∙ same_self m)

-- a node that an edge names isn't one that its ends don't name
pub other_node : (n : RecName) (topi : ℕ) (v : Vector) (m : RecName) → list_any (same_name n) (map (λ (x : End). x.to) v.ends) ≡ false → node_at topi v ≡ Some m
    → same_name n m ≡ false
other_node n topi v m none at = false_from_ne_true (same_name n m) (λ is.
    contradiction (list_any (same_name n) (map (λ (x : End). x.to) v.ends)) none
    (ap (λ k. list_any (same_name k) (map (λ (x : End). x.to) v.ends)) (one_when_same n m is) ∙ end_named topi v m at))

module _ (c d : Cell) (e f n : RecName) (first : is_of_kind Ve e ≡ true) (second : is_of_kind Ve f ≡ true) (node : is_of_kind Vc n ≡ true)
    (same : (m : RecName) → is_of_kind Fe m ≡ false → same_name e m ≡ false → same_name f m ≡ false → same_name n m ≡ false
    → lookup_record d m ≡ lookup_record c m) where
  node_by : (m : RecName) (b : Bool) → is_of_kind Vc m ≡ b → same_name n m ≡ false → node_named d m ≡ node_named c m
  node_by m true kind other =
      ap (option_and_then (vector_of (is_of_kind Vc))) (same m (node_no_feature m kind) (kinds_apart Vc e m (edge_no_node e first) kind)
      (kinds_apart Vc f m (edge_no_node f second) kind) other)
  node_by m false kind other = no_vector (is_of_kind Vc) d m kind ∙ sym (no_vector (is_of_kind Vc) c m kind)

  -- nodes beside the one
  pub node_same : (m : RecName) → same_name n m ≡ false → node_named d m ≡ node_named c m
  node_same m other = node_by m (is_of_kind Vc m) refl other

  pub position_same : (m : RecName) → same_name n m ≡ false → node_position d m ≡ node_position c m
  position_same m other = ap (option_and_then (λ (v : Vector). the_only v.plane)) (node_same m other)

  edge_by : (m : RecName) (b : Bool) → is_of_kind Ve m ≡ b → same_name m e ≡ false → same_name m f ≡ false → edge_named d m ≡ edge_named c m
  edge_by m true kind one other =
      ap (option_and_then (vector_of is_edge_name)) (same m (edge_no_feature m kind) (same_from_either e m ∙ one) (same_from_either f m ∙ other)
      (kinds_apart Ve n m (node_no_edge n node) kind))
  edge_by m false kind one other = no_vector is_edge_name d m kind ∙ sym (no_vector is_edge_name c m kind)

  edge_same : (m : RecName) → same_name m e ≡ false → same_name m f ≡ false → edge_named d m ≡ edge_named c m
  edge_same m one other = edge_by m (is_of_kind Ve m) refl one other

  between_by : (v : Vector) → list_any (same_name n) (map (λ (x : End). x.to) v.ends) ≡ false → (o r : Option RecName) → node_at 1 v ≡ o → node_at 2 v ≡ r
      → line_between d v o r ≡ line_between c v o r
  between_by v none None r begins ends = refl
  between_by v none (Some m) None begins ends = refl
  between_by v none (Some m) (Some k) begins ends =
      let from = position_same m (other_node n 1 v m none begins) in
      let to = position_same k (other_node n 2 v k none ends) in
      λ i. option_and_then (λ (p : Point). option_map (λ q. line_through v m k p q) (to i)) (from i)

  line_by : (m : RecName) (o : Option Vector) → edge_named c m ≡ o
      → ((v : Vector) → edge_named c m ≡ Some v → list_any (same_name n) (map (λ (x : End). x.to) v.ends) ≡ false)
      → option_and_then (line_of d) o ≡ option_and_then (line_of c) o
  line_by m None is none = refl
  line_by m (Some v) is none = between_by v (none v is) (node_at 1 v) (node_at 2 v) refl refl

  -- the line of an edge beside the two that doesn't name the node
  pub line_same : (m : RecName) → same_name m e ≡ false → same_name m f ≡ false
      → ((v : Vector) → edge_named c m ≡ Some v → list_any (same_name n) (map (λ (x : End). x.to) v.ends) ≡ false) → edge_line_of d m ≡ edge_line_of c m
  unfolding edge_line_of
  line_same m one other none =
      ap (option_and_then (line_of d)) (edge_same m one other) ∙ line_by m (edge_named c m) refl none
