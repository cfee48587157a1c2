-- The segments at a name, by its kind, are those that the rules know it by.
use Rattle.std.proofs.Common.{◌≡◌, ◌++◌, Bool, true, false, List, [], ◌∷◌, Option, Some, None, cond, map, refl, sym, ap, ◌∙◌, arith}
use Rattle.std.specs.Prelude.{option_and_then, option_map, option_to_list}
use Rattle.std.specs.Option.{option_map_or}
use Rattle.std.proofs.lemmas.Bool.Decides.{nat_tests}
use Rattle.std.proofs.lemmas.List.{append-nil}
use Rattle.geometry_spec.specs.Points.{Point}
use Rattle.s57_types.specs.declared.name.Kind.TheVariants.{Vc}
use Rattle.s57_types.specs.declared.name.RecName.{RecName}
use Rattle.s57_types.specs.declared.record.Vector.{Vector}
use Rattle.s57_types.specs.declared.cell.Cell.{Cell}
use Rattle.cell_spec.specs.Names.{is_of_kind}
use Rattle.rule_spec.specs.declared.line.EdgeLine.{EdgeLine}
use Rattle.rule_spec.specs.Candidates.{segments_named}
use Rattle.rule_spec.specs.EdgePoints.{Segment, edge_line_of, edge_points_of, line_of, node_position, segments_of}
use Rattle.rule_spec.specs.Records.{edge_named, is_edge_name, node_named, the_only}
use Rattle.tile_index.specs.Changes.{segments_with}
use Rattle.cell_findings.specs.Points.{points_of, segments_at, segments_between}
use Rattle.cell_findings.proofs.Unnamed.{no_vector}

module _ (c : Cell) (n : RecName) where
  abbrev node_segments : Option Point → List Segment
  node_segments place = map (λ p. (p, p)) (option_to_list place)

  edge_points_by : edge_named c n ≡ None → edge_points_of c n ≡ None
  unfolding edge_line_of
  edge_points_by none = ap (λ (o : Option Vector). option_map (λ (line : EdgeLine). line.points) (option_and_then (line_of c) o)) none

  position_by : node_named c n ≡ None → node_position c n ≡ None
  position_by none = ap (option_and_then (λ (node : Vector). the_only node.plane)) none

  segments_are : segments_named c n ≡ node_segments (node_position c n) ++ segments_between c n
  unfolding segments_named
  segments_are = refl

  by_kind : (is_node is_edge : Bool) → is_of_kind Vc n ≡ is_node → is_edge_name n ≡ is_edge → (is_node ≡ true → is_edge ≡ false)
      → cond is_node (node_segments (node_position c n)) (cond is_edge (segments_between c n) []) ≡ node_segments (node_position c n) ++ segments_between c n
  by_kind true is_edge node edge not_both =
      sym (ap (λ points. node_segments (node_position c n) ++ option_map_or segments_of points [])
      (edge_points_by (no_vector is_edge_name n (edge ∙ not_both refl) c))
      ∙ append-nil (node_segments (node_position c n)))
  by_kind false true node edge not_both =
      sym (ap (λ place. node_segments place ++ segments_between c n) (position_by (no_vector (is_of_kind Vc) n node c)))
  by_kind false false node edge not_both =
      sym (λ i. node_segments (position_by (no_vector (is_of_kind Vc) n node c) i)
      ++ option_map_or segments_of (edge_points_by (no_vector is_edge_name n edge c) i) [])

  one_kind : is_of_kind Vc n ≡ true → is_edge_name n ≡ false
  one_kind e = grind (arith, nat_tests, e)

  pub segments_at_named : segments_at c n ≡ segments_named c n
  segments_at_named = by_kind (is_of_kind Vc n) (is_edge_name n) refl refl one_kind ∙ sym segments_are

  -- ---- with its points
  only_node : (is_edge : Bool) (place : Option Point)
      → option_map_or (λ points. cond true (node_segments (the_only points)) (cond is_edge (segments_of points) [])) (option_map (λ p. p ∷ []) place) []
      ≡ node_segments place
  only_node is_edge None = refl
  only_node is_edge (Some p) = refl

  with_points : (is_node is_edge : Bool)
      → option_map_or (λ points. cond is_node (node_segments (the_only points)) (cond is_edge (segments_of points) []))
      (cond is_node (option_map (λ p. p ∷ []) (node_position c n)) (cond is_edge (edge_points_of c n) None)) []
      ≡ cond is_node (node_segments (node_position c n)) (cond is_edge (segments_between c n) [])
  with_points true is_edge = only_node is_edge (node_position c n)
  with_points false true = refl
  with_points false false = refl

  pub segments_with_points : option_map_or (segments_with n) (points_of c n) [] ≡ segments_named c n
  segments_with_points = with_points (is_of_kind Vc n) (is_edge_name n) ∙ segments_at_named
