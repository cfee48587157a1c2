-- The least box around a connected node is that of its position, the least box around an edge that of its line.
use Rattle.std.proofs.Common.{◌≡◌, ◌++◌, Bool, true, false, List, [], Option, None, Some, map, refl, ap, ◌∙◌}
use Rattle.std.specs.Prelude.{option_to_list}
use Rattle.std.specs.List.{enumerate_from}
use Rattle.std.specs.Option.{option_map, option_map_or}
use Rattle.std.proofs.lemmas.List.{append-nil}
use Rattle.s57_types.specs.declared.name.RecName.{RecName}
use Rattle.s57_types.specs.declared.record.Rec.TheVariants.{V}
use Rattle.s57_types.specs.declared.record.Vector.{Vector}
use Rattle.s57_types.specs.declared.cell.Cell.{Cell}
use Rattle.cell_spec.specs.Lookup.{lookup_record}
use Rattle.geometry_spec.specs.Points.{Point}
use Rattle.geometry_spec.specs.declared.tile.Box4.{Box4}
use Rattle.line_boxes.specs.LineBoxes.{line_box}
use Rattle.rule_spec.specs.declared.line.EdgeLine.{EdgeLine}
use Rattle.rule_spec.specs.Candidates.{segments_named}
use Rattle.rule_spec.specs.EdgePoints.{Segment, edge_line_of, node_position, segments_of}
use Rattle.rule_spec.specs.Records.{is_edge_name}
use Rattle.check_pairs.specs.Parts.{extent_at}
use Rattle.check_pairs.proofs.Parts.{no_edge, no_line, no_node, no_place}

abbrev place_segments : Option Point → List Segment
place_segments place = map (λ p. (p, p)) (option_to_list place)

abbrev box_from : Option Point → Option EdgeLine → Option Box4
box_from place line = line_box (enumerate_from 1 (place_segments place ++ option_map_or segments_of (option_map (λ (l : EdgeLine). l.points) line) []))

module _ (c : Cell) (n : RecName) where
  is_from : extent_at c n ≡ box_from (node_position c n) (edge_line_of c n)
  unfolding segments_named
  is_from = refl

  -- what has no line has the box of its position
  pub box_without_line : edge_line_of c n ≡ None → extent_at c n ≡ line_box (enumerate_from 1 (place_segments (node_position c n)))
  box_without_line none =
      is_from
      ∙ ap (box_from (node_position c n)) none
      ∙ ap (λ segments. line_box (enumerate_from 1 segments)) (append-nil (place_segments (node_position c n)))

  module _ (v : Vector) (held : lookup_record c n ≡ Some (V v)) where
    no_position : (line : EdgeLine) (is_edge : Bool) → is_edge_name v.name ≡ is_edge → edge_line_of c n ≡ Some line → node_position c n ≡ None
    no_position line true edge lined = no_place c n (no_node c n v held edge)
    no_position line false edge lined = absurd (cc (no_line c n (no_edge c n v held edge)))

    -- what has a line has the box of its segments
    pub box_of_line : (line : EdgeLine) → edge_line_of c n ≡ Some line → extent_at c n ≡ line_box (enumerate_from 1 (segments_of line.points))
    box_of_line line lined = is_from ∙ (λ i. box_from (no_position line (is_edge_name v.name) refl lined i) (lined i))
