-- What the rules find in small cells.
use Rattle.std.specs.Prelude.{◌≡◌, ℕ, List, [], ◌∷◌, map}
use Rattle.s57_types.specs.declared.cell.Cell.{Cell}
use Rattle.s57_types.specs.declared.head.Level.TheVariants.{Zero, One}
use Rattle.cell_spec.specs.declared.edit.Edit.TheVariants.{Add, Set, Del}
use Rattle.cell_spec.specs.declared.finding.Finding.{Finding}
use Rattle.cell_spec.specs.declared.key.Subject.{Subject}
use Rattle.cell_spec.specs.declared.key.Subject.TheVariants.{Rec, Side, Pair, Ident}
use Rattle.rule_spec.specs.Findings.{all_findings, finding, finding_total}
use Rattle.sample_cells.specs.Parts.{head, vi, vc, ve, fe, lnam, at, node, edge, end_of, vector, outer, inner, feature, depth_area, square}
use Rattle.sample_cells.specs.Samples.{empty_cell, grid, grid_after, dangling, closed_edge, used_by_line, accented_line, at_level, stacked_edge, diagonals}
use Rattle.sample_cells.specs.Samples.{node_on_line, touching_edges, overlapping_edges, self_named, knotted_edges, misshapen, nodes_at_one_place}
use Rattle.sample_cells.specs.Samples.{two_squares, ring_area, eight, faulty_features, truncated_square}
use Rattle.cell_spec.specs.Edits.{apply_edits}

-- a subject with its findings
abbrev pub Judged : Type 0
Judged = Subject × List Finding

-- a cell with all that is found in it
abbrev pub Sample : Type 0
Sample = Cell × List Judged

abbrev pub one : Subject → ℕ → List ℕ → Judged
one s kind nums = (s, finding kind nums ∷ [])

abbrev pub orphan_edge : ℕ → Judged
orphan_edge n = one (Side (ve n)) 21 []

-- an edge whose ends name a connected node, nothing, an isolated node, another edge and itself
abbrev pub wrong_ends : Cell
wrong_ends = record {
  head = head;
  vi = vector (vi 1) [] (at 5 5 ∷ []) ∷ [];
  vc = node 1 (at 0 0) ∷ node 2 (at 0 100) ∷ [];
  ve = edge 1 1 2 [] ∷ vector (ve 2) (end_of 1 (vc 1) ∷ end_of 2 (vc 9) ∷ end_of 255 (vi 1) ∷ end_of 255 (ve 1) ∷ end_of 255 (ve 2) ∷ []) [] ∷ [];
  fe = [];
}

-- nodes and edges
abbrev pub vector_samples : List Sample
vector_samples =
    (empty_cell, []) ∷
    (dangling, (Rec (ve 2), finding 2 (1 ∷ 0 ∷ 1 ∷ []) ∷ finding 3 (1 ∷ []) ∷ []) ∷ orphan_edge 1 ∷ orphan_edge 2 ∷ []) ∷
    (closed_edge, orphan_edge 1 ∷ []) ∷ (
      wrong_ends,
      (Rec (ve 2), finding 2 (1 ∷ 1 ∷ 5 ∷ []) ∷ finding 3 (2 ∷ []) ∷ finding 3 (3 ∷ []) ∷ finding 3 (4 ∷ []) ∷ finding 3 (5 ∷ []) ∷ [])
          ∷ orphan_edge 1 ∷ orphan_edge 2 ∷ [],
    ) ∷
    (stacked_edge, one (Rec (ve 1)) 4 (1 ∷ []) ∷ orphan_edge 1 ∷ []) ∷
    (self_named, (Rec (ve 1), finding 3 (1 ∷ []) ∷ finding 3 (2 ∷ []) ∷ []) ∷ orphan_edge 1 ∷ []) ∷
    (knotted_edges, one (Rec (ve 1)) 5 (1 ∷ 3 ∷ []) ∷ one (Rec (ve 2)) 5 (1 ∷ 2 ∷ []) ∷ orphan_edge 1 ∷ orphan_edge 2 ∷ []) ∷
    (misshapen, one (Rec (vi 1)) 1 [] ∷ one (Rec (vc 1)) 1 [] ∷ one (Rec (vc 2)) 6 [] ∷ []) ∷ []

-- pairs of nodes and edges
abbrev pub pair_samples : List Sample
pair_samples =
    (diagonals, orphan_edge 1 ∷ orphan_edge 2 ∷ one (Pair (ve 1) (ve 2)) 7 (1 ∷ 1 ∷ []) ∷ []) ∷
    (node_on_line, orphan_edge 1 ∷ one (Pair (vc 3) (ve 1)) 11 (1 ∷ []) ∷ []) ∷ (
      touching_edges,
      orphan_edge 1 ∷ orphan_edge 2 ∷ one (Pair (vc 1) (vc 2)) 10 [] ∷ one (Pair (vc 1) (ve 2)) 11 (1 ∷ []) ∷
          one (Pair (vc 2) (ve 1)) 11 (1 ∷ []) ∷ one (Pair (ve 1) (ve 2)) 8 (1 ∷ 1 ∷ []) ∷ [],
    ) ∷ (
      overlapping_edges,
      orphan_edge 1 ∷ orphan_edge 2 ∷ orphan_edge 3 ∷ one (Pair (ve 1) (ve 2)) 8 (1 ∷ 2 ∷ []) ∷ one (Pair (ve 1) (ve 3)) 9
          (1 ∷ 1 ∷ []) ∷ [],
    ) ∷ []

-- features and their boundaries
abbrev pub feature_samples : List Sample
feature_samples =
    (grid, []) ∷
    (apply_edits (used_by_line ∷ []) closed_edge, []) ∷
    (grid_after (Set (node 1 (at 50000 50000)) ∷ []), one (Rec (fe 1)) 18 (1 ∷ []) ∷ one (Rec (fe 2)) 18 (1 ∷ []) ∷ []) ∷
    (grid_after (Add (feature 4 3 2 30 [] (outer 3 1 ∷ inner 2 1 ∷ outer 4 2 ∷ outer 1 2 ∷ [])) ∷ []), one (Rec (fe 4)) 16 (1 ∷ []) ∷ []) ∷
    (grid_after (Add (feature 4 3 2 30 [] (outer 3 1 ∷ outer 2 1 ∷ outer 4 2 ∷ [])) ∷ []), one (Rec (fe 4)) 15 (1 ∷ []) ∷ []) ∷
    (ring_area (outer 1 1 ∷ inner 2 1 ∷ []), []) ∷
    (ring_area (outer 1 2 ∷ inner 2 2 ∷ []), (Rec (fe 1), finding 18 (1 ∷ []) ∷ finding 18 (2 ∷ []) ∷ []) ∷ []) ∷
    (ring_area (outer 1 1 ∷ outer 2 2 ∷ []), one (Rec (fe 1)) 17 (2 ∷ []) ∷ []) ∷
    (ring_area (inner 1 2 ∷ inner 2 1 ∷ []), one (Rec (fe 1)) 17 (0 ∷ []) ∷ []) ∷
    (eight (outer 1 1 ∷ outer 2 1 ∷ outer 3 1 ∷ outer 4 1 ∷ []), []) ∷
    (eight (outer 2 1 ∷ outer 3 1 ∷ outer 4 1 ∷ outer 1 1 ∷ []), one (Rec (fe 1)) 17 (2 ∷ []) ∷ []) ∷ (
      faulty_features,
      one (Rec (fe 5)) 12 [] ∷ one (Rec (fe 6)) 12 [] ∷ one (Rec (fe 7)) 20 [] ∷ (Rec (fe 8), finding 13 (1 ∷ []) ∷ finding 14 (2 ∷ []) ∷ []) ∷
          one (Rec (fe 10)) 19 (1 ∷ []) ∷ one (Ident (lnam 1)) 25 (2 ∷ []) ∷ [],
    ) ∷
    (accented_line, one (Rec (fe 1)) 26 (2 ∷ []) ∷ []) ∷
    (apply_edits (at_level One ∷ []) accented_line, []) ∷
    (apply_edits (at_level Zero ∷ []) accented_line, one (Rec (fe 1)) 26 (2 ∷ []) ∷ []) ∷ []

-- two findings with the same four numbers at the side of an edge
abbrev pub both : ℕ → List ℕ → Judged
both n nums = (Side (ve n), finding 22 nums ∷ finding 23 nums ∷ [])

-- the sides of edges
abbrev pub side_samples : List Sample
side_samples = (
  grid_after (Del (fe 2) ∷ Add (depth_area 3 square) ∷ []),
  both 1 (0 ∷ 2 ∷ 0 ∷ 0 ∷ []) ∷ both 2 (2 ∷ 0 ∷ 0 ∷ 0 ∷ []) ∷ both 3 (2 ∷ 0 ∷ 0 ∷ 0 ∷ []) ∷ both 4 (0 ∷ 2 ∷ 0 ∷ 0 ∷ []) ∷ [],
) ∷ (
  apply_edits (Set (node 1 (at 1 1)) ∷ []) two_squares,
  both 1 (0 ∷ 2 ∷ 0 ∷ 1 ∷ []) ∷ both 2 (2 ∷ 0 ∷ 1 ∷ 0 ∷ []) ∷ both 3 (2 ∷ 0 ∷ 1 ∷ 0 ∷ []) ∷ both 4 (0 ∷ 2 ∷ 0 ∷ 1 ∷ []) ∷ [],
) ∷
    (grid_after (Add (feature 4 3 2 30 [] truncated_square) ∷ []), []) ∷ (
      grid_after (Del (fe 2) ∷ Add (feature 4 3 2 30 [] truncated_square) ∷ []),
      (Side (ve 1), finding 23 (0 ∷ 1 ∷ 0 ∷ 0 ∷ []) ∷ finding 24 (4 ∷ 4 ∷ []) ∷ []) ∷
          (Side (ve 2), finding 23 (1 ∷ 0 ∷ 0 ∷ 0 ∷ []) ∷ finding 24 (4 ∷ 2 ∷ []) ∷ []) ∷
          (Side (ve 3), finding 23 (1 ∷ 0 ∷ 0 ∷ 0 ∷ []) ∷ finding 24 (4 ∷ 1 ∷ []) ∷ []) ∷
          (Side (ve 4), finding 23 (0 ∷ 1 ∷ 0 ∷ 0 ∷ []) ∷ finding 24 (4 ∷ 3 ∷ []) ∷ []) ∷ [],
    ) ∷ []

-- what is found in each cell is what stands beside it
abbrev pub AreFoundAs : List Sample → Type 0
AreFoundAs samples = map (λ (s : Sample). all_findings s.0) samples ≡ map (λ (s : Sample). s.1) samples

-- 8 nodes at one place are 8 * 7 / 2 pairs
abbrev pub PlacedNodesCount : Type 0
PlacedNodesCount = finding_total (nodes_at_one_place (1 ∷ 2 ∷ 3 ∷ 4 ∷ 5 ∷ 6 ∷ 7 ∷ 8 ∷ [])) ≡ 28
