-- Tables that the definitions answer to.
use Rattle.std.specs.Prelude.{◌≡◌, ℕ, Bool, true, false, List, [], ◌∷◌, Option, None, Some, map, filter, flat_map, pos, negsuc}
use Rattle.s57_types.specs.declared.cell.Cell.{Cell}
use Rattle.s57_types.specs.declared.record.Attr.{Attr}
use Rattle.s57_types.specs.declared.record.Feature.{Feature}
use Rattle.s57_types.specs.declared.record.Spot.{Spot}
use Rattle.geometry_spec.specs.Boxes.{box_of}
use Rattle.geometry_spec.specs.Tiles.{is_oversized}
use Rattle.rule_spec.specs.Candidates.{are_candidates, candidates_of}
use Rattle.rule_spec.specs.Features.{has_its_codes, is_coverage_area}
use Rattle.rule_spec.specs.Loops.{Arc, loop_lengths, first_open_place}
use Rattle.sample_cells.specs.Parts.{vc, ve, lnam, fe, at, node, spot, catcov}
use Rattle.sample_cells.specs.Samples.{cell, diagonals, grid}

-- the orientation, usage and mask of a spatial pointer
abbrev pub codes_of : Spot → ℕ × ℕ × ℕ
codes_of s = (s.ornt, s.usag, s.mask)

abbrev pub some_codes : List ℕ
some_codes = 0 ∷ 1 ∷ 2 ∷ 3 ∷ 255 ∷ []

-- pointers with each orientation, usage and mask of these
abbrev pub all_spots : List Spot
all_spots = flat_map (λ ornt. flat_map (λ usag. map (λ mask. spot (ve 1) ornt usag mask) some_codes) some_codes) some_codes

-- those that a primitive may have
abbrev pub accepted : ℕ → List (ℕ × ℕ × ℕ)
accepted prim = map codes_of (filter (has_its_codes prim) all_spots)

abbrev pub CodesFitTheTable : Type 0
CodesFitTheTable =
    (accepted 1 ≡ (255, 255, 255) ∷ []) ×
    (accepted 2 ≡ (1, 255, 1) ∷ (1, 255, 2) ∷ (1, 255, 255) ∷ (2, 255, 1) ∷ (2, 255, 2) ∷ (2, 255, 255) ∷ (255, 255, 1) ∷
    (255, 255, 2) ∷ (255, 255, 255) ∷ []) ×
    (accepted 3 ≡ (1, 1, 1) ∷ (1, 1, 2) ∷ (1, 1, 255) ∷ (1, 2, 1) ∷ (1, 2, 2) ∷ (1, 2, 255) ∷ (1, 3, 255) ∷
    (2, 1, 1) ∷ (2, 1, 2) ∷ (2, 1, 255) ∷ (2, 2, 1) ∷ (2, 2, 2) ∷ (2, 2, 255) ∷ (2, 3, 255) ∷ [])

-- an area of M_COVR with these attributes
abbrev pub covered : List Attr → Feature
covered attf = record { name = fe 2; prim = 3; grup = 2; objl = 302; rver = 1; foid = lnam 2; attf = attf; natf = []; partners = []; places = [] }

abbrev pub CoverageIsSaid : Type 0
CoverageIsSaid =
    map is_coverage_area (covered [] ∷ covered (catcov 49 ∷ []) ∷ covered (catcov 50 ∷ []) ∷ covered (catcov 50 ∷ catcov 49 ∷ []) ∷ covered
    (record { code = 18; value = 49 ∷ 49 ∷ [] } ∷ []) ∷ [])
    ≡ false ∷ true ∷ false ∷ true ∷ false ∷ []

-- from one connected node to another
abbrev pub arc : ℕ → ℕ → Arc
arc first last = (vc first, vc last)

-- the lengths of the loops of a list of arcs, and the first place that is in no loop
abbrev pub partition : List Arc → List ℕ × Option ℕ
partition arcs = (loop_lengths arcs, first_open_place arcs)

abbrev pub BoundariesPartition : Type 0
BoundariesPartition =
    map partition (
    [] ∷
    (arc 1 1 ∷ []) ∷
    (arc 1 2 ∷ arc 2 1 ∷ []) ∷
    (arc 1 2 ∷ arc 2 3 ∷ arc 3 2 ∷ arc 2 1 ∷ []) ∷
    (arc 2 3 ∷ arc 3 2 ∷ arc 2 1 ∷ arc 1 2 ∷ []) ∷
    (arc 1 2 ∷ arc 2 1 ∷ arc 3 4 ∷ []) ∷
    (arc 1 2 ∷ arc 3 1 ∷ []) ∷
    (arc 1 1 ∷ arc 2 2 ∷ arc 3 4 ∷ arc 4 3 ∷ []) ∷ [])
    ≡ ([], None) ∷ (1 ∷ [], None) ∷ (2 ∷ [], None) ∷ (4 ∷ [], None) ∷ (2 ∷ 2 ∷ [], None) ∷ (2 ∷ [], Some 3) ∷ ([], Some 1) ∷ (1 ∷ 1 ∷ 2 ∷ [], None) ∷ []

-- two nodes, the second at these places
abbrev pub two_nodes : Cell → Bool
two_nodes c = are_candidates c (vc 1) (vc 2)

abbrev pub TilesDecideCandidates : Type 0
TilesDecideCandidates =
    (map (λ east. is_oversized (box_of (at 0 0) (at 0 east))) (4128768 ∷ 4194304 ∷ []) ≡ false ∷ true ∷ []) ×
    (map two_nodes (
    cell (node 1 (pos 65536, negsuc 0) ∷ node 2 (pos 65536, negsuc 0) ∷ []) [] [] ∷
    cell (node 1 (pos 65536, negsuc 0) ∷ node 2 (pos 65536, pos 0) ∷ []) [] [] ∷
    cell (node 1 (negsuc 0, pos 5) ∷ node 2 (negsuc 65535, pos 65535) ∷ []) [] [] ∷ []) ≡ true ∷ false ∷ true ∷ []) ×
    (candidates_of diagonals (ve 1) ≡ vc 1 ∷ vc 2 ∷ vc 3 ∷ vc 4 ∷ ve 2 ∷ []) ×
    (candidates_of grid (vc 1) ≡ vc 2 ∷ vc 3 ∷ vc 4 ∷ ve 1 ∷ ve 2 ∷ ve 3 ∷ ve 4 ∷ [])
