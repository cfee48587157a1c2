-- Which pairs have no finding. This project's own rules.
use Rattle.std.specs.Prelude.{◌≡◌, true, false, Bool, List, [], Option, None, Some}
use Rattle.std.specs.List.{enumerate_from}
use Rattle.s57_types.specs.declared.name.RecName.{RecName}
use Rattle.s57_types.specs.declared.cell.Cell.{Cell}
use Rattle.cell_spec.specs.declared.key.Subject.TheVariants.{Pair}
use Rattle.geometry_spec.specs.declared.tile.Box4.{Box4}
use Rattle.geometry_spec.specs.Boxes.{are_disjoint}
use Rattle.rule_spec.specs.Candidates.{are_candidates, segments_named}
use Rattle.rule_spec.specs.EdgePoints.{Segment}
use Rattle.rule_spec.specs.Findings.{findings_of_subject}
use Rattle.line_boxes.specs.LineBoxes.{line_box}

-- two that may not touch have no finding together, whichever of the two is asked for candidates
pub record FoundPairsAreCandidates : Type 0 where
  pub given : (c : Cell) (a b : RecName) → are_candidates c a b ≡ false → findings_of_subject c (Pair a b) ≡ []
  pub turned : (c : Cell) (a b : RecName) → are_candidates c b a ≡ false → findings_of_subject c (Pair a b) ≡ []

-- the least box around segments, if there are any
abbrev pub box_around : List Segment → Option Box4
box_around segments = line_box (enumerate_from 1 segments)

-- the least box around the connected node or the edge of a name
abbrev pub extent_of : Cell → RecName → Option Box4
extent_of c n = box_around (segments_named c n)

-- two extents have no point in common
abbrev pub are_apart : Option Box4 → Option Box4 → Bool
are_apart None b = true
are_apart (Some a) None = true
are_apart (Some a) (Some b) = are_disjoint a b

-- two whose extents have no point in common have no finding together
abbrev pub ApartPairsAreClean : Type 0
ApartPairsAreClean = (c : Cell) (a b : RecName) → are_apart (extent_of c a) (extent_of c b) ≡ true → findings_of_subject c (Pair a b) ≡ []
