-- The places at which two lines may meet: those of the nodes that they share, as one of the lines has them (S-57 Part 2, 2.2.1.2).
use Rattle.std.specs.Prelude.{◌||◌, ◌-◌, Bool, List, [], ◌∷◌, ◌++◌, Option, None, Some, length, find, if◌then◌else◌}
use Rattle.std.specs.List.{enumerate_from, slice_get}
use Rattle.s57_types.specs.declared.name.RecName.{RecName}
use Rattle.cell_spec.specs.Names.{same_name}
use Rattle.geometry_spec.specs.Points.{Point}
use Rattle.rule_spec.specs.declared.line.EdgeLine.{EdgeLine}
use Rattle.rule_spec.specs.Contacts.{have_illegal_contact}
use Rattle.rule_spec.specs.EdgePoints.{segments_of}
use Rattle.rule_spec.specs.Vectors.{Numbered, each_with_each}

-- a line begins or ends at a node
abbrev pub is_end_of : EdgeLine → RecName → Bool
is_end_of line n = same_name n line.begins || same_name n line.ends

-- the place that there is, where the test holds
abbrev pub place_if : Bool → Option Point → List Point
place_if test None = []
place_if test (Some p) = if test then p ∷ [] else []

-- the places of the nodes that two lines share: the first point of the one, if the other begins or ends at its beginning node, and
-- its last point, if the other begins or ends at its end node
abbrev pub shared_places : EdgeLine → EdgeLine → List Point
shared_places a b = place_if (is_end_of b a.begins) (slice_get a.points 0) ++ place_if (is_end_of b a.ends) (slice_get a.points (length a.points - 1))

-- the first two segments of two lines with an illegal contact, where they may meet at these places
abbrev pub first_contact : List Point → EdgeLine → EdgeLine → Option (Numbered × Numbered)
first_contact places a b =
    find (have_illegal_contact places) (each_with_each (enumerate_from 1 (segments_of a.points)) (enumerate_from 1 (segments_of b.points)))
