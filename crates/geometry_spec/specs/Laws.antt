-- What is proved of the definitions.
use Rattle.std.specs.Prelude.{◌≡◌, ◌↔◌, ℤ, pos, negsuc, ◌+ℤ◌, ◌*ℤ◌, ◌≤ℤ◌, ◌<ℤ◌, IsTrue, [], ◌∷◌}
use Rattle.geometry_spec.specs.Points.{Point}
use Rattle.geometry_spec.specs.Segments.{LiesOn, SegmentMeeting}
use Rattle.geometry_spec.specs.Signs.{lies_on, meeting_of}
use Rattle.geometry_spec.specs.Boxes.{are_disjoint, box_of}
use Rattle.geometry_spec.specs.Tiles.{tile_of}
use Rattle.geometry_spec.specs.Areas.{signed_double_area}
use Rattle.geometry_spec.specs.declared.segment.MeetCase.{MeetCase}
use Rattle.geometry_spec.specs.declared.segment.MeetCase.TheVariants.{Apart}

-- two segments have exactly one case, and it is the computed one
abbrev pub SignsDecideMeeting : Type 0
SignsDecideMeeting = (p q r s : Point) (met : MeetCase) → SegmentMeeting p q r s met ↔ (meeting_of p q r s ≡ met)

-- a point lies on a segment exactly where the test says so
abbrev pub SignsDecideLyingOn : Type 0
SignsDecideLyingOn = (w p q : Point) → IsTrue (lies_on w p q) ↔ LiesOn w p q

-- segments whose boxes are disjoint have no common point
abbrev pub DisjointBoxesAreApart : Type 0
DisjointBoxesAreApart = (p q r s : Point) → IsTrue (are_disjoint (box_of p q) (box_of r s)) → meeting_of p q r s ≡ Apart

-- a tile begins at or before each of its coordinates, and the next tile begins after it
abbrev pub TilesAreFloors : Type 0
TilesAreFloors = (z : ℤ) → ((tile_of z *ℤ pos 65536) ≤ℤ z) × (z <ℤ ((tile_of z +ℤ pos 1) *ℤ pos 65536))

-- the unit square walked clockwise, north, east, south and back to the west, has twice the area -1
abbrev pub ClockwiseIsNegative : Type 0
ClockwiseIsNegative = signed_double_area ((pos 0, pos 0) ∷ (pos 1, pos 0) ∷ (pos 1, pos 1) ∷ (pos 0, pos 1) ∷ []) ≡ negsuc 1
