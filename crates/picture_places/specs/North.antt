-- North is up and east to the right, and the box fills the frame. This project's own.
use Rattle.std.specs.Prelude.{◌≡◌, ◌+◌, ◌≤◌, ◌<ℤ◌, ◌≤ℤ◌}
use Rattle.geometry_spec.specs.Points.{Point}
use Rattle.geometry_spec.specs.declared.tile.Box4.{Box4}
use Rattle.picture_places.specs.Page.{page_point}
use Rattle.picture_places.specs.declared.page.PagePoint.{PagePoint}
use Rattle.picture_places.specs.declared.page.TheConstants.{PAGE_LEFT, PAGE_TOP, PAGE_SIDE}

-- of two points in the box that is drawn, the one further north isn't lower, and the one further east not further left
abbrev pub NorthIsUp : Type 0
NorthIsUp = (around : Box4) (p q : Point) → p.0 ≤ℤ q.0 → q.0 ≤ℤ around.north → (page_point around q).y ≤ (page_point around p).y

abbrev pub EastIsRight : Type 0
EastIsRight = (around : Box4) (p q : Point) → around.west ≤ℤ p.1 → p.1 ≤ℤ q.1 → (page_point around p).x ≤ (page_point around q).x

-- a place in the frame
pub record IsInFrame (p : PagePoint) : Type 0 where
  pub left : PAGE_LEFT ≤ p.x
  pub right : p.x ≤ PAGE_LEFT + PAGE_SIDE
  pub top : PAGE_TOP ≤ p.y
  pub bottom : p.y ≤ PAGE_TOP + PAGE_SIDE

-- every point stands in the frame
abbrev pub AllInFrame : Type 0
AllInFrame = (around : Box4) (p : Point) → IsInFrame (page_point around p)

-- the north-west corner of a box that has some height and some width stands in that of the frame, and the south-east corner in that
abbrev pub CornersMeet : Type 0
CornersMeet = (around : Box4) → around.south <ℤ around.north → around.west <ℤ around.east
    → (page_point around (around.north, around.west) ≡ record { x = PAGE_LEFT; y = PAGE_TOP })
    × (page_point around (around.south, around.east) ≡ record { x = PAGE_LEFT + PAGE_SIDE; y = PAGE_TOP + PAGE_SIDE })
