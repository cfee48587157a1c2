-- The box of a segment.
use Rattle.std.specs.Prelude.{Bool, ℤ, int_lt, ◌||◌}
use Rattle.std.specs.Int.{int_min, int_max}
use Rattle.geometry_spec.specs.Points.{Point}
use Rattle.geometry_spec.specs.declared.tile.Box4.{Box4}

-- the least box along the axes that holds both ends
abbrev pub box_of : Point → Point → Box4
box_of p q = record { south = int_min p.0 q.0; west = int_min p.1 q.1; north = int_max p.0 q.0; east = int_max p.1 q.1 }

-- of two ranges of coordinates, each from a first to a last one, one ends before the other begins
abbrev pub are_disjoint_ranges : ℤ → ℤ → ℤ → ℤ → Bool
are_disjoint_ranges first last other_first other_last = int_lt last other_first || int_lt other_last first

-- two boxes have no latitude or no longitude in common
abbrev pub are_disjoint : Box4 → Box4 → Bool
are_disjoint a b = are_disjoint_ranges a.south a.north b.south b.north || are_disjoint_ranges a.west a.east b.west b.east
