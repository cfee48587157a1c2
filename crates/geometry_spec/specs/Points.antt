-- Points, their order, and the determinant that tells the side of a line.
use Rattle.std.specs.Prelude.{ℤ, ◌-ℤ◌, ◌*ℤ◌}
use Rattle.std.specs.declared.cmp.Ordering.{Ordering}
use Rattle.std.specs.Ordering.{int_cmp, ordering_then}

-- a point in integer coordinate units, latitude first: (y, x)
abbrev pub Point : Type 0
Point = ℤ × ℤ

-- by latitude, and at one latitude by longitude
abbrev pub point_cmp : Point → Point → Ordering
point_cmp a b = ordering_then (int_cmp a.0 b.0) (int_cmp a.1 b.1)

-- the orientation determinant, (bx - ax) * (cy - ay) - (by - ay) * (cx - ax): positive where c lies to the left of the way
-- from a to b, negative where it lies to the right, 0 where the three lie on one line
abbrev pub orientation_of : Point → Point → Point → ℤ
orientation_of a b c = ((b.1 -ℤ a.1) *ℤ (c.0 -ℤ a.0)) -ℤ ((b.0 -ℤ a.0) *ℤ (c.1 -ℤ a.1))
