-- The signed area of a closed list of points.
use Rattle.std.specs.Prelude.{ℤ, pos, ◌+ℤ◌, ◌-ℤ◌, ◌*ℤ◌, List, [], ◌∷◌, ◌++◌}
use Rattle.geometry_spec.specs.Points.{Point}

-- ax * by - ay * bx: twice the signed area between the origin, a and b
abbrev pub twice_area_step : Point → Point → ℤ
twice_area_step a b = (a.1 *ℤ b.0) -ℤ (a.0 *ℤ b.1)

-- the sum of the steps from each point to the next
abbrev pub twice_area_along : List Point → ℤ
twice_area_along [] = pos 0
twice_area_along (a ∷ []) = pos 0
twice_area_along (a ∷ b ∷ rest) = twice_area_step a b +ℤ twice_area_along (b ∷ rest)

-- twice the signed area of a closed list of points, from the last back to the first: clockwise is negative
abbrev pub signed_double_area : List Point → ℤ
signed_double_area [] = pos 0
signed_double_area (a ∷ rest) = twice_area_along ((a ∷ rest) ++ (a ∷ []))
