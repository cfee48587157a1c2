-- The square tiles that a box covers. Their size and the limit of 64 are this project's own rule.
use Rattle.std.specs.Prelude.{Bool, ℕ, ℤ, pos, negsuc, ◌*◌, ◌<◌, nat_lt, ◌+ℤ◌, ◌-ℤ◌}
use Rattle.std.specs.Int.{int_div_euclid}
use Rattle.geometry_spec.specs.declared.tile.Box4.{Box4}
use Rattle.geometry_spec.specs.declared.tile.TileRange.{TileRange}

-- the row or column of the tile that a coordinate lies in: the floor of the coordinate divided by 65,536
abbrev pub tile_of : ℤ → ℤ
tile_of z = int_div_euclid z (pos 65536)

-- the rows and columns of the tiles that a box covers
abbrev pub tiles_of : Box4 → TileRange
tiles_of b = record { row_from = tile_of b.south; row_to = tile_of b.north; col_from = tile_of b.west; col_to = tile_of b.east }

-- a number, or 0 where it is negative
abbrev pub at_least_zero : ℤ → ℕ
at_least_zero (pos n) = n
at_least_zero (negsuc n) = 0

-- how many numbers lie from one to another, both included
abbrev pub count_from_to : ℤ → ℤ → ℕ
count_from_to low high = at_least_zero ((high -ℤ low) +ℤ pos 1)

-- how many tiles a range has
abbrev pub tile_count : TileRange → ℕ
tile_count t = count_from_to t.row_from t.row_to * count_from_to t.col_from t.col_to

-- oversized for tiling: the box covers over 64 tiles
abbrev pub IsOversized : Box4 → Type 0
IsOversized b = 64 < tile_count (tiles_of b)

-- the same as a test
abbrev pub is_oversized : Box4 → Bool
is_oversized b = nat_lt 64 (tile_count (tiles_of b))
