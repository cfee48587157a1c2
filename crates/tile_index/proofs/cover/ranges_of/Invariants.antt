use Rattle.std.proofs.Common.{◌≡◌, map, take}
use Rattle.tile_index.specs.Tilings.{range_with}
use Rattle.tile_index.proofs.cover.ranges_of.Given as goal

abbrev pub invariant-loop-side : goal.invariant-loop-side
invariant-loop-side l = l.ranges.items ≡ map range_with (take l.side-index l.sides)
