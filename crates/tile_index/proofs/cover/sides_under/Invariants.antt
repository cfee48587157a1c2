use Rattle.std.proofs.Common.{◌≡◌, map, take}
use Rattle.rule_spec.specs.Candidates.{tiles_under}
use Rattle.tile_index.specs.Tilings.{range_with}
use Rattle.tile_index.proofs.cover.sides_under.Given as goal

abbrev pub invariant-loop-segment : goal.invariant-loop-segment
invariant-loop-segment l = map range_with l.sides.items ≡ map tiles_under (take l.segment-index l.segments)
