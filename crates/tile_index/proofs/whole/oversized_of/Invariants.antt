use Rattle.std.proofs.Common.{◌≡◌, take}
use Rattle.tile_index.specs.Changes.{oversized_in}
use Rattle.tile_index.proofs.whole.oversized_of.Given as goal

abbrev pub invariant-loop-row : goal.invariant-loop-row
invariant-loop-row l = l.names.items ≡ oversized_in (take l.row-index l.rows)
