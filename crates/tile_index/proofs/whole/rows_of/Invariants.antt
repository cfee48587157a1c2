use Rattle.std.proofs.Common.{◌≡◌, ◌++◌}
use Rattle.tile_index.specs.Changes.{coverings_given}
use Rattle.tile_index.proofs.whole.rows_of.Given as goal

abbrev pub invariant-loop-change : goal.invariant-loop-change
invariant-loop-change l = l.rows.items ++ coverings_given l.change-iterator.rest.items ≡ coverings_given l.fn.changes.items
