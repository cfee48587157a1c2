use Rattle.std.proofs.Common.{◌≡◌, take}
use Rattle.shared_table.proofs.levels.lower_levels_of.Given as goal

abbrev pub invariant-loop-entry : goal.invariant-loop-entry
invariant-loop-entry g l = l.pieces.items ≡ take l.entry-index l.entry-items
