use Rattle.std.proofs.Common.{◌≡◌, take}
use Rattle.shared_table.proofs.layer.share_entries.Given as goal

abbrev pub invariant-loop-entry : goal.invariant-loop-entry
invariant-loop-entry g l = l.twins.items ≡ take l.entry-index l.entries
