use Rattle.std.proofs.Common.{◌≡◌, take}
use Rattle.std.specs.Prelude.{count_by}
use Rattle.drill_run.specs.Drills.{is_refused_entry}
use Rattle.drill_run.proofs.counts.count_refusals.Given as goal

abbrev pub invariant-loop-entry : goal.invariant-loop-entry
invariant-loop-entry l = l.count ≡ count_by is_refused_entry (take l.entry-index l.entries)
