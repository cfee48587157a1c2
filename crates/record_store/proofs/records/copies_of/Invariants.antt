use Rattle.std.proofs.Common.{◌≡◌, ◌++◌}
use Rattle.record_store.specs.Lists.{records_in}
use Rattle.record_store.proofs.records.copies_of.Given as goal

abbrev pub invariant-loop-row : goal.invariant-loop-row
invariant-loop-row l = l.recs ++ records_in l.row-iterator ≡ records_in l.fn.list
