use Rattle.record_store.proofs.Loaded.{IsLeft}
use Rattle.record_store.proofs.records.Records.load.Given as goal

abbrev pub invariant-loop-rec : goal.invariant-loop-rec
invariant-loop-rec l = IsLeft l.fn.cell l.rec-iterator.rest.items l.records
