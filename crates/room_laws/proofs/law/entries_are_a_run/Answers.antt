use Rattle.room_laws.proofs.Interleaved.{run_of_entries}
use Rattle.room_laws.proofs.law.entries_are_a_run.Goals as goal

pub returns : goal.returns
returns c cell scripts entries r = run_of_entries cell scripts entries r
