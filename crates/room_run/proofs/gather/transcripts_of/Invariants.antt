use Rattle.room_run.specs.Rooms.{DoneWith}
use Rattle.room_run.proofs.gather.transcripts_of.Given as goal

abbrev pub invariant-loop-outcome : goal.invariant-loop-outcome
invariant-loop-outcome l = DoneWith l.yielded l.transcripts.items
