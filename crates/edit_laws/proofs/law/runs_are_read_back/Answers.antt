use Rattle.edit_laws.proofs.TypedRuns.{runs_are_read_back}
use Rattle.edit_laws.proofs.law.runs_are_read_back.Goals as goal

pub returns : goal.returns
returns c = runs_are_read_back c.round_trip.ensures
