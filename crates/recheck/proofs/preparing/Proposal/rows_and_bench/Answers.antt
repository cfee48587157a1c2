use Rattle.recheck.proofs.Prepared.{found}
use Rattle.recheck.proofs.preparing.Proposal.rows_and_bench.Goals as goal

pub reach-requires-clause-found : goal.reach-requires-clause-found
reach-requires-clause-found g c = found c.args.self.now.edits.now.edits c.args.self.now.bench.now c.requires.taken
