use Rattle.tile_index.proofs.InPlace.{same_mates}
use Rattle.tile_index.proofs.index.TileIndex.plan_noting_mates.Goals as goal

pub returns-clause-mates : goal.returns-clause-mates
returns-clause-mates c = λ keeps n. same_mates c.loop-change.index c.args.self.now (c.loop-change.invariant.1 keeps) n
