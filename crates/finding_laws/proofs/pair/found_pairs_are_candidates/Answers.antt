use Rattle.finding_laws.proofs.FarTiles.{candidates}
use Rattle.finding_laws.proofs.pair.found_pairs_are_candidates.Goals as goal

pub returns : goal.returns
returns c = candidates c.tiles_are_floors.ensures
