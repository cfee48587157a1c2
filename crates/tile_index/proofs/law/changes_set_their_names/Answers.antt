use Rattle.tile_index.proofs.Folded.{all_ascend, all_set}
use Rattle.tile_index.proofs.law.changes_set_their_names.Goals as goal

pub returns : goal.returns
returns c = record { ascending = all_ascend; coverings = all_set }
