use Rattle.depend_map.proofs.Folded.{all_ascend, all_set}
use Rattle.depend_map.proofs.law.changes_set_their_subjects.Goals as goal

pub returns : goal.returns
returns c = record { ascending = all_ascend; reads = all_set }
