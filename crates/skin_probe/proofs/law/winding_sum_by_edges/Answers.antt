use Rattle.skin_probe.proofs.EdgeSums.{sums_are_by_edges}
use Rattle.skin_probe.proofs.law.winding_sum_by_edges.Goals as goal

pub returns : goal.returns
returns c = sums_are_by_edges
