use Rattle.skin_probe.proofs.BalancedSides.{balanced_sides}
use Rattle.skin_probe.proofs.law.balanced_sides_equal_winding.Goals as goal

pub returns : goal.returns
returns c = balanced_sides c.winding_sum_by_edges.ensures c.listed_tables_are_right.ensures
