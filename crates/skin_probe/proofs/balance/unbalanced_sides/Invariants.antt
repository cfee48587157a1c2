use Rattle.std.proofs.Common.{◌≡◌, ◌+◌, sum_by}
use Rattle.skin_probe.specs.Totals.{unbalanced_in}
use Rattle.skin_probe.proofs.balance.unbalanced_sides.Given as goal

abbrev pub invariant-loop-row : goal.invariant-loop-row
invariant-loop-row l = l.count + sum_by unbalanced_in l.row-iterator ≡ sum_by unbalanced_in l.table
