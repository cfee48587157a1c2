use Rattle.std.proofs.Common.{◌≡◌, count_by, sum_by, sym, ap, ◌∙◌, arith}
use Rattle.std.proofs.lemmas.List.Sums.{sum_by-cons}
use Rattle.skin_probe.specs.Totals.{is_unbalanced, unbalanced_in}
use Rattle.skin_probe.proofs.BalancedSides.{few_unbalanced}
use Rattle.skin_probe.proofs.balance.unbalanced_sides.Goals as goal

pub overflow_add-count : goal.overflow_add-count
overflow_add-count c =
    let own : unbalanced_in c.in-Some.row.now ≡ c.unbalanced_in-count.result =
    sym (c.unbalanced_in-count.ensures ∙ ap (count_by is_unbalanced) (c.as_slice.ensures ∙ c.deref.ensures)) in
    let next = ap (sum_by unbalanced_in) c.in-Some.ensures.steps ∙ sum_by-cons unbalanced_in c.in-Some.row.now c.next.new.self in
    omega (arith, own, next, c.loop-row.invariant, few_unbalanced c.args.table.now, c.requires)

pub overflow_cast-result : goal.overflow_cast-result
overflow_cast-result c = omega (arith, c.loop-row.invariant, few_unbalanced c.args.table.now, c.requires)
