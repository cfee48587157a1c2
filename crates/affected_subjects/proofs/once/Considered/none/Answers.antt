use Rattle.std.proofs.Common.{rules, subst, sym}
use Rattle.std.specs.List.Sorted.{IsStrictlySortedBy}
use Rattle.cell_spec.specs.Names.{subject_order}
use Rattle.affected_subjects.proofs.Placed.{none_sorted}
use Rattle.affected_subjects.proofs.once.Considered.none.Goals as goal

pub invariant_of-result : goal.invariant_of-result
invariant_of-result c = (subst (IsStrictlySortedBy subject_order) (sym c.in_ok-with_capacity-2.ensures.items) none_sorted, λ s. search rules)
