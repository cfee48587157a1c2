use Rattle.std.proofs.Common.{◌∷◌, ◌++◌, [], is_eq, subst, sym, ap, ◌∙◌}
use Rattle.std.specs.Cmp.{eq_by_cmp_equiv}
use Rattle.std.specs.List.{insert, list_any}
use Rattle.std.specs.List.Sorted.{IsStrictlySortedBy}
use Rattle.cell_spec.specs.Names.{same_subject, subject_order}
use Rattle.cell_spec.proofs.SubjectOrder.{total_subjects}
use Rattle.affected_subjects.proofs.EachOnce.{one_more_there}
use Rattle.affected_subjects.proofs.Placed.{few_with, tree_with}
use Rattle.affected_subjects.proofs.once.Considered.add.Goals as goal

pub invariant_of-self-then-is_empty : goal.invariant_of-self-then-is_empty
invariant_of-self-then-is_empty c =
    let x = c.args.subject in
    let few = c.self.inside.few.items in
    let now = c.in_ok-insert.ensures.items in (
      subst (IsStrictlySortedBy subject_order) (ap (λ those. insert those c.in-Err.place x) c.deref.ensures.value ∙ sym now) c.in-Err.ensures.place.1,
      λ s.
          few_with (same_subject s) few c.insert.new.self.items c.in-Err.place x (same_subject x s) _ _ now ((eq_by_cmp_equiv total_subjects).symm s x)
          (c.self.invariant.1 s)
          ∙ one_more_there s x c.self.inside.list.items
          ∙ ap (list_any (same_subject s)) (sym (c.push_reserved.ensures.items ∙ ap (λ list. list ++ x ∷ []) c.in_ok-reserve.ensures.items)),
    )

pub invariant_of-self-then-branch : goal.invariant_of-self-then-branch
invariant_of-self-then-branch c =
    let x = c.args.subject in
    let few = c.self.inside.few.items in (
      c.self.invariant.0,
      λ s.
          tree_with _ (same_subject x s) (list_any (same_subject s) few) _ _ _ (c.in_ok-insert-2.ensures.updates.0 s)
          (ap is_eq (c.orders_are_by_parts.ensures.subjects x s)) (c.self.invariant.1 s)
          ∙ one_more_there s x c.self.inside.list.items
          ∙ ap (list_any (same_subject s)) (sym (c.push_reserved-then-branch.ensures.items ∙ ap (λ list. list ++ x ∷ []) c.in_ok-reserve.ensures.items)),
    )
