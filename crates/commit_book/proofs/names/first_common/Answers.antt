use Rattle.std.proofs.Common.{◌≡◌, sym, subst, ◌∙◌}
use Rattle.std.specs.List.Sorted.{IsStrictlySortedBy}
use Rattle.std.specs.declared.cmp.Ordering.TheVariants.{Less, Equal, Greater}
use Rattle.cell_spec.specs.Names.{name_order}
use Rattle.commit_book.proofs.Merging.{first_in_both, found_equal, left_is_less, right_is_less, none_in_none, sorted_behind}
use Rattle.commit_book.proofs.names.first_common.Goals as goal

pub loop-name-preserved-in-Less : goal.loop-name-preserved-in-Less
loop-name-preserved-in-Less c =
    let here = c.in-Some-Some in let left = here.ensures.cases.0 in let right = here.ensures'.cases.0 in
    let less : name_order here.name.now here.other.now ≡ Less = sym (c.orders_are_by_parts.ensures.names here.name.now here.other.now)
    ∙ sym c.cmp.ensures ∙ c.in-Less.is in
    record {
      same = (λ i. first_in_both here.names_behind.now (right i))
          ∙ left_is_less here.name.now here.other.now here.names_behind.now here.others_behind.now less
          (subst (IsStrictlySortedBy name_order) right c.loop-name.invariant.right)
          ∙ sym (λ i. first_in_both (left i) (right i))
          ∙ c.loop-name.invariant.same;
      left = sorted_behind here.name.now here.names_behind.now (subst (IsStrictlySortedBy name_order) left c.loop-name.invariant.left);
      right = c.loop-name.invariant.right;
    }

pub loop-name-preserved : goal.loop-name-preserved
loop-name-preserved c =
    let here = c.in-Some-Some in let left = here.ensures.cases.0 in let right = here.ensures'.cases.0 in
    let greater : name_order here.name.now here.other.now ≡ Greater = sym (c.orders_are_by_parts.ensures.names here.name.now here.other.now)
    ∙ sym c.cmp.ensures ∙ c.in-Greater.is in
    record {
      same = (λ i. first_in_both (left i) here.others_behind.now)
          ∙ right_is_less here.name.now here.other.now here.names_behind.now here.others_behind.now greater
          (subst (IsStrictlySortedBy name_order) left c.loop-name.invariant.left)
          ∙ sym (λ i. first_in_both (left i) (right i))
          ∙ c.loop-name.invariant.same;
      left = c.loop-name.invariant.left;
      right = sorted_behind here.other.now here.others_behind.now (subst (IsStrictlySortedBy name_order) right c.loop-name.invariant.right);
    }

pub returns-in-Equal : goal.returns-in-Equal
returns-in-Equal c =
    let here = c.in-Some-Some in let left = here.ensures.cases.0 in let right = here.ensures'.cases.0 in
    let equal : name_order here.name.now here.other.now ≡ Equal = sym (c.orders_are_by_parts.ensures.names here.name.now here.other.now)
    ∙ sym c.cmp.ensures ∙ c.in-Equal.is in
    found_equal here.name.now here.other.now here.names_behind.now here.others_behind.now equal
    ∙ sym (λ i. first_in_both (left i) (right i))
    ∙ c.loop-name.invariant.same

pub returns-in_default : goal.returns-in_default
returns-in_default c = none_in_none c.loop-name.left.now c.loop-name.right.now c.in_default.ensures'.cases ∙ c.loop-name.invariant.same
