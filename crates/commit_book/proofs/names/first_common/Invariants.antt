use Rattle.std.proofs.Common.{◌≡◌, ◌+◌, length}
use Rattle.std.specs.List.Sorted.{IsStrictlySortedBy}
use Rattle.cell_spec.specs.Names.{name_order}
use Rattle.commit_book.proofs.Merging.{first_in_both}
use Rattle.commit_book.proofs.names.first_common.Given as goal

-- what is left has the same first name in both
abbrev pub invariant-loop-name : goal.invariant-loop-name
invariant-loop-name l = record {
  same : first_in_both l.left l.right ≡ first_in_both l.fn.names l.fn.others;
  left : IsStrictlySortedBy name_order l.left;
  right : IsStrictlySortedBy name_order l.right;
}

abbrev pub decreases-loop-name : goal.decreases-loop-name
decreases-loop-name l = length l.left + length l.right
