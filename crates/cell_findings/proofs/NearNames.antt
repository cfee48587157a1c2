-- Of the names that a tree tells to a leaf, those above its own are those behind it.
use Rattle.std.proofs.Common.{◌≡◌, Bool, true, false, ◌&&◌, ◌||◌, List, [], ◌∷◌, ◌++◌, cond, filter}
use Rattle.std.proofs.Common.{refl, sym, ap, ◌∙◌, subst}
use Rattle.std.specs.declared.cmp.Ordering.TheVariants.{Less}
use Rattle.std.specs.List.{AllByRecursion, list_any}
use Rattle.std.specs.List.Sorted.{IsPermutation, IsStrictlySortedBy}
use Rattle.std.specs.Ordering.{is_eq, is_lt, ordering_reverse}
use Rattle.std.proofs.lemmas.List.Sorted.{list_any-IsPermutation}
use Rattle.s57_types.specs.declared.name.RecName.{RecName}
use Rattle.cell_spec.specs.Names.{name_order}
use Rattle.cell_spec.proofs.Ascending.{holds-ascending, same_when_sorted, sorted-ascending}
use Rattle.cell_spec.proofs.Orders.{exact_names, total_names}
use Rattle.geometry_spec.specs.declared.tile.Box4.{Box4}
use Rattle.rule_spec.specs.Findings.{is_below}
use Rattle.box_tree.specs.Leaves.{meets, names_meeting}
use Rattle.box_tree.specs.declared.leaf.Leaf.{Leaf}
use Rattle.cell_findings.specs.Near.{leaf_names, names_near}
use Rattle.cell_findings.proofs.Ascending.{holds-filter, tied, ties_itself}
use Rattle.cell_findings.proofs.Pairs.{has, has_above}

-- ---- tests
passes_over : (below meets tie more : Bool) → (tie ≡ true → below ≡ false) → (below && ((meets && tie) || more)) ≡ (below && more)
passes_over true true true more same = cc (same refl)
passes_over true true false more same = refl
passes_over true false tie more same = refl
passes_over false meets tie more same = refl

kept : (below more : Bool) → (more ≡ true → below ≡ true) → (below && more) ≡ more
kept true more above = refl
kept false true above = cc (above refl)
kept false false above = refl

-- ---- lists of leaves in order
module _ (P : RecName → Type 0) (around : Box4) where
  all_if : (kept : Bool) (leaf : Leaf) (rest : List Leaf) → P leaf.name → AllByRecursion P (leaf_names rest)
      → AllByRecursion P (leaf_names (cond kept (leaf ∷ rest) rest))
  all_if true leaf rest is all = (is, all)
  all_if false leaf rest is all = all

  all_meeting : (leaves : List Leaf) → AllByRecursion P (leaf_names leaves) → AllByRecursion P (names_meeting around leaves)
  all_meeting [] all = tt
  all_meeting (leaf ∷ leaves) all = all_if (meets around leaf) leaf (filter (meets around) leaves) all.0 (all_meeting leaves all.1)

  at_middle : (front : List Leaf) (leaf : Leaf) (back : List Leaf) → AllByRecursion P (leaf_names (front ++ leaf ∷ back)) → P leaf.name
  at_middle [] leaf back all = all.0
  at_middle (first ∷ front) leaf back all = at_middle front leaf back all.1

abbrev Ascend : List RecName → Type 0
Ascend names = IsStrictlySortedBy name_order names

ascend_if : (kept : Bool) (leaf : Leaf) (rest : List Leaf) → AllByRecursion (λ n. name_order leaf.name n ≡ Less) (leaf_names rest) → Ascend (leaf_names rest)
    → Ascend (leaf_names (cond kept (leaf ∷ rest) rest))
unfolding IsStrictlySortedBy
ascend_if true leaf rest above sorted = (above, sorted)
ascend_if false leaf rest above sorted = sorted

meeting_ascend : (around : Box4) (leaves : List Leaf) → Ascend (leaf_names leaves) → Ascend (names_meeting around leaves)
unfolding IsStrictlySortedBy
meeting_ascend around [] sorted = tt
meeting_ascend around (leaf ∷ leaves) sorted =
    ascend_if (meets around leaf) leaf (filter (meets around) leaves) (all_meeting (λ n. name_order leaf.name n ≡ Less) around leaves sorted.0)
    (meeting_ascend around leaves sorted.1)

-- those from a leaf on
from_middle : (front : List Leaf) (leaf : Leaf) (back : List Leaf) → Ascend (leaf_names (front ++ leaf ∷ back))
    → AllByRecursion (λ n. name_order leaf.name n ≡ Less) (leaf_names back) × Ascend (leaf_names back)
unfolding IsStrictlySortedBy
from_middle [] leaf back sorted = (sorted.0, sorted.1)
from_middle (first ∷ front) leaf back sorted = from_middle front leaf back sorted.1

module _ (q : RecName) (around : Box4) where
  abbrev tie : RecName → Bool
  tie n = is_eq (name_order q n)

  abbrev is_met : List Leaf → Bool
  is_met leaves = has q (names_meeting around leaves)

  met_if : (kept : Bool) (leaf : Leaf) (rest : List Leaf)
      → has q (leaf_names (cond kept (leaf ∷ rest) rest)) ≡ ((kept && tie leaf.name) || has q (leaf_names rest))
  met_if true leaf rest = refl
  met_if false leaf rest = refl

  met_by_test : (leaves : List Leaf) → is_met leaves ≡ list_any (λ leaf. meets around leaf && tie leaf.name) leaves
  met_by_test [] = refl
  met_by_test (leaf ∷ leaves) =
      met_if (meets around leaf) leaf (filter (meets around) leaves)
      ∙ ap (λ more. (meets around leaf && tie leaf.name) || more) (met_by_test leaves)

  -- a name is met among leaves in any order
  met_in_any_order : (leaves tree : List Leaf) → IsPermutation leaves tree → is_met tree ≡ is_met leaves
  met_in_any_order leaves tree same =
      met_by_test tree
      ∙ sym (list_any-IsPermutation (λ leaf. meets around leaf && tie leaf.name) leaves tree same)
      ∙ sym (met_by_test leaves)

  is_tied : (n : RecName) → tie n ≡ true → q ≡ n
  is_tied n e = exact_names q n (tied (name_order q n) e)

  not_below_itself : (n : RecName) → tie n ≡ true → is_below n q ≡ false
  not_below_itself n e = ap (is_below n) (is_tied n e) ∙ ap is_lt (ties_itself name_order total_names n)

  not_below_lesser : (n lesser : RecName) → name_order lesser n ≡ Less → tie lesser ≡ true → is_below n q ≡ false
  not_below_lesser n lesser less e = ap (is_below n) (is_tied lesser e) ∙ ap is_lt (total_names.antisymm n lesser ∙ ap ordering_reverse less)

  -- a name above a leaf's own is met behind it or nowhere
  met_behind : (front : List Leaf) (leaf : Leaf) (back : List Leaf) → Ascend (leaf_names (front ++ leaf ∷ back))
      → (is_below leaf.name q && is_met (front ++ leaf ∷ back)) ≡ is_met back
  unfolding IsStrictlySortedBy
  met_behind [] leaf back sorted =
      ap (λ met. is_below leaf.name q && met) (met_if (meets around leaf) leaf (filter (meets around) back))
      ∙ passes_over (is_below leaf.name q) (meets around leaf) (tie leaf.name) (is_met back) (not_below_itself leaf.name)
      ∙ kept (is_below leaf.name q) (is_met back)
      (λ e. ap is_lt (has_above leaf.name q (names_meeting around back) (all_meeting (λ n. name_order leaf.name n ≡ Less) around back sorted.0) e))
  met_behind (first ∷ front) leaf back sorted =
      ap (λ met. is_below leaf.name q && met) (met_if (meets around first) first (filter (meets around) (front ++ leaf ∷ back)))
      ∙ passes_over (is_below leaf.name q) (meets around first) (tie first.name) (is_met (front ++ leaf ∷ back))
      (not_below_lesser leaf.name first.name (at_middle (λ n. name_order first.name n ≡ Less) around front leaf back sorted.0))
      ∙ met_behind front leaf back sorted.1

pub near_behind : (leaves tree front : List Leaf) (leaf : Leaf) (back : List Leaf)
    → leaves ≡ front ++ leaf ∷ back → Ascend (leaf_names leaves) → IsPermutation leaves tree
    → names_near leaf tree ≡ names_meeting leaf.around back
near_behind leaves tree front leaf back is sorted same =
    let around = leaf.around in
    let in_order = subst (λ ls. Ascend (leaf_names ls)) is sorted in
    same_when_sorted name_order total_names exact_names (names_near leaf tree) (names_meeting around back)
    (sorted-ascending name_order total_names (filter (is_below leaf.name) (names_meeting around tree)))
    (meeting_ascend around back (from_middle front leaf back in_order).1)
    (λ q. holds-ascending name_order exact_names q (filter (is_below leaf.name) (names_meeting around tree))
    ∙ holds-filter name_order exact_names (is_below leaf.name) q (names_meeting around tree)
    ∙ ap (λ met. is_below leaf.name q && met) (met_in_any_order q around leaves tree same ∙ ap (λ ls. has q (names_meeting around ls)) is)
    ∙ met_behind q around front leaf back in_order)
