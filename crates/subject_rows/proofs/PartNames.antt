-- The names of pairs are those of connected nodes and edges.
use Rattle.std.proofs.Common.{◌≡◌, List, [], ◌∷◌, All, fold, subst, sym}
use Rattle.std.specs.declared.cmp.Ordering.{Ordering}
use Rattle.std.specs.declared.cmp.Ordering.TheVariants.{Less, Equal, Greater}
use Rattle.std.specs.List.{AllByRecursion, flat_map}
use Rattle.std.specs.Ordering.{match_ordering}
use Rattle.std.specs.Prelude.{IsTrue}
use Rattle.std.proofs.lemmas.Bool.{and_parts}
use Rattle.std.proofs.lemmas.List.Elements.{All-from_recursion, recursion_from_All}
use Rattle.s57_types.specs.declared.name.RecName.{RecName}
use Rattle.s57_types.specs.declared.cell.Cell.{Cell}
use Rattle.cell_spec.specs.Ascending.{put_in_order, ascending}
use Rattle.cell_spec.specs.Names.{name_order}
use Rattle.cell_spec.specs.declared.key.Subject.{Subject}
use Rattle.cell_spec.specs.declared.key.Subject.TheVariants.{Rec, Side, Pair, Ident}
use Rattle.cell_spec.proofs.EachItem.{each_append}
use Rattle.rule_spec.specs.Findings.{is_subject}
use Rattle.rule_spec.specs.Records.{is_chain_part}
use Rattle.subject_rows.specs.Names.{names_of_pair}

-- what is known of each item of a list is known of each of the ascending list
module _ {X : Type 0} (order : X → X → Ordering) (P : X → Type 0) where
  each_put_by : (x y : X) (ys : List X) (found : Ordering) → P x → AllByRecursion P (y ∷ ys) → AllByRecursion P (put_in_order order x ys)
      → AllByRecursion P (match_ordering found (x ∷ y ∷ ys) (y ∷ ys) (y ∷ put_in_order order x ys))
  each_put_by x y ys Less is all more = (is, all)
  each_put_by x y ys Equal is all more = all
  each_put_by x y ys Greater is all more = (all.0, more)

  each_put : (x : X) (ys : List X) → P x → AllByRecursion P ys → AllByRecursion P (put_in_order order x ys)
  each_put x [] is all = (is, tt)
  each_put x (y ∷ ys) is all = each_put_by x y ys (order x y) is all (each_put x ys is all.1)

  each_fold : (sorted xs : List X) → AllByRecursion P sorted → AllByRecursion P xs
      → AllByRecursion P (fold (λ sorted x. put_in_order order x sorted) sorted xs)
  each_fold sorted [] before all = before
  each_fold sorted (x ∷ xs) before all = each_fold (put_in_order order x sorted) xs (each_put x sorted all.0 before) all.1

module _ (c : Cell) where
  abbrev Chained : RecName → Type 0
  Chained n = IsTrue (is_chain_part c n)

  both_chained : (s : Subject) → IsTrue (is_subject c s) → AllByRecursion Chained (names_of_pair s)
  both_chained (Rec n) subject = tt
  both_chained (Side n) subject = tt
  both_chained (Pair a b) subject =
      let all = and_parts _ _ subject in
      let first = and_parts _ _ all.0 in
      (first.1, (all.1, tt))
  both_chained (Ident l) subject = tt

  each_chained : (subjects : List Subject) → AllByRecursion (λ s. IsTrue (is_subject c s)) subjects → AllByRecursion Chained (flat_map names_of_pair subjects)
  each_chained [] all = tt
  each_chained (s ∷ ss) all = each_append Chained (names_of_pair s) (flat_map names_of_pair ss) (both_chained s all.0) (each_chained ss all.1)

  pub names_are_chained : (subjects : List Subject) (names : List RecName) → names ≡ ascending name_order (flat_map names_of_pair subjects)
      → All (λ s. IsTrue (is_subject c s)) subjects → All Chained names
  names_are_chained subjects names are all =
      subst (All Chained) (sym are)
      (All-from_recursion Chained (ascending name_order (flat_map names_of_pair subjects))
      (each_fold name_order Chained [] (flat_map names_of_pair subjects) tt
      (each_chained subjects (recursion_from_All (λ s. IsTrue (is_subject c s)) subjects all))))
