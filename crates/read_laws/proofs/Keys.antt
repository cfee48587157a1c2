-- What is known of each key of a read set is known of each key that is read.
use Rattle.std.proofs.Common.{◌≡◌, List, [], ◌∷◌, All, fold, refl, sym, subst}
use Rattle.std.specs.declared.cmp.Ordering.{Ordering}
use Rattle.std.specs.declared.cmp.Ordering.TheVariants.{Less, Equal, Greater}
use Rattle.std.specs.List.{AllByRecursion}
use Rattle.std.specs.Ordering.{match_ordering}
use Rattle.std.proofs.lemmas.List.Elements.{recursion_from_All}
use Rattle.std.proofs.lemmas.Map.Lookups.{CmpEqualImpliesEq}
use Rattle.cell_spec.specs.declared.key.Key.{Key}
use Rattle.cell_spec.specs.Ascending.{put_in_order, ascending}
use Rattle.cell_spec.specs.Names.{key_order}
use Rattle.cell_spec.proofs.Orders.{exact_keys}

module _ {X : Type 0} (order : X → X → Ordering) (exact : CmpEqualImpliesEq order) (P : X → Type 0) where
  of_put_by : (x y : X) (ys : List X) (found : Ordering) → order x y ≡ found → (AllByRecursion P (put_in_order order x ys) → P x × AllByRecursion P ys)
      → AllByRecursion P (match_ordering found (x ∷ y ∷ ys) (y ∷ ys) (y ∷ put_in_order order x ys)) → P x × AllByRecursion P (y ∷ ys)
  of_put_by x y ys Less e more all = all
  of_put_by x y ys Equal e more all = (subst P (sym (exact x y e)) all.0, all)
  of_put_by x y ys Greater e more all = let rest = more all.1 in (rest.0, (all.0, rest.1))

  of_put : (x : X) (ys : List X) → AllByRecursion P (put_in_order order x ys) → P x × AllByRecursion P ys
  of_put x [] all = all
  of_put x (y ∷ ys) all = of_put_by x y ys (order x y) refl (of_put x ys) all

  of_fold : (sorted xs : List X) → AllByRecursion P (fold (λ sorted x. put_in_order order x sorted) sorted xs) → AllByRecursion P sorted × AllByRecursion P xs
  of_fold sorted [] all = (all, tt)
  of_fold sorted (x ∷ xs) all =
      let rest = of_fold (put_in_order order x sorted) xs all in
      let first = of_put x sorted rest.0 in
      (first.1, (first.0, rest.1))

  pub of_ascending : (xs : List X) → All P (ascending order xs) → AllByRecursion P xs
  of_ascending xs all = (of_fold [] xs (recursion_from_All P (ascending order xs) all)).1

pub each_key_read : (P : Key → Type 0) (keys : List Key) → All P (ascending key_order keys) → AllByRecursion P keys
each_key_read P keys all = of_ascending key_order exact_keys P keys all
