-- Sums of whole numbers over lists.
use Rattle.std.proofs.Common.{◌≡◌, ◌*◌, Bool, true, false, ◌||◌, ℕ, ◌+◌, ◌<◌, ◌≤◌, List, [], ◌∷◌, ◌++◌, length, get_or, drop, drop_of_length-le, Option}
use Rattle.std.proofs.Common.{None, Some, cond, map, filter, fold, refl, sym, ap, ◌∙◌, inl, inr, ℤ, pos, negsuc, ◌+ℤ◌, ◌-ℤ◌, ◌*ℤ◌, arith}
use Rattle.std.specs.Prelude.{filter_map, flat_map}
use Rattle.std.specs.Option.{option_map_or}
use Rattle.std.specs.List.{AllByRecursion, IsDistinct, cons_option}
use Rattle.std.specs.declared.cmp.Ordering.{Ordering}
use Rattle.std.specs.declared.cmp.Ordering.TheVariants.{Less, Equal, Greater}
use Rattle.std.specs.Ordering.{is_eq, match_ordering, ordering_reverse}
use Rattle.std.specs.Cmp.{IsTotalOrder}
use Rattle.std.proofs.lemmas.Bool.{or_parts}
use Rattle.std.proofs.lemmas.List.{drop_more}
use Rattle.std.proofs.lemmas.Int.{ints}
use Rattle.std.proofs.lemmas.Map.Lookups.{CmpEqualImpliesEq}
use borrow.Author.Differences.{up, down, sum_is_lem}
use Rattle.cell_spec.specs.Ascending.{put_in_order, ascending}
use Rattle.cell_spec.proofs.Ascending.{holds, holds-put}
use Rattle.answer_laws.proofs.Among.{Among}
use Rattle.skin_probe.specs.Winding.{sum_of}

-- ---- products
pub times_added : (a b w : ℤ) → (a +ℤ b) *ℤ w ≡ (a *ℤ w) +ℤ (b *ℤ w)
times_added a b w = omega (arith, ints, ap (λ t. t * up w) (sum_is_lem a b), ap (λ t. t * down w) (sum_is_lem a b))

pub zero_times : (w : ℤ) → pos 0 *ℤ w ≡ pos 0
zero_times w = omega (arith, ints)

pub zero_plus : (s : ℤ) → pos 0 +ℤ s ≡ s
zero_plus s = omega (arith, ints)

pub times_zero : (w : ℤ) → w *ℤ pos 0 ≡ pos 0
times_zero w = omega (arith, ints)

pub one_times : (w : ℤ) → pos 1 *ℤ w ≡ w
one_times w = omega (arith, ints)

pub minus_times : (w : ℤ) → negsuc 0 *ℤ w ≡ pos 0 -ℤ w
minus_times w = omega (arith, ints)

-- ---- parts of lists
pub sum_appended : {X : Type 0} (f : X → ℤ) (xs ys : List X) → sum_of f (xs ++ ys) ≡ sum_of f xs +ℤ sum_of f ys
sum_appended f [] ys = omega (arith, ints)
sum_appended f (x ∷ xs) ys = omega (arith, ints, sum_appended f xs ys)

pub sum_same : {X : Type 0} (f g : X → ℤ) (xs : List X) → ((x : X) → Among x xs → f x ≡ g x) → sum_of f xs ≡ sum_of g xs
sum_same f g [] same = refl
sum_same f g (x ∷ xs) same = λ i. same x (inl refl) i +ℤ sum_same f g xs (λ y at. same y (inr at)) i

pub sum_none : {X : Type 0} (f : X → ℤ) (xs : List X) → ((x : X) → Among x xs → f x ≡ pos 0) → sum_of f xs ≡ pos 0
sum_none f [] none = refl
sum_none f (x ∷ xs) none = omega (arith, ints, none x (inl refl), sum_none f xs (λ y at. none y (inr at)))

pub sum_added : {X : Type 0} (f g : X → ℤ) (xs : List X) → sum_of (λ x. f x +ℤ g x) xs ≡ sum_of f xs +ℤ sum_of g xs
sum_added f g [] = refl
sum_added f g (x ∷ xs) = omega (arith, ints, sum_added f g xs)

pub sum_scaled : {X : Type 0} (f : X → ℤ) (w : ℤ) (xs : List X) → sum_of (λ x. f x *ℤ w) xs ≡ sum_of f xs *ℤ w
sum_scaled f w [] = sym (zero_times w)
sum_scaled f w (x ∷ xs) = ap (λ s. (f x *ℤ w) +ℤ s) (sum_scaled f w xs) ∙ sym (times_added (f x) (sum_of f xs) w)

pub sum_negated : {X : Type 0} (f g : X → ℤ) (xs : List X) → ((x : X) → g x ≡ pos 0 -ℤ f x) → sum_of g xs ≡ pos 0 -ℤ sum_of f xs
sum_negated f g [] turned = refl
sum_negated f g (x ∷ xs) turned = omega (arith, ints, turned x, sum_negated f g xs turned)

-- a sum of sums taken the other way round
pub sum_swapped : {X Y : Type 0} (h : X → Y → ℤ) (xs : List X) (ys : List Y)
    → sum_of (λ x. sum_of (h x) ys) xs ≡ sum_of (λ y. sum_of (λ x. h x y) xs) ys
sum_swapped h [] ys = sym (sum_none (λ y. pos 0) ys (λ y at. refl))
sum_swapped h (x ∷ xs) ys = ap (λ s. sum_of (h x) ys +ℤ s) (sum_swapped h xs ys) ∙ sym (sum_added (h x) (λ y. sum_of (λ z. h z y) xs) ys)

-- ---- lists made of others
pub sum_mapped : {X Y : Type 0} (f : Y → ℤ) (g : X → Y) (xs : List X) → sum_of f (map g xs) ≡ sum_of (λ x. f (g x)) xs
sum_mapped f g [] = refl
sum_mapped f g (x ∷ xs) = ap (λ s. f (g x) +ℤ s) (sum_mapped f g xs)

kept_by : {X : Type 0} (f : X → ℤ) (x : X) (rest : List X) (s : ℤ) (b : Bool) → sum_of f rest ≡ s
    → sum_of f (cond b (x ∷ rest) rest) ≡ cond b (f x) (pos 0) +ℤ s
kept_by f x rest s true e = ap (λ t. f x +ℤ t) e
kept_by f x rest s false e = omega (arith, ints, e)

pub sum_filtered : {X : Type 0} (f : X → ℤ) (p : X → Bool) (xs : List X) → sum_of f (filter p xs) ≡ sum_of (λ x. cond (p x) (f x) (pos 0)) xs
sum_filtered f p [] = refl
sum_filtered f p (x ∷ xs) = kept_by f x (filter p xs) (sum_of (λ y. cond (p y) (f y) (pos 0)) xs) (p x) (sum_filtered f p xs)

picked_by : {Y : Type 0} (f : Y → ℤ) (o : Option Y) (rest : List Y) (s : ℤ) → sum_of f rest ≡ s
    → sum_of f (cons_option o rest) ≡ option_map_or f o (pos 0) +ℤ s
picked_by f None rest s e = omega (arith, ints, e)
picked_by f (Some y) rest s e = ap (λ t. f y +ℤ t) e

pub sum_picked : {X Y : Type 0} (f : Y → ℤ) (h : X → Option Y) (xs : List X)
    → sum_of f (filter_map h xs) ≡ sum_of (λ x. option_map_or f (h x) (pos 0)) xs
sum_picked f h [] = refl
sum_picked f h (x ∷ xs) = picked_by f (h x) (filter_map h xs) (sum_of (λ y. option_map_or f (h y) (pos 0)) xs) (sum_picked f h xs)

pub sum_flat : {X Y : Type 0} (f : Y → ℤ) (h : X → List Y) (xs : List X) → sum_of f (flat_map h xs) ≡ sum_of (λ x. sum_of f (h x)) xs
sum_flat f h [] = refl
sum_flat f h (x ∷ xs) = sum_appended f (h x) (flat_map h xs) ∙ ap (λ s. sum_of f (h x) +ℤ s) (sum_flat f h xs)

-- ---- an ascending list of items of which no two tie
reversed_tie : (o : Ordering) → is_eq (ordering_reverse o) ≡ is_eq o
reversed_tie Less = refl
reversed_tie Equal = refl
reversed_tie Greater = refl

or_from : (a b : Bool) → a ≡ false → b ≡ false → (a || b) ≡ false
or_from a b e f = ap (λ x. x || b) e ∙ f

module _ {X : Type 0} (order : X → X → Ordering) (total : IsTotalOrder order) (exact : CmpEqualImpliesEq order) (f : X → ℤ) where
  abbrev tie : X → X → Bool
  tie x y = is_eq (order x y)

  put_by : (x y : X) (ys : List X) (found : Ordering) → is_eq found ≡ false → sum_of f (put_in_order order x ys) ≡ f x +ℤ sum_of f ys
      → sum_of f (match_ordering found (x ∷ y ∷ ys) (y ∷ ys) (y ∷ put_in_order order x ys)) ≡ f x +ℤ (f y +ℤ sum_of f ys)
  put_by x y ys Less apart e = refl
  put_by x y ys Equal apart e = cc
  put_by x y ys Greater apart e = omega (arith, ints, e)

  put : (x : X) (ys : List X) → holds order x ys ≡ false → sum_of f (put_in_order order x ys) ≡ f x +ℤ sum_of f ys
  put x [] apart = refl
  put x (y ∷ ys) apart = let parts = or_parts (tie x y) (holds order x ys) apart in put_by x y ys (order x y) parts.0 (put x ys parts.1)

  still_apart : (x : X) (sorted xs : List X) → AllByRecursion (λ y. tie x y ≡ false) xs → AllByRecursion (λ y. holds order y sorted ≡ false) xs
      → AllByRecursion (λ y. holds order y (put_in_order order x sorted) ≡ false) xs
  still_apart x sorted [] apart held = tt
  still_apart x sorted (y ∷ xs) apart held = (
    holds-put order exact y x sorted
        ∙ or_from (tie y x) (holds order y sorted) (ap is_eq (total.antisymm y x) ∙ reversed_tie (order x y) ∙ apart.0) held.0,
    still_apart x sorted xs apart.1 held.1,
  )

  folded : (sorted xs : List X) → IsDistinct tie xs → AllByRecursion (λ y. holds order y sorted ≡ false) xs
      → sum_of f (fold (λ sorted x. put_in_order order x sorted) sorted xs) ≡ sum_of f sorted +ℤ sum_of f xs
  unfolding IsDistinct
  folded sorted [] apart held = omega (arith, ints)
  folded sorted (x ∷ xs) apart held =
      let next = put_in_order order x sorted in
      let later = folded next xs apart.1 (still_apart x sorted xs apart.0 held.1) in
      let one = put x sorted held.0 in
      omega (arith, ints, later, one)

  none_held : (xs : List X) → AllByRecursion (λ y. holds order y [] ≡ false) xs
  none_held [] = tt
  none_held (x ∷ xs) = (refl, none_held xs)

  pub sum_ascending : (xs : List X) → IsDistinct (λ x y. is_eq (order x y)) xs → sum_of f (ascending order xs) ≡ sum_of f xs
  sum_ascending xs apart = folded [] xs apart (none_held xs) ∙ zero_plus (sum_of f xs)

-- ---- a loop that adds up
-- one item more
pub one_summed : {X : Type 0} (f : X → ℤ) (so_far next : ℤ) (all : ℤ) (xs : List X) (k : ℕ) (d : X) (more : ℤ) → k < length xs → more ≡ f (get_or xs k d)
    → next ≡ so_far +ℤ more → so_far +ℤ sum_of f (drop k xs) ≡ all → next +ℤ sum_of f (drop (k + 1) xs) ≡ all
one_summed f so_far next all xs k d more within is added rest =
    let here = ap (sum_of f) (drop_more xs k d within) in omega (arith, ints, is, added, here, rest)

pub all_summed : {X : Type 0} (f : X → ℤ) (so_far : ℤ) (xs : List X) (k : ℕ) (all : ℤ) → length xs ≤ k → so_far +ℤ sum_of f (drop k xs) ≡ all → so_far ≡ all
all_summed f so_far xs k all past rest = let none = ap (sum_of f) (drop_of_length-le xs past) in omega (arith, ints, none, rest)
