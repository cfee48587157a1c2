-- A subject put among others in order, at the place that a search found.
use Rattle.std.proofs.Common.{◌≡◌, ◌||◌, ◌<◌, ◌≤◌, ◌+◌, ◌⊎◌, ℕ, zero, suc, inl, inr, Bool, cond, true, false, List, [], ◌∷◌}
use Rattle.std.proofs.Common.{Result, Ok, Err, length, get_or, refl, ap, ◌∙◌, arith}
use Rattle.std.specs.List.{AllByRecursion, insert, list_any}
use Rattle.std.specs.Result.{MatchResult}
use Rattle.std.specs.List.Sorted.{IsBinarySearchResult, IsSearchInRange, IsSorted, IsStrictlySortedBy}
use Rattle.std.specs.Cmp.{tied_back}
use Rattle.std.specs.Ordering.{is_eq, is_lt, ordering_reverse}
use Rattle.std.specs.declared.cmp.Ordering.{Ordering}
use Rattle.std.specs.declared.cmp.Ordering.TheVariants.{Less, Equal, Greater}
use Rattle.std.proofs.Math.Nat.{eq-or-lt_of_le}
use Rattle.std.proofs.lemmas.List.Folds.{list_any_at, list_any_none}
use Rattle.std.proofs.lemmas.List.Sorted.{searchable_from_sorted}
use Rattle.std.proofs.lemmas.Map.Keys.{Less-from_sorted}
use Rattle.cell_spec.specs.declared.key.Subject.{Subject}
use Rattle.cell_spec.specs.Names.{same_subject, subject_order}
use Rattle.cell_spec.proofs.SubjectOrder.{total_subjects}

not_lt : (o : Ordering) → o ≡ Less → is_lt (ordering_reverse o) ≡ false
not_lt Less e = refl
not_lt Equal e = refl
not_lt Greater e = absurd cc

sorted_subjects : (ss : List Subject) → IsStrictlySortedBy subject_order ss → IsSorted subject_order ss
sorted_subjects ss rises = λ k d low within.
    let less = Less-from_sorted subject_order ss k (k + 1) d rises (omega arith) within in
    ap is_lt (total_subjects.antisymm (get_or ss (k + 1) d) (get_or ss k d)) ∙ not_lt (subject_order (get_or ss k d) (get_or ss (k + 1) d)) less

no_tie : (o : Ordering) → (o ≡ Less) ⊎ (o ≡ Greater) → is_eq (ordering_reverse o) ≡ false
no_tie Less e = refl
no_tie Equal (inl e) = absurd cc
no_tie Equal (inr e) = absurd cc
no_tie Greater e = refl

side_of : (k i : ℕ) → (k < i) ⊎ (i ≤ k)
side_of k zero = inr (omega arith)
side_of k (suc i) = elim (side_of k i)
    [ inl h ↦ inl (omega (arith, h)) | inr h ↦ elim (eq-or-lt_of_le h) [ inl e ↦ inl (omega (arith, e)) | inr l ↦ inr (omega (arith, l)) ] ]

-- ---- one more among some in order
all_at : (P : Subject → Type 0) (ss : List Subject) → ((k : ℕ) (d : Subject) → k < length ss → P (get_or ss k d)) → AllByRecursion P ss
all_at P [] each = tt
all_at P (s ∷ ss) each = (each 0 s (omega arith), all_at P ss (λ k d within. each (suc k) d (omega (arith, within))))

all_with : (P : Subject → Type 0) (ss : List Subject) (i : ℕ) (s : Subject) → P s → AllByRecursion P ss → AllByRecursion P (insert ss i s)
all_with P ss zero s here all = (here, all)
all_with P [] (suc i) s here all = (here, tt)
all_with P (t ∷ ss) (suc i) s here all = (all.0, all_with P ss i s here all.1)

above : (t s : Subject) → subject_order t s ≡ Greater → subject_order s t ≡ Less
above t s e = total_subjects.antisymm s t ∙ ap ordering_reverse e

-- between the lesser and the greater ones it leaves them in order
pub sorted_with : (ss : List Subject) (i : ℕ) (s : Subject) → IsStrictlySortedBy subject_order ss
    → ((k : ℕ) (d : Subject) → k < i → k < length ss → subject_order (get_or ss k d) s ≡ Less)
    → ((k : ℕ) (d : Subject) → i ≤ k → k < length ss → subject_order (get_or ss k d) s ≡ Greater)
    → IsStrictlySortedBy subject_order (insert ss i s)
unfolding IsStrictlySortedBy
sorted_with ss zero s rises low high = (
  all_at (λ t. subject_order s t ≡ Less) ss (λ k d within. above (get_or ss k d) s (high k d (omega arith) within)),
  rises,
)
sorted_with [] (suc i) s rises low high = (tt, tt)
sorted_with (t ∷ ss) (suc i) s rises low high = (
  all_with (λ u. subject_order t u ≡ Less) ss i s (low 0 t (omega arith) (omega arith)) rises.0,
  sorted_with ss i s rises.1 (λ k d under within. low (suc k) d (omega (arith, under)) (omega (arith, within)))
      (λ k d over within. high (suc k) d (omega (arith, over)) (omega (arith, within))),
)

-- ---- what a search finds
module _ (ss : List Subject) (s : Subject) (rises : IsStrictlySortedBy subject_order ss) where
  pub stands : (place : ℕ) → place < length ss → ((d : Subject) → subject_order (get_or ss place d) s ≡ Equal) → list_any (same_subject s) ss ≡ true
  stands place within same = list_any_at (same_subject s) ss place s within (ap is_eq (tied_back total_subjects (get_or ss place s) s (same s)))

  module _ (place : ℕ) (within : place ≤ length ss) (cut : IsBinarySearchResult (λ t. subject_order t s) ss (Err place)) where
    pub lacks : list_any (same_subject s) ss ≡ false
    lacks =
        let parts = cut (searchable_from_sorted total_subjects (λ t. t) ss s (sorted_subjects ss rises)) in
        list_any_none (same_subject s) ss (λ k d inside.
        let other = get_or ss k d in
        let either : (subject_order other s ≡ Less) ⊎ (subject_order other s ≡ Greater) = elim (side_of k place)
        [ inl h ↦ inl (parts.0 k d (omega arith) h) | inr h ↦ inr (parts.1 k d h inside) ] in
        ap is_eq (total_subjects.antisymm s other) ∙ no_tie (subject_order other s) either)

    pub ordered_with : IsStrictlySortedBy subject_order (insert ss place s)
    ordered_with =
        let parts = cut (searchable_from_sorted total_subjects (λ t. t) ss s (sorted_subjects ss rises)) in
        sorted_with ss place s rises (λ k d under inside. parts.0 k d (omega arith) under) (λ k d over inside. parts.1 k d over inside)

module _ (ss : List Subject) (s : Subject) (rises : IsStrictlySortedBy subject_order ss) where
  -- whether the search finds it
  pub finds : (r : Result ℕ ℕ) → IsSearchInRange r (length ss) → IsBinarySearchResult (λ t. subject_order t s) ss r
      → MatchResult r (λ place. list_any (same_subject s) ss ≡ true) (λ place. list_any (same_subject s) ss ≡ false)
  finds (Ok place) within same = stands ss s rises place within same
  finds (Err place) within cut = lacks ss s rises place within cut

  -- and where
  pub places : (r : Result ℕ ℕ) → IsSearchInRange r (length ss) → IsBinarySearchResult (λ t. subject_order t s) ss r
      → MatchResult r (λ place. place ≤ length ss) (λ place. (place ≤ length ss) × IsStrictlySortedBy subject_order (insert ss place s))
  places (Ok place) within same = omega (arith, within)
  places (Err place) within cut = (within, ordered_with ss s rises place within cut)

-- ---- what is there with one more
or_swap : (a b c : Bool) → (a || (b || c)) ≡ (b || (a || c))
or_swap true true c = refl
or_swap true false c = refl
or_swap false true c = refl
or_swap false false c = refl

pub any_with : (p : Subject → Bool) (ss : List Subject) (i : ℕ) (s : Subject) → list_any p (insert ss i s) ≡ (p s || list_any p ss)
any_with p ss zero s = refl
any_with p [] (suc i) s = refl
any_with p (t ∷ ss) (suc i) s = ap (λ b. p t || b) (any_with p ss i s) ∙ or_swap (p t) (p s) (list_any p ss)

in_few : (same turned few more there : Bool) → same ≡ turned → (few || more) ≡ there → ((same || few) || more) ≡ cond turned true there
in_few true true few more there e f = refl
in_few true false few more there e f = cc
in_few false true few more there e f = cc
in_few false false few more there e f = f

-- it is put among the few
pub few_with : (p : Subject → Bool) (few now : List Subject) (i : ℕ) (s : Subject) (turned more there : Bool) → now ≡ insert few i s → p s ≡ turned
    → (list_any p few || more) ≡ there → (list_any p now || more) ≡ cond turned true there
few_with p few now i s turned more there is e f =
    ap (λ those. list_any p those || more) is ∙ ap (λ b. b || more) (any_with p few i s) ∙ in_few (p s) turned (list_any p few) more there e f

-- it is put into the tree
in_tree : (same few more there : Bool) → (few || more) ≡ there → (few || cond same true more) ≡ cond same true there
in_tree true true more there f = refl
in_tree true false more there f = refl
in_tree false few more there f = f

pub tree_with : (tied same few more now there : Bool) → now ≡ cond tied true more → tied ≡ same → (few || more) ≡ there → (few || now) ≡ cond same true there
tree_with tied same few more now there is e f = ap (λ b. few || b) (is ∙ ap (λ b. cond b true more) e) ∙ in_tree same few more there f

-- none are in order
pub none_sorted : IsStrictlySortedBy subject_order []
unfolding IsStrictlySortedBy
none_sorted = tt
