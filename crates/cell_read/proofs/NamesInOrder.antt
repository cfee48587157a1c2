-- Names in order.
use Rattle.std.proofs.Common.{◌≡◌, ◌+◌, ◌||◌, ℕ, inl, inr, Bool, true, false, cond, List, [], ◌∷◌, ◌++◌, length, get_or, refl, sym, ap, ◌∙◌, arith, length-append}
use Rattle.std.specs.List.{list_any}
use Rattle.std.specs.List.Sorted.{IsStrictlySortedBy}
use Rattle.std.specs.Ordering.{is_eq, is_lt}
use Rattle.std.specs.declared.cmp.Ordering.{Ordering}
use Rattle.std.specs.declared.cmp.Ordering.TheVariants.{Less, Equal, Greater}
use Rattle.std.proofs.lemmas.Bool.{cases_lt}
use Rattle.std.proofs.lemmas.List.{get_or_append_left, get_or_push}
use Rattle.std.proofs.lemmas.List.Folds.{list_any_none}
use Rattle.std.proofs.lemmas.Map.Keys.{Less-from_sorted, sorted_from_all_adjacent}
use Rattle.std.proofs.lemmas.Map.Views.{All-before_last}
use Rattle.s57_types.specs.declared.name.RecName.{RecName}
use Rattle.cell_spec.specs.Names.{name_order, same_name}
use Rattle.cell_spec.proofs.Orders.{names_tie, total_names}

pub none_ascends : IsStrictlySortedBy name_order []
unfolding IsStrictlySortedBy
none_ascends = tt

pub less_when : (found : Ordering) → is_lt found ≡ true → found ≡ Less
less_when Less is = refl
less_when Equal is = cc
less_when Greater is = cc

-- a name behind the last one of some in order
pub ascends-push : (xs : List RecName) (x : RecName) → IsStrictlySortedBy name_order xs
    → ((k : ℕ) → length xs ≡ k + 1 → name_order (get_or xs k x) x ≡ Less) → IsStrictlySortedBy name_order (xs ++ x ∷ [])
ascends-push xs x rises behind = sorted_from_all_adjacent total_names (xs ++ x ∷ []) x (λ k within.
    let long = length-append xs (x ∷ []) in
    elim (cases_lt (k + 1) (length xs)) [
      | inl low ↦ (λ i. name_order (get_or_append_left xs (x ∷ []) x k (omega (arith, low)) i) (get_or_append_left xs (x ∷ []) x (k + 1) low i))
          ∙ Less-from_sorted name_order xs k (k + 1) x rises (omega arith) low
      | inr end ↦ let last : length xs ≡ k + 1 = omega (arith, end, within, long) in
          (λ i. name_order (get_or_append_left xs (x ∷ []) x k (omega (arith, last)) i) (get_or_push xs x x (k + 1) last i)) ∙ behind k last
    ])

-- a name behind all others is none of them
pub none_behind : (xs : List RecName) (x : RecName) → IsStrictlySortedBy name_order (xs ++ x ∷ []) → list_any (same_name x) xs ≡ false
none_behind xs x rises =
    list_any_none (same_name x) xs (λ k d within. sym (names_tie (get_or xs k d) x) ∙ ap is_eq (All-before_last name_order xs x rises k d within))

-- a name more among those behind a test
pub one_more : (before same was : Bool) → (before || cond same true was) ≡ (same || (before || was))
one_more true true was = refl
one_more true false was = refl
one_more false true was = refl
one_more false false was = refl
