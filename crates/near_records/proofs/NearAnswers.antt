-- Answers to ascending keys are found again by their keys.
use Rattle.std.proofs.Common.{◌≡◌, IfOk, Result, Ok, Err, ℕ, ◌+◌, ◌<◌, ◌≤◌, inl, inr, ◌||◌, Bool, true, false, true≢false, Option, Some}
use Rattle.std.proofs.Common.{List, [], ◌∷◌, length, map, fold, find}
use Rattle.std.proofs.Common.{cond, get_or, option_map, refl, sym, ap, ◌∙◌, subst, arith}
use Rattle.std.specs.Cmp.{Equal-is}
use Rattle.std.specs.List.{list_any}
use Rattle.std.specs.List.Sorted.{IsSortedByKey, IsStrictlySortedBy, IsPartitionPoint}
use Rattle.std.specs.Ordering.{is_eq, is_lt, match_ordering, ordering_reverse}
use Rattle.std.specs.declared.cmp.Ordering.{Ordering}
use Rattle.std.specs.declared.cmp.Ordering.TheVariants.{Less, Equal, Greater}
use Rattle.std.proofs.lemmas.Bool.{cases_lt}
use Rattle.std.proofs.lemmas.List.{get_or-map, length-map}
use Rattle.std.proofs.lemmas.List.Elements.{All-map}
use Rattle.std.proofs.lemmas.List.Folds.{list_any_none}
use Rattle.std.proofs.lemmas.Map.Keys.{Less-from_sorted}
use Rattle.s57_types.specs.declared.cell.Cell.{Cell}
use Rattle.cell_spec.specs.declared.key.Key.{Key}
use Rattle.cell_spec.specs.Ascending.{put_in_order, ascending}
use Rattle.cell_spec.specs.Names.{key_order, same_key}
use Rattle.cell_spec.proofs.Ascending.{already_ascending, holds-ascending, sorted-ascending}
use Rattle.cell_spec.proofs.Orders.{exact_keys, total_keys}
use Rattle.near_records.specs.Near.{AreAnswers, FindsAnswer, IsNear, KeyAnswer, answer_held, answer_to, has_key}
use Rattle.near_records.specs.declared.near.Answer.{Answer}
use Rattle.near_records.specs.declared.near.NearRecords.{NearRecords}

-- ---- an ascending list is no longer than what it is made of
module _ {X : Type 0} (order : X → X → Ordering) where
  put_by : (x y : X) (ys : List X) (found : Ordering) → length (put_in_order order x ys) ≤ length ys + 1
      → length (match_ordering found (x ∷ y ∷ ys) (y ∷ ys) (y ∷ put_in_order order x ys)) ≤ length (y ∷ ys) + 1
  put_by x y ys Less h = omega arith
  put_by x y ys Equal h = omega arith
  put_by x y ys Greater h = omega arith

  one_put : (x : X) (ys : List X) → length (put_in_order order x ys) ≤ length ys + 1
  one_put x [] = omega arith
  one_put x (y ∷ ys) = put_by x y ys (order x y) (one_put x ys)

  all_put : (sorted xs : List X) → length (fold (λ sorted x. put_in_order order x sorted) sorted xs) ≤ length sorted + length xs
  all_put sorted [] = omega arith
  all_put sorted (x ∷ xs) = omega (arith, one_put x sorted, all_put (put_in_order order x sorted) xs)

  pub shorter_ascending : (xs : List X) → length (ascending order xs) ≤ length xs
  shorter_ascending xs = omega (arith, all_put [] xs)

-- ---- what is near are answers, each to its own key
pub are_answers : (c : Cell) (keys : List Key) (answers : List Answer)
    → map answer_held answers ≡ map (answer_to c) (ascending key_order keys) → AreAnswers c answers
are_answers c keys answers all = λ k d within.
    let asked = ascending key_order keys in
    let there : k < length asked = omega (arith, within, length-map answers answer_held, ap length all, length-map asked (answer_to c)) in
    let at : answer_held (get_or answers k d) ≡ answer_to c (get_or asked k d.key) =
    sym (get_or-map answer_held answers k d (answer_held d) within)
    ∙ ap (λ xs. get_or xs k (answer_held d)) all
    ∙ get_or-map (answer_to c) asked k d.key (answer_held d) there in
    at ∙ ap (answer_to c) (sym (ap (λ (x : KeyAnswer). x.key) at))

pub near_are_answers : (c : Cell) (keys : List Key) (near : NearRecords) → IsNear c keys near → AreAnswers c near.answers.items
near_are_answers c keys near is = are_answers c keys near.answers.items is.answers

-- ---- the keys of answers
abbrev pub key_in : Answer → Key
key_in a = a.key

keys_held : (answers : List Answer) → map (λ (a : KeyAnswer). a.key) (map answer_held answers) ≡ map key_in answers
keys_held [] = refl
keys_held (a ∷ answers) = ap (λ keys. a.key ∷ keys) (keys_held answers)

keys_asked : (c : Cell) (keys : List Key) → map (λ (a : KeyAnswer). a.key) (map (answer_to c) keys) ≡ keys
keys_asked c [] = refl
keys_asked c (key ∷ keys) = ap (λ rest. key ∷ rest) (keys_asked c keys)

module _ (c : Cell) (keys : List Key) (answers : List Answer) (all : map answer_held answers ≡ map (answer_to c) (ascending key_order keys)) where
  same_keys : map key_in answers ≡ ascending key_order keys
  same_keys = sym (keys_held answers) ∙ ap (map (λ (a : KeyAnswer). a.key)) all ∙ keys_asked c (ascending key_order keys)

  -- the answer whose key ties with a key is the cell's to it
  pub answer_there : (key : Key) (k : ℕ) (a : Answer) → k < length answers → a ≡ get_or answers k a
      → key_order (get_or answers k a).key key ≡ Equal → answer_held a ≡ answer_to c key
  answer_there key k a within is ties =
      let asked = ascending key_order keys in
      let there : k < length asked = omega (arith, within, length-map answers answer_held, ap length all, length-map asked (answer_to c)) in
      let at : answer_held a ≡ answer_to c (get_or asked k a.key) =
      ap answer_held is
      ∙ sym (get_or-map answer_held answers k a (answer_held a) within)
      ∙ ap (λ xs. get_or xs k (answer_held a)) all
      ∙ get_or-map (answer_to c) asked k a.key (answer_held a) there in
      let own : get_or asked k a.key ≡ key = sym (ap (λ (x : KeyAnswer). x.key) at) ∙ ap key_in is ∙ exact_keys (get_or answers k a).key key ties in
      at ∙ ap (answer_to c) own

  -- the answers ascend by their keys
  pub answers_rise : IsSortedByKey key_in key_order answers
  answers_rise = λ k d low within.
      let rises : IsStrictlySortedBy key_order (map key_in answers) =
      subst (IsStrictlySortedBy key_order) (sym same_keys) (sorted-ascending key_order total_keys keys) in
      let less = Less-from_sorted key_order (map key_in answers) k (k + 1) d.key rises (omega arith) (omega (arith, within, length-map answers key_in)) in
      let first = get_or-map key_in answers k d d.key (omega (arith, within)) in
      let next = get_or-map key_in answers (k + 1) d d.key within in
      let below : key_order (get_or answers k d).key (get_or answers (k + 1) d).key ≡ Less = (λ i. key_order (sym first i) (sym next i)) ∙ less in
      ap is_lt (total_keys.antisymm (get_or answers (k + 1) d).key (get_or answers k d).key ∙ ap ordering_reverse below)

  -- a key among the keys isn't missing from the answers
  pub never_missing : (key : Key) (i : ℕ) → has_key keys key ≡ true
      → IsPartitionPoint (λ (a : Answer). key_order a.key key ≡ Less) (λ (a : Answer). key_order a.key key ≡ Greater) answers i → ⊥
  never_missing key i asked parts =
      let none : has_key (map key_in answers) key ≡ false =
      list_any_none (λ other. is_eq (key_order key other)) (map key_in answers)
      (All-map (λ other. is_eq (key_order key other) ≡ false) key_in answers (λ k d within.
      let turned = total_keys.antisymm key (get_or answers k d).key in
      elim (cases_lt k i) [
        | inl h ↦ ap is_eq (turned ∙ ap ordering_reverse (parts.0 k d (omega arith) h))
        | inr h ↦ ap is_eq (turned ∙ ap ordering_reverse (parts.1 k d h within))
      ])) in
      true≢false (sym asked ∙ sym (holds-ascending key_order exact_keys key keys) ∙ ap (λ ks. has_key ks key) (sym same_keys) ∙ none)

-- ---- among a cell's answers to keys the first that is to one of them is its answer to it
module _ (c : Cell) (key : Key) where
  first_by : (a : Answer) (rest : Option Answer) (k : Key) (tie later : Bool) → same_key key k ≡ tie → answer_held a ≡ answer_to c k → (tie || later) ≡ true
      → (later ≡ true → option_map answer_held rest ≡ Some (answer_to c key)) → option_map answer_held (cond tie (Some a) rest) ≡ Some (answer_to c key)
  first_by a rest k true later ties held asked then =
      ap Some (held ∙ ap (answer_to c) (sym (exact_keys key k ((Equal-is (key_order key k)).0 ties))))
  first_by a rest k false later ties held asked then = then asked

  first_of : (answers : List Answer) (keys : List Key) → map answer_held answers ≡ map (answer_to c) keys → list_any (same_key key) keys ≡ true
      → option_map answer_held (find (λ (a : Answer). same_key key a.key) answers) ≡ Some (answer_to c key)
  first_of answers [] all asked = absurd (cc)
  first_of [] (k ∷ keys) all asked = absurd (cc)
  first_of (a ∷ answers) (k ∷ keys) all asked =
      let held : answer_held a ≡ answer_to c k = cc in
      let others : map answer_held answers ≡ map (answer_to c) keys = cc in
      let rest = find (λ (b : Answer). same_key key b.key) answers in
      ap (λ (x : KeyAnswer). option_map answer_held (cond (same_key key x.key) (Some a) rest)) held
      ∙ first_by a rest k (same_key key k) (list_any (same_key key) keys) refl held asked (first_of answers keys others)

pub finds_first : (answers : List Answer) (key : Key) → FindsAnswer answers key (find (λ (a : Answer). same_key key a.key) answers)
finds_first answers key = λ c keys all asked. first_of c key answers (ascending key_order keys) all (holds-ascending key_order exact_keys key keys ∙ asked)

-- what is made of answers that are near is near
pub near_made : (c : Cell) (keys : List Key) (answers : List Answer) {E : Type 0} (made : Result NearRecords E)
    → IfOk made (λ (near : NearRecords). near.answers.items ≡ answers) → map answer_held answers ≡ map (answer_to c) (ascending key_order keys)
    → IfOk made (IsNear c keys)
near_made c keys answers (Ok near) same all = record { answers = ap (map answer_held) same ∙ all }
near_made c keys answers (Err e) same all = tt

pub near_made_in_order : (c : Cell) (keys : List Key) (answers : List Answer) {E : Type 0} (made : Result NearRecords E)
    → IfOk made (λ (near : NearRecords). near.answers.items ≡ answers) → IsStrictlySortedBy key_order keys
    → map answer_held answers ≡ map (answer_to c) keys → IfOk made (IsNear c keys)
near_made_in_order c keys answers made same rises all = near_made c keys answers made same
    (all ∙ ap (map (answer_to c)) (sym (already_ascending key_order total_keys exact_keys keys rises)))
