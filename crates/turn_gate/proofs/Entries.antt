-- The entries of a number in a history, and own lists.
use mathlib.Core.List.{IsPrefix}
use mathlib.Core.Logic.{dite}
use native.Mathlib.Decide.{ℕ_discrete}
use Rattle.std.proofs.Common.{◌≡◌, ◌≢◌, ◌==◌, ℕ, ◌<◌, Bool, List, [], ◌∷◌, ◌++◌, cond, if◌then◌else◌, map, All, Contains, eq-eqb, ne_eqb, sym, refl, ap, ◌∙◌}
use Rattle.std.proofs.Common.{⊎_elim, arith, append-nil, append_assoc}
use Rattle.std.proofs.lemmas.List.Elements.{filter-append, All-head, All-tail, All-map, All-contains}
use Rattle.turn_gate.specs.declared.view.OwnList.{OwnList}
use Rattle.turn_gate.specs.Histories.{numbers_of, extended, entries_by, IsExact, exact_list, IsAtMostOne, Appends}
use Rattle.turn_gate.proofs.Prefixes.{prefix_trans, empty_front, nothing_added}

module _ {E : Type 0} (number : E → ℕ) where
  -- entries of the number m, seen from another and from itself
  entries_by-other : (n m : ℕ) (added : List E) → n ≢ m → IsAtMostOne number m added → entries_by number n added ≡ []
  entries_by-other n m added other = ⊎_elim (λ (no : added ≡ []). ap (entries_by number n) no)
      (λ (t : (e : E) × (number e ≡ m) × (added ≡ e ∷ [])). ap (entries_by number n) t.2 ∙ ap (λ (b : Bool). cond b (t.0 ∷ []) [])
      (ne_eqb (number t.0) n (λ d. other (sym d ∙ t.1))))

  entries_by-self : (n : ℕ) (added : List E) → IsAtMostOne number n added → entries_by number n added ≡ added
  entries_by-self n added = ⊎_elim (λ (no : added ≡ []). ap (entries_by number n) no ∙ sym no)
      (λ (t : (e : E) × (number e ≡ n) × (added ≡ e ∷ [])). ap (entries_by number n) t.2
      ∙ (ap (λ (b : Bool). cond b (t.0 ∷ []) []) (eq-eqb (number t.0) n t.1) ∙ sym t.2))

  pub entries_by-stay : (n m : ℕ) (before after : List E) → n ≢ m → Appends number m before after → entries_by number n after ≡ entries_by number n before
  entries_by-stay n m before after other grown = ap (entries_by number n) grown.2
      ∙ (filter-append (λ e. number e == n) before grown.0 ∙
      (ap (λ (l : List E). entries_by number n before ++ l) (entries_by-other n m grown.0 other grown.1)
      ∙ append-nil (entries_by number n before)))

  entries_by-grow : (n : ℕ) (before added : List E) → IsAtMostOne number n added → entries_by number n (before ++ added) ≡ entries_by number n before ++ added
  entries_by-grow n before added one = filter-append (λ e. number e == n) before added ∙ ap (λ (l : List E). entries_by number n before ++ l)
      (entries_by-self n added one)

  pub appends_prefix : (m : ℕ) (front before after : List E) → IsPrefix front before → Appends number m before after → IsPrefix front after
  appends_prefix m front before after p grown = prefix_trans front before after p (grown.0, sym grown.2)

  pub numbers_of-exact : (history : List E) (own : List (OwnList E)) → numbers_of (map (exact_list number history) own) ≡ numbers_of own
  numbers_of-exact history [] = refl
  numbers_of-exact history (o ∷ os) = ap (λ (l : List ℕ). o.number ∷ l) (numbers_of-exact history os)

  -- after an entry of the number n, its own list has it too, and the others are as they were
  pub exact_lists-extended : (n : ℕ) (before added : List E) (own : List (OwnList E)) → IsAtMostOne number n added
      → All (IsExact number before) own → map (exact_list number (before ++ added)) own ≡ map (extended n added) own
  exact_lists-extended n before added [] one all = refl
  exact_lists-extended n before added (o ∷ os) one all =
      let now = All-head (IsExact number before) o os all in
      let more = exact_lists-extended n before added os one (All-tail (IsExact number before) o os all) in
      let first : exact_list number (before ++ added) o ≡ extended n added o = dite (ℕ_discrete o.number n)
      (λ same. (λ i. record o {
        entries = (ap (λ (m : ℕ). entries_by number m (before ++ added)) same
            ∙ (entries_by-grow n before added one ∙ ap (λ (l : List E). l ++ added)
            (ap (λ (m : ℕ). entries_by number m before) (sym same) ∙ sym now))) i;
      })
      ∙ ap (λ (b : Bool). if b then record o { entries = o.entries ++ added } else o) (sym (eq-eqb o.number n same)))
      (λ other. (λ i. record o { entries = (entries_by-stay o.number n before (before ++ added) other (added, one, refl) ∙ sym now) i })
      ∙ ap (λ (b : Bool). if b then record o { entries = o.entries ++ added } else o) (sym (ne_eqb o.number n other))) in
      λ i. first i ∷ more i

  -- a fact on each number that is kept, at one of them
  pub at_number : (P : ℕ → Type 0) (own : List (OwnList E)) (n : ℕ) → All (λ o. P o.number) own → Contains (numbers_of own) n → P n
  at_number P own n all has = All-contains P (numbers_of own) n (All-map P (λ (o : OwnList E). o.number) own all) has

  -- a number that wasn't given has no entry
  pub entries_by-unused : (n : ℕ) (history : List E) → All (λ e. number e < n) history → entries_by number n history ≡ []
  entries_by-unused n [] all = refl
  entries_by-unused n (e ∷ es) all =
      let low = All-head (λ (x : E). number x < n) e es all in
      ap (λ (b : Bool). cond b (e ∷ entries_by number n es) (entries_by number n es)) (ne_eqb (number e) n (λ d. omega arith))
      ∙ entries_by-unused n es (All-tail (λ (x : E). number x < n) e es all)

  entries_by-prefix : (n : ℕ) (front whole : List E) (p : IsPrefix front whole) → entries_by number n whole ≡ entries_by number n front
      ++ entries_by number n p.0
  entries_by-prefix n front whole p = ap (entries_by number n) (sym p.1) ∙ filter-append (λ e. number e == n) front p.0

  pub entries_by-none_before : (n : ℕ) (front whole : List E) → IsPrefix front whole → entries_by number n whole ≡ [] → entries_by number n front ≡ []
  entries_by-none_before n front whole p none' = empty_front (entries_by number n front) (entries_by number n p.0)
      (sym (entries_by-prefix n front whole p) ∙ none')

  -- an own list that is exact in a beginning and in the whole is exact in all that lies between
  pub exact_between : (front middle whole : List E) (o : OwnList E) → IsPrefix front middle → IsPrefix middle whole → IsExact number front o
      → IsExact number whole o → IsExact number middle o
  exact_between front middle whole o p q seen all =
      let by : List E → List E = entries_by number o.number in
      let gone : by p.0 ++ by q.0 ≡ [] = nothing_added (by front) (by p.0 ++ by q.0) (sym (append_assoc (by front) (by p.0) (by q.0))
      ∙ (ap (λ (z : List E). z ++ by q.0) (sym (entries_by-prefix o.number front middle p))
      ∙ (sym (entries_by-prefix o.number middle whole q) ∙ (sym all ∙ seen)))) in
      seen ∙ sym (entries_by-prefix o.number front middle p ∙ (ap (λ (z : List E). by front ++ z) (empty_front (by p.0) (by q.0) gone) ∙ append-nil (by front)))
