-- The views after a step, and the maps from numbers and tickets to them.
use mathlib.Core.Logic.{dite}
use mathlib.Core.Option as maybe
use mathlib.Core.Option.{some, none, some-injective, some-ne-none}
use native.Mathlib.Decide.{ℕ_discrete}
use lib.ListN.{get_elem?}
use Rattle.std.proofs.Common.{◌≡◌, ◌≢◌, ◌⊎◌, ℕ, zero, suc, ◌+◌, ◌≤◌, true, false, List, [], ◌∷◌, ◌++◌, length, set, Option, Some, None, sym, refl, ap, ◌∙◌}
use Rattle.std.proofs.Common.{All, subst, inl, inr, ⊎_elim, arith}
use Rattle.atomic_table.proofs.Lists.{at_set, set_else, at_longer}
use Rattle.turn_gate.specs.declared.view.HandleView.{HandleView}
use Rattle.turn_gate.specs.TicketLockRule.{IsAt, IsSound, Keeps, LockState, count_if, count_some, waiting}

abbrev pub value_of : {A : Type 0} → A → Option A → A
value_of d (Some a) = a
value_of d None = d

abbrev either_of : {P : Type 0} → Dec P → ℕ → ℕ → ℕ
either_of (yes _) a b = a
either_of (no _) a b = b

-- the map f, with c at i
pub put : (ℕ → ℕ) → ℕ → ℕ → ℕ → ℕ
put f i c j = either_of (ℕ_discrete j i) c (f j)

pub put_here : (f : ℕ → ℕ) (i c : ℕ) → put f i c i ≡ c
unfolding put
put_here f i c = go (ℕ_discrete i i)
  where
    go : (d : Dec (i ≡ i)) → either_of d c (f i) ≡ c
    go (yes _) = refl
    go (no n) = absurd (n refl)

pub put_else : (f : ℕ → ℕ) (i c j : ℕ) → j ≢ i → put f i c j ≡ f j
unfolding put
put_else f i c j other = go (ℕ_discrete j i)
  where
    go : (d : Dec (j ≡ i)) → either_of d c (f j) ≡ f j
    go (yes e) = absurd (other e)
    go (no _) = refl

-- the map f, where what it sends to `from` is sent to `to`
pub moved : (ℕ → ℕ) → ℕ → ℕ → ℕ → ℕ
moved f from to j = either_of (ℕ_discrete (f j) from) to (f j)

pub moved_here : (f : ℕ → ℕ) (from to j : ℕ) → f j ≡ from → moved f from to j ≡ to
unfolding moved
moved_here f from to j e = go (ℕ_discrete (f j) from)
  where
    go : (d : Dec (f j ≡ from)) → either_of d to (f j) ≡ to
    go (yes _) = refl
    go (no n) = absurd (n e)

pub moved_else : (f : ℕ → ℕ) (from to j : ℕ) → f j ≢ from → moved f from to j ≡ f j
unfolding moved
moved_else f from to j other = go (ℕ_discrete (f j) from)
  where
    go : (d : Dec (f j ≡ from)) → either_of d to (f j) ≡ f j
    go (yes e) = absurd (other e)
    go (no _) = refl

module _ {A : Type 0} where
  pub set_at : (l : List A) (i : ℕ) (a b : A) → get_elem? l i ≡ some a → get_elem? (set l i b) i ≡ some b
  set_at [] i a b e = absurd (some-ne-none a (sym e))
  set_at (x ∷ xs) zero a b e = refl
  set_at (x ∷ xs) (suc i) a b e = set_at xs i a b e

  -- what stands at a place of the list with one more
  pub at_end : (l : List A) (a b : A) (j : ℕ) → get_elem? (l ++ a ∷ []) j ≡ some b → (get_elem? l j ≡ some b) ⊎ ((j ≡ length l) × (a ≡ b))
  at_end [] a b zero e = inr (refl, some-injective a b e)
  at_end [] a b (suc j) e = absurd (some-ne-none b (sym e))
  at_end (x ∷ xs) a b zero e = inl e
  at_end (x ∷ xs) a b (suc j) e = ⊎_elim (λ t. inl t) (λ t. inr (ap suc t.0, t.1)) (at_end xs a b j e)

  pub only : (P : ℕ → A → Type 0) (w : A) → P 0 w → (j : ℕ) (u : A) → get_elem? (w ∷ []) j ≡ some u → P j u
  only P w mine zero u e = subst (P 0) (some-injective w u e) mine
  only P w mine (suc j) u e = absurd (some-ne-none u (sym e))

  -- what is true of the new one and of each other is true of each
  pub each_stays : (P : ℕ → A → Type 0) (l : List A) (me : ℕ) (w : A) → P me w → ((j : ℕ) (u : A) → j ≢ me → get_elem? l j ≡ some u → P j u)
      → (j : ℕ) (u : A) → get_elem? (set l me w) j ≡ some u → P j u
  each_stays P l me w mine others j u e = ⊎_elim (λ (t : (j ≡ me) × (w ≡ u)). subst (λ (x : ℕ × A). P x.0 x.1) (λ i. (sym t.0 i, t.1 i)) mine)
      (λ (t : (j ≢ me) × (get_elem? l j ≡ some u)). others j u t.0 t.1) (at_set l me j w u e)

  -- what is true at a place stays true there, if the new one has it where the old one had
  pub at_stays : (P : A → Type 0) (l : List A) (me : ℕ) (v w : A) (j : ℕ) → get_elem? l me ≡ some v → (j ≡ me → P v → P w) → IsAt l j P → IsAt (set l me w) j P
  at_stays P l me v w j at keeps k = dite (ℕ_discrete j me)
      (λ here. (
        w,
        ap (get_elem? (set l me w)) here ∙ set_at l me v w at,
        keeps here (subst P (some-injective k.0 v (sym k.1 ∙ (ap (get_elem? l) here ∙ at))) k.2),
      ))
      (λ there. (k.0, set_else l me j w there ∙ k.1, k.2))

  pub at_stays_longer : (P : A → Type 0) (l : List A) (w : A) (j : ℕ) → IsAt l j P → IsAt (l ++ w ∷ []) j P
  at_stays_longer P l w j k = (k.0, at_longer l (w ∷ []) j k.0 k.1, k.2)

count_some-le : {A : Type 0} (o : Option A) → count_some o ≤ 1
count_some-le None = omega arith
count_some-le (Some a) = omega arith

module _ {E O : Type 0} where
  pub waiting_more : (vs : List (HandleView E O)) (w : HandleView E O) → waiting (vs ++ w ∷ []) ≡ waiting vs + count_some w.ticket
  waiting_more [] w = omega arith
  waiting_more (v ∷ vs) w = let more = waiting_more vs w in omega arith

  pub waiting_set : (vs : List (HandleView E O)) (me : ℕ) (v w : HandleView E O) → get_elem? vs me ≡ some v
      → waiting (set vs me w) + count_some v.ticket ≡ waiting vs + count_some w.ticket
  waiting_set [] me v w e = absurd (some-ne-none v (sym e))
  waiting_set (x ∷ xs) zero v w e = let same : count_some x.ticket ≡ count_some v.ticket =
      ap (λ (z : HandleView E O). count_some z.ticket) (some-injective x v e) in omega arith
  waiting_set (x ∷ xs) (suc i) v w e = let more = waiting_set xs i v w e in omega arith

  pub waiting_fits : (vs : List (HandleView E O)) → waiting vs ≤ length vs
  waiting_fits [] = omega arith
  waiting_fits (v ∷ vs) = let more = waiting_fits vs in let one = count_some-le v.ticket in omega arith

  -- where the old view is unmarked, and no view is marked after the step, none was
  pub none_marked : (vs : List (HandleView E O)) (me : ℕ) (v w : HandleView E O) → get_elem? vs me ≡ some v → v.marked ≡ false
      → ((j : ℕ) (u : HandleView E O) → get_elem? (set vs me w) j ≡ some u → u.marked ≡ false)
      → (j : ℕ) (u : HandleView E O) → get_elem? vs j ≡ some u → u.marked ≡ false
  none_marked vs me v w at unmarked all j u e = dite (ℕ_discrete j me)
      (λ same. let r : some v ≡ some u = sym at ∙ (ap (get_elem? vs) (sym same) ∙ e) in
      ap (λ (x : HandleView E O). x.marked) (sym (some-injective v u r)) ∙ unmarked)
      (λ other. all j u (set_else vs me j w other ∙ e))

-- a view that is as it was: what the numbers that were given, the word and the slot have to do with is told anew
pub stays_sound : {V E O : Type 0} (number : E → ℕ) (start : O) (c : LockState E) (given : ℕ) (keeper : ℕ → ℕ) (drawn drawn' : ℕ)
    (homes homes' : List (maybe.Option (Option V))) (id : ℕ) (v : HandleView E O) → IsSound {V = V} {E = E} {O = O} number start c drawn homes id v
    → All (Keeps number (record c { given = given; keeper = keeper }) id v.observed) v.own
    → (v.marked ≡ true → (v.ticket ≡ Some c.served) × (v.observed ≡ c.published) × (get_elem? homes' 0 ≡ some none))
    → (v.draws ≡ true → (c.drawer ≡ id) × (v.given ≡ given) × (drawn' ≡ given + count_if v.drawn))
    → IsSound {V = V} {E = E} {O = O} number start (record c { given = given; keeper = keeper }) drawn' homes' id v
stays_sound number start c given keeper drawn drawn' homes homes' id v k own mark draws = record {
  observed = k.observed;
  joined = k.joined;
  origin = k.origin;
  own = own;
  ticket = k.ticket;
  mark = mark;
  draws = draws;
}
