-- Beginnings of one history.
use mathlib.Core.List.{IsPrefix}
use Rattle.std.proofs.Common.{◌≡◌, ◌⊎◌, ℕ, ◌≤◌, Bool, true, false, List, [], ◌∷◌, ◌++◌, length, leb, leb-true, leb-false, if◌then◌else◌, refl, ap, sym, ◌∙◌}
use Rattle.std.proofs.Common.{subst, inl, inr, ⊎_elim, arith, append-nil, append_assoc}
use Rattle.std.proofs.lemmas.Bool.{cases_Bool}
use Rattle.turn_gate.specs.Histories.{longer}

module _ {A : Type 0} where
  pub prefix_refl : (xs : List A) → IsPrefix xs xs
  prefix_refl xs = ([], append-nil xs)

  pub prefix_trans : (xs ys zs : List A) → IsPrefix xs ys → IsPrefix ys zs → IsPrefix xs zs
  prefix_trans xs ys zs p q = (p.0 ++ q.0, sym (append_assoc xs p.0 q.0) ∙ (ap (λ w. w ++ q.0) p.1 ∙ q.1))

  -- of two beginnings of one list the shorter begins the longer
  pub shorter_prefix : (xs ys zs : List A) → IsPrefix xs zs → IsPrefix ys zs → length xs ≤ length ys → IsPrefix xs ys
  shorter_prefix [] ys zs p q le = (ys, refl)
  shorter_prefix (x ∷ xs) [] zs p q le = absurd (omega arith)
  shorter_prefix (x ∷ xs) (y ∷ ys) [] p q le = absurd (cc (p.1))
  shorter_prefix (x ∷ xs) (y ∷ ys) (z ∷ zs) p q le =
      let heads : x ≡ y = cc (p.1, q.1) in
      let rest = shorter_prefix xs ys zs (p.0, cc (p.1)) (q.0, cc (q.1)) (omega arith) in
      (rest.0, cc (heads, rest.1))

  pub empty_front : (xs ys : List A) → xs ++ ys ≡ [] → xs ≡ []
  empty_front [] ys e = refl
  empty_front (x ∷ xs) ys e = absurd (cc e)

  pub nothing_added : (xs ys : List A) → xs ++ ys ≡ xs → ys ≡ []
  nothing_added [] ys e = e
  nothing_added (x ∷ xs) ys e = nothing_added xs ys (cc e)

  pub longer_cases : (xs ys : List A) → ((length xs ≤ length ys) × (longer xs ys ≡ ys)) ⊎ ((length ys ≤ length xs) × (longer xs ys ≡ xs))
  longer_cases xs ys = ⊎_elim
      (λ (e : leb (length xs) (length ys) ≡ true). inl (leb-true (length xs) (length ys) e, ap (λ (b : Bool). if b then ys else xs) e))
      (λ (e : leb (length xs) (length ys) ≡ false). inr (above (length xs) (length ys) e, ap (λ (b : Bool). if b then ys else xs) e))
      (cases_Bool (leb (length xs) (length ys)))
    where
      above : (a b : ℕ) → leb a b ≡ false → b ≤ a
      above a b e = let less = leb-false a b e in omega arith

  -- the longer of two beginnings begins the whole, and each of the two begins it
  pub longer_prefix : (xs ys zs : List A) → IsPrefix xs zs → IsPrefix ys zs → IsPrefix (longer xs ys) zs × IsPrefix xs (longer xs ys)
      × IsPrefix ys (longer xs ys)
  longer_prefix xs ys zs p q = ⊎_elim
      (λ (t : (length xs ≤ length ys) × (longer xs ys ≡ ys)). subst (λ (l : List A). IsPrefix l zs × IsPrefix xs l × IsPrefix ys l)
      (sym t.1) (q, shorter_prefix xs ys zs p q t.0, prefix_refl ys))
      (λ (t : (length ys ≤ length xs) × (longer xs ys ≡ xs)). subst (λ (l : List A). IsPrefix l zs × IsPrefix xs l × IsPrefix ys l)
      (sym t.1) (p, prefix_refl xs, shorter_prefix ys xs zs q p t.0))
      (longer_cases xs ys)
