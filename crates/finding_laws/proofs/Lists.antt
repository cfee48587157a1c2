-- What stands among the items of mapped, flattened, filtered and sorted lists.
use Rattle.std.proofs.Common.{◌≡◌, ◌⊎◌, inl, inr, Bool, true, false, List, [], ◌∷◌, cond, filter, refl, sym, ap, ◌∙◌, subst}
use Rattle.std.specs.Prelude.{flat_map}
use Rattle.std.specs.declared.cmp.Ordering.{Ordering}
use Rattle.std.specs.Ordering.{is_eq}
use Rattle.std.specs.Cmp.{Equal-is, IsTotalOrder, eq_by_cmp_equiv}
use Rattle.std.proofs.lemmas.Map.Lookups.{CmpEqualImpliesEq}
use Rattle.cell_spec.specs.Ascending.{ascending}
use Rattle.cell_spec.proofs.Ascending.{holds, holds-ascending}
use Rattle.answer_laws.proofs.Among.{Among, among_append, any_passes, in_back, in_front, passing}

-- ---- what an order tells apart
module _ {X : Type 0} (order : X → X → Ordering) where
  pub among_held : CmpEqualImpliesEq order → (x : X) (xs : List X) → holds order x xs ≡ true → Among x xs
  among_held exact x xs e =
      let hit = passing (λ y. is_eq (order x y)) xs e in
      subst (λ y. Among y xs) (sym (exact x hit.item ((Equal-is (order x hit.item)).0 hit.passes))) hit.among

  pub held_among : IsTotalOrder order → (x : X) (xs : List X) → Among x xs → holds order x xs ≡ true
  held_among total x xs at = any_passes (λ y. is_eq (order x y)) x xs at ((eq_by_cmp_equiv total).refl x)

  -- ---- the ascending list has the same items
  pub into_ascending : IsTotalOrder order → CmpEqualImpliesEq order → (x : X) (xs : List X) → Among x xs → Among x (ascending order xs)
  into_ascending total exact x xs at = among_held exact x (ascending order xs) (holds-ascending order exact x xs ∙ held_among total x xs at)

  pub from_ascending : IsTotalOrder order → CmpEqualImpliesEq order → (x : X) (xs : List X) → Among x (ascending order xs) → Among x xs
  from_ascending total exact x xs at = among_held exact x xs (sym (holds-ascending order exact x xs) ∙ held_among total x (ascending order xs) at)

-- ---- flattened lists
pub among_flat : {X Y : Type 0} (f : X → List Y) (x : X) (y : Y) (xs : List X) → Among x xs → Among y (f x) → Among y (flat_map f xs)
among_flat f x y [] at there = absurd at
among_flat f x y (z ∷ zs) (inl is) there = in_front y (f z) (flat_map f zs) (subst (λ w. Among y (f w)) (sym is) there)
among_flat f x y (z ∷ zs) (inr at) there = in_back y (f z) (flat_map f zs) (among_flat f x y zs at there)

pub record Flattened {X Y : Type 0} (f : X → List Y) (y : Y) (xs : List X) : Type 0 where
  pub item : X
  pub among : Among item xs
  pub gives : Among y (f item)

pub flattened : {X Y : Type 0} (f : X → List Y) (y : Y) (xs : List X) → Among y (flat_map f xs) → Flattened f y xs
flattened f y [] at = absurd at
flattened f y (x ∷ xs) at = elim (among_append y (f x) (flat_map f xs) at) [
  | inl here ↦ record { item = x; among = inl refl; gives = here }
  | inr there ↦ let rest = flattened f y xs there in record { item = rest.item; among = inr rest.among; gives = rest.gives }
]

-- ---- filtered lists
kept_by : {X : Type 0} (x y : X) (ys : List X) (b : Bool) → (y ≡ x → b ≡ true) → (y ≡ x) ⊎ Among x ys → Among x (cond b (y ∷ ys) ys)
kept_by x y ys true h at = at
kept_by x y ys false h (inl is) = let no = h is in cc
kept_by x y ys false h (inr at) = at

pub among_kept : {X : Type 0} (p : X → Bool) (x : X) (xs : List X) → Among x xs → p x ≡ true → Among x (filter p xs)
among_kept p x [] at e = absurd at
among_kept p x (y ∷ ys) (inl is) e = kept_by x y (filter p ys) (p y) (λ same. ap p same ∙ e) (inl is)
among_kept p x (y ∷ ys) (inr at) e = kept_by x y (filter p ys) (p y) (λ same. ap p same ∙ e) (inr (among_kept p x ys at e))
