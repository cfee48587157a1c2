-- What is wanted of the keys of a list and is there of others, taken key by key.
use Rattle.std.proofs.Common.{◌≡◌, Bool, true, false, ◌||◌, List, [], ◌∷◌, ◌++◌, cond, refl, sym, ap, ◌∙◌}
use Rattle.std.specs.Cmp.{Equal-is, IsTotalOrder, eq_by_cmp_equiv}
use Rattle.std.specs.List.{list_any}
use Rattle.std.specs.Ordering.{is_eq}
use Rattle.std.specs.declared.cmp.Ordering.{Ordering}
use Rattle.std.proofs.lemmas.List.Folds.{list_any-append}
use Rattle.std.proofs.lemmas.Map.Lookups.{CmpEqualImpliesEq}
use Rattle.cell_spec.specs.declared.key.Key.{Key}
use Rattle.cell_spec.specs.Names.{same_key}

put_by : {W : Type 0} (hit old : Bool) (v w x : W) → (hit ≡ true → v ≡ w) → cond hit v (cond old w x) ≡ cond (old || (hit || false)) w x
put_by true true v w x same = same refl
put_by true false v w x same = same refl
put_by false true v w x same = refl
put_by false false v w x same = refl

or_none : (b : Bool) → b ≡ (b || (false || false))
or_none true = refl
or_none false = refl

module _ {K W : Type 0} (key : K → Key) (keys : List Key) (wanted base now : K → W)
    (are : (m : K) → now m ≡ cond (list_any (same_key (key m)) keys) (wanted m) (base m)) where
  -- a key that is none of these asks for nothing
  pub other_key : (other : Key) → ((m : K) → same_key (key m) other ≡ false) → (m : K)
      → now m ≡ cond (list_any (same_key (key m)) (keys ++ other ∷ [])) (wanted m) (base m)
  other_key other none m =
      are m ∙ ap (λ hit. cond hit (wanted m) (base m))
      (or_none (list_any (same_key (key m)) keys) ∙ ap (λ b. list_any (same_key (key m)) keys || (b || false)) (sym (none m))
      ∙ sym (list_any-append (same_key (key m)) keys (other ∷ [])))

  -- what is wanted of one more is put
  pub one_more : (order : K → K → Ordering) → IsTotalOrder order → CmpEqualImpliesEq order → ((m n : K) → is_eq (order m n) ≡ same_key (key m) (key n))
      → (n : K) (next : K → W) → ((m : K) → next m ≡ cond (is_eq (order n m)) (wanted n) (now m)) → (m : K)
      → next m ≡ cond (list_any (same_key (key m)) (keys ++ key n ∷ [])) (wanted m) (base m)
  one_more order total exact ties n next put m =
      let hit = is_eq (order m n) in
      put m
      ∙ ap (λ b. cond b (wanted n) (now m)) ((eq_by_cmp_equiv total).symm n m)
      ∙ ap (cond hit (wanted n)) (are m)
      ∙ put_by hit (list_any (same_key (key m)) keys) (wanted n) (wanted m) (base m) (λ same. ap wanted (sym (exact m n ((Equal-is (order m n)).0 same))))
      ∙ ap (λ b. cond (list_any (same_key (key m)) keys || (b || false)) (wanted m) (base m)) (ties m n)
      ∙ ap (λ b. cond b (wanted m) (base m)) (sym (list_any-append (same_key (key m)) keys (key n ∷ [])))
