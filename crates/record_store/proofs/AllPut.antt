-- Lists of ascending keys that are put at once.
use Rattle.std.proofs.Common.{◌≡◌, ◌||◌, Bool, true, false, List, [], ◌∷◌, Less, Option, Ordering, Some, cond, refl, ap, ◌∙◌}
use Rattle.std.specs.Prelude.{flat_map}
use Rattle.std.specs.Cmp.{Equal-is, IsTotalOrder, eq_by_cmp_equiv}
use Rattle.std.specs.List.{AllByRecursion, list_any}
use Rattle.std.specs.List.Sorted.{IsStrictlySortedBy}
use Rattle.std.specs.Map.{keys_of}
use Rattle.std.specs.Ordering.{is_eq}
use Rattle.std.proofs.lemmas.Map.Lookups.{CmpEqualImpliesEq}
use Rattle.s57_types.specs.declared.name.RecName.{RecName}
use Rattle.s57_types.specs.declared.name.Lnam.{Lnam}
use Rattle.cell_spec.specs.declared.key.Key.{Key}
use Rattle.cell_spec.specs.declared.key.Key.TheVariants.{Name, Refs, Foid}
use Rattle.cell_spec.specs.declared.key.Ref.{Ref}
use Rattle.cell_spec.specs.Names.{identity_order, key_order, name_order, same_key}
use Rattle.cell_spec.proofs.Orders.{exact_identities, exact_names, total_identities, total_names}
use Rattle.row_spec.specs.Rows.{IsAscending, value_of}
use Rattle.record_store.specs.Stores.{ArePut, list_in, names_row, refs_row}

-- a row whose key ties has what is wanted of the key
found : {W : Type 0} (tie any : Bool) (own wanted : List W) (rest : List W) → (tie ≡ true → own ≡ wanted) → rest ≡ cond any wanted []
    → cond tie own rest ≡ cond (tie || any) wanted []
found true any own wanted rest same is = same refl
found false any own wanted rest same is = is

here : {W : Type 0} (tie : Bool) (own : List W) (rest : Option (List W)) → list_in (cond tie (Some own) rest) ≡ cond tie own (list_in rest)
here true own rest = refl
here false own rest = refl

-- what is found of a name once the list of one more stands first
with_first : {N W : Type 0} (order : N → N → Ordering) → IsTotalOrder order → CmpEqualImpliesEq order → (lists : N → List W) (first n : N) (any : Bool)
    (rest : Option (List W)) → list_in rest ≡ cond any (lists n) []
    → list_in (cond (is_eq (order first n)) (Some (lists first)) rest) ≡ cond (is_eq (order n first) || any) (lists n) []
with_first order total exact lists first n any rest is =
    here (is_eq (order first n)) (lists first) rest
    ∙ found (is_eq (order first n)) any (lists first) (lists n) _ (λ tie. ap lists (exact first n ((Equal-is (order first n)).0 tie))) is
    ∙ ap (λ b. cond (b || any) (lists n) []) ((eq_by_cmp_equiv total).symm first n)

module _ (refs : RecName → List Ref) where
  refs_each : (n : RecName) (keys : List Key) → AllByRecursion (λ k. key_order (Refs n) k ≡ Less) keys
      → AllByRecursion (λ m. name_order n m ≡ Less) (keys_of (flat_map (refs_row refs) keys))
  refs_each n [] above = tt
  refs_each n (Name m ∷ keys) above = refs_each n keys above.1
  refs_each n (Refs m ∷ keys) above = (above.0, refs_each n keys above.1)
  refs_each n (Foid l ∷ keys) above = refs_each n keys above.1

  pub refs_ascend : (keys : List Key) → IsStrictlySortedBy key_order keys → IsAscending name_order (flat_map (refs_row refs) keys)
  unfolding IsStrictlySortedBy
  refs_ascend [] sorted = tt
  refs_ascend (Name m ∷ keys) sorted = refs_ascend keys sorted.1
  refs_ascend (Refs m ∷ keys) sorted = (refs_each m keys sorted.0, refs_ascend keys sorted.1)
  refs_ascend (Foid l ∷ keys) sorted = refs_ascend keys sorted.1

  refs_put : (keys : List Key) (n : RecName)
      → list_in (value_of name_order (flat_map (refs_row refs) keys) n) ≡ cond (list_any (same_key (Refs n)) keys) (refs n) []
  refs_put [] n = refl
  refs_put (Name m ∷ keys) n = refs_put keys n
  refs_put (Refs m ∷ keys) n = with_first name_order total_names exact_names refs m n _ _ (refs_put keys n)
  refs_put (Foid l ∷ keys) n = refs_put keys n

module _ (names : Lnam → List RecName) where
  names_each : (l : Lnam) (keys : List Key) → AllByRecursion (λ k. key_order (Foid l) k ≡ Less) keys
      → AllByRecursion (λ m. identity_order l m ≡ Less) (keys_of (flat_map (names_row names) keys))
  names_each l [] above = tt
  names_each l (Name m ∷ keys) above = names_each l keys above.1
  names_each l (Refs m ∷ keys) above = names_each l keys above.1
  names_each l (Foid m ∷ keys) above = (above.0, names_each l keys above.1)

  pub names_ascend : (keys : List Key) → IsStrictlySortedBy key_order keys → IsAscending identity_order (flat_map (names_row names) keys)
  unfolding IsStrictlySortedBy
  names_ascend [] sorted = tt
  names_ascend (Name m ∷ keys) sorted = names_ascend keys sorted.1
  names_ascend (Refs m ∷ keys) sorted = names_ascend keys sorted.1
  names_ascend (Foid m ∷ keys) sorted = (names_each m keys sorted.0, names_ascend keys sorted.1)

  names_put : (keys : List Key) (l : Lnam)
      → list_in (value_of identity_order (flat_map (names_row names) keys) l) ≡ cond (list_any (same_key (Foid l)) keys) (names l) []
  names_put [] l = refl
  names_put (Name m ∷ keys) l = names_put keys l
  names_put (Refs m ∷ keys) l = names_put keys l
  names_put (Foid m ∷ keys) l = with_first identity_order total_identities exact_identities names m l _ _ (names_put keys l)

-- the lists of the keys are put, and there were no others
pub all_put : (keys : List Key) (refs : RecName → List Ref) (names : Lnam → List RecName) (now : List (RecName × List Ref)) (held : List (Lnam × List RecName))
    → now ≡ flat_map (refs_row refs) keys → held ≡ flat_map (names_row names) keys → ArePut keys refs names [] now [] held
all_put keys refs names now held pointers bearers = record {
  pointers_are = λ n. ap (λ rows. list_in (value_of name_order rows n)) pointers ∙ refs_put refs keys n;
  bearers_are = λ l. ap (λ rows. list_in (value_of identity_order rows l)) bearers ∙ names_put names keys l;
}
