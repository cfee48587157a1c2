-- Lists that are put by key.
use Rattle.std.proofs.Common.{◌≡◌, subst, Bool, true, false, List, [], ◌∷◌, ◌++◌, Option, None, Some, cond, refl, sym, ap, ◌∙◌}
use Rattle.std.specs.List.{list_any}
use Rattle.std.specs.Cmp.{IsTotalOrder}
use Rattle.std.specs.Ordering.{is_eq}
use Rattle.std.specs.declared.cmp.Ordering.{Ordering}
use Rattle.s57_types.specs.declared.name.RecName.{RecName}
use Rattle.s57_types.specs.declared.name.Lnam.{Lnam}
use Rattle.cell_spec.specs.declared.key.Key.{Key}
use Rattle.cell_spec.specs.declared.key.Key.TheVariants.{Refs, Foid}
use Rattle.cell_spec.specs.declared.key.Ref.{Ref}
use Rattle.cell_spec.specs.Names.{identity_order, name_order, same_key}
use Rattle.cell_spec.proofs.Orders.{exact_identities, exact_names, total_identities, total_names}
use Rattle.edit_answers.proofs.KeyByKey.{one_more, other_key}
use Rattle.row_spec.specs.Rows.{IsAscending, value_of, with_row, without_key}
use Rattle.row_spec.proofs.Changes.{value_of-with_row, value_of-without_key}
use Rattle.record_store.specs.Stores.{ArePut, ListIsPut, list_in}

module _ {K X : Type 0} (cmp : K → K → Ordering) (total : IsTotalOrder cmp) (rows : List (K × List X)) (key : K) (items : List X) where
  put_here : (hit : Bool) (o : Option (List X)) → list_in (cond hit (Some items) o) ≡ cond hit items (list_in o)
  put_here true o = refl
  put_here false o = refl

  pub list_put : ListIsPut cmp key items rows (with_row cmp rows key items)
  list_put k = ap list_in (value_of-with_row cmp total rows key k items) ∙ put_here (is_eq (cmp key k)) (value_of cmp rows k)

  gone_here : items ≡ [] → (hit : Bool) (o : Option (List X)) → list_in (cond hit None o) ≡ cond hit items (list_in o)
  gone_here none true o = sym none
  gone_here none false o = refl

  -- an empty list isn't kept
  pub list_gone : items ≡ [] → IsAscending cmp rows → ListIsPut cmp key items rows (without_key cmp rows key)
  list_gone none ascending k = ap list_in (value_of-without_key cmp total rows key k ascending) ∙ gone_here none (is_eq (cmp key k)) (value_of cmp rows k)

module _ (keys : List Key) (refs : RecName → List Ref) (names : Lnam → List RecName) (pointers now : List (RecName × List Ref))
    (bearers held : List (Lnam × List RecName))
    (put : ArePut keys refs names pointers now bearers held) where
  pointers_stay : (key : Key) → ((m : RecName) → same_key (Refs m) key ≡ false) → (m : RecName)
      → list_in (value_of name_order now m) ≡ cond (list_any (same_key (Refs m)) (keys ++ key ∷ [])) (refs m) (list_in (value_of name_order pointers m))
  pointers_stay = other_key Refs keys refs (λ m. list_in (value_of name_order pointers m)) (λ m. list_in (value_of name_order now m)) put.pointers_are

  bearers_stay : (key : Key) → ((l : Lnam) → same_key (Foid l) key ≡ false) → (l : Lnam)
      → list_in (value_of identity_order held l) ≡ cond (list_any (same_key (Foid l)) (keys ++ key ∷ [])) (names l)
      (list_in (value_of identity_order bearers l))
  bearers_stay = other_key Foid keys names (λ l. list_in (value_of identity_order bearers l)) (λ l. list_in (value_of identity_order held l)) put.bearers_are

  pointers_with : (n : RecName) (next : List (RecName × List Ref)) → ListIsPut name_order n (refs n) now next
      → ArePut (keys ++ Refs n ∷ []) refs names pointers next bearers held
  pointers_with n next is = record {
    pointers_are = one_more Refs keys refs (λ m. list_in (value_of name_order pointers m)) (λ m. list_in (value_of name_order now m)) put.pointers_are
        name_order total_names exact_names (λ m k. refl) n (λ m. list_in (value_of name_order next m)) is;
    bearers_are = bearers_stay (Refs n) (λ l. refl);
  }

  bearers_with : (l : Lnam) (next : List (Lnam × List RecName)) → ListIsPut identity_order l (names l) held next
      → ArePut (keys ++ Foid l ∷ []) refs names pointers now bearers next
  bearers_with l next is = record {
    pointers_are = pointers_stay (Foid l) (λ m. refl);
    bearers_are = one_more Foid keys names (λ k. list_in (value_of identity_order bearers k)) (λ k. list_in (value_of identity_order held k)) put.bearers_are
        identity_order total_identities exact_identities (λ j k. refl) l (λ k. list_in (value_of identity_order next k)) is;
  }

  -- the list of a key is put, and the lists of the other kind are as they were
  pub pointers_put : (n : RecName) (key : Key) → key ≡ Refs n → (list : List Ref) → list ≡ refs n → (next : List (RecName × List Ref))
      (others : List (Lnam × List RecName)) → others ≡ held → ListIsPut name_order n list now next
      → ArePut (keys ++ key ∷ []) refs names pointers next bearers others
  pointers_put n key at list value next others same is =
      subst (λ k. ArePut (keys ++ k ∷ []) refs names pointers next bearers others) (sym at)
      (subst (ArePut (keys ++ Refs n ∷ []) refs names pointers next bearers) (sym same)
      (pointers_with n next (subst (λ items. ListIsPut name_order n items now next) value is)))

  pub bearers_put : (l : Lnam) (key : Key) → key ≡ Foid l → (list : List RecName) → list ≡ names l → (next : List (Lnam × List RecName))
      (others : List (RecName × List Ref)) → others ≡ now → ListIsPut identity_order l list held next
      → ArePut (keys ++ key ∷ []) refs names pointers others bearers next
  bearers_put l key at list value next others same is =
      let put_in : List (RecName × List Ref) → Key → Type 0 = λ those k. ArePut (keys ++ k ∷ []) refs names pointers those bearers next in
      subst (put_in others) (sym at) (subst (λ those. put_in those (Foid l)) (sym same)
      (bearers_with l next (subst (λ items. ListIsPut identity_order l items held next) value is)))
