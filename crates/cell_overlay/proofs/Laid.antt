-- What merged lists answer, and how they are made.
use Rattle.std.proofs.Common.{◌≡◌, ℕ, ◌+◌, ◌≤◌, Bool, true, false, List, [], ◌∷◌, ◌++◌, Option, None, Some, cond, count_by, filter, length, refl}
use Rattle.std.proofs.Common.{sym, ap, ◌∙◌, arith}
use Rattle.std.specs.Cmp.{tied_itself}
use Rattle.std.specs.Prelude.{flat_map}
use Rattle.std.specs.List.{list_any}
use Rattle.std.proofs.lemmas.List.Sums.{count_by-le-length, length-filter}
use Rattle.cell_spec.proofs.Ascending.{holds-ascending}
use Rattle.std.specs.Ordering.{is_eq}
use Rattle.std.specs.declared.cmp.Ordering.{Ordering}
use Rattle.std.proofs.lemmas.Bool.{or_left}
use Rattle.std.proofs.lemmas.Option.{none-some, same_Some}
use Rattle.s57_types.specs.declared.name.RecName.{RecName}
use Rattle.s57_types.specs.declared.name.Lnam.{Lnam}
use Rattle.s57_types.specs.declared.record.Rec.{Rec}
use Rattle.s57_types.specs.declared.cell.Cell.{Cell}
use Rattle.s57_types.specs.Heads.{head_name}
use Rattle.cell_spec.specs.declared.edit.Edit.{Edit}
use Rattle.cell_spec.specs.declared.edit.Edit.TheVariants.{Add, Set, Del, Head}
use Rattle.cell_spec.specs.declared.key.Key.{Key}
use Rattle.cell_spec.specs.declared.key.Key.TheVariants.{Name, Refs, Foid}
use Rattle.cell_spec.specs.declared.key.Ref.{Ref}
use Rattle.cell_spec.specs.Edits.{apply_edits, edit_of, keys_of_edit, name_of_edit, touched_keys}
use Rattle.cell_spec.specs.Lookup.{lookup_identity, lookup_pointers, lookup_record}
use Rattle.cell_spec.specs.Names.{identity_order, key_order, name_order, same_key, same_name}
use Rattle.cell_spec.proofs.Orders.{exact_identities, exact_keys, exact_names, total_identities, total_keys, total_names, one_when_same}
use Rattle.row_spec.specs.Rows.{value_of, with_row}
use Rattle.row_spec.proofs.Changes.{value_of-with_row}
use Rattle.edit_sets.specs.FormFault.{IsFormed}
use Rattle.answer_laws.specs.EditedAnswers.{EditedAnswers, UntouchedKeysKeepAnswers, bearers_after, pointers_after}
use Rattle.answer_laws.proofs.Among.{found}
use Rattle.edit_answers.proofs.KeyByKey.{one_more, other_key}
use Rattle.edit_answers.specs.Named.{EditsLeaveTheirRecords, answered_by}
use Rattle.cell_overlay.specs.Laid.{AreMerged, IsLaidOver, has_a_list, head_left, left_under}

-- ---- making them
module _ (edits : List Edit) (c : Cell) (keys : List Key) (pointers : List (RecName × List Ref)) (bearers : List (Lnam × List RecName))
    (merged : AreMerged keys edits c pointers bearers) where
  abbrev pointers_then : RecName → Option (List Ref)
  pointers_then m = Some (pointers_after edits m (lookup_pointers c m))

  abbrev bearers_then : Lnam → Option (List RecName)
  bearers_then l = Some (bearers_after edits l (lookup_identity c l))

  pointers_stay : (key : Key) → ((m : RecName) → same_key (Refs m) key ≡ false) → (m : RecName) → value_of name_order pointers m
      ≡ cond (list_any (same_key (Refs m)) (keys ++ key ∷ [])) (pointers_then m) None
  pointers_stay = other_key Refs keys pointers_then (λ m. None) (λ m. value_of name_order pointers m) merged.pointers_are

  bearers_stay : (key : Key) → ((l : Lnam) → same_key (Foid l) key ≡ false) → (l : Lnam)
      → value_of identity_order bearers l ≡ cond (list_any (same_key (Foid l)) (keys ++ key ∷ [])) (bearers_then l) None
  bearers_stay = other_key Foid keys bearers_then (λ l. None) (λ l. value_of identity_order bearers l) merged.bearers_are

  pub with_pointers : (n : RecName) → AreMerged (keys ++ Refs n ∷ []) edits c
      (with_row name_order pointers n (pointers_after edits n (lookup_pointers c n))) bearers
  with_pointers n =
      let list = pointers_after edits n (lookup_pointers c n) in
      let rows = with_row name_order pointers n list in
      record {
        pointers_are = one_more Refs keys pointers_then (λ m. None) (λ m. value_of name_order pointers m) merged.pointers_are
            name_order total_names exact_names (λ m k. refl) n (λ m. value_of name_order rows m)
            (λ m. value_of-with_row name_order total_names pointers n m list);
        bearers_are = bearers_stay (Refs n) (λ l. refl);
      }

  pub with_bearers : (l : Lnam) → AreMerged (keys ++ Foid l ∷ []) edits c pointers
      (with_row identity_order bearers l (bearers_after edits l (lookup_identity c l)))
  with_bearers l =
      let list = bearers_after edits l (lookup_identity c l) in
      record {
        pointers_are = pointers_stay (Foid l) (λ m. refl);
        bearers_are = one_more Foid keys bearers_then (λ k. None) (λ k. value_of identity_order bearers k) merged.bearers_are
            identity_order total_identities exact_identities (λ j k. refl) l (λ k. value_of identity_order (with_row identity_order bearers l list) k)
            (λ k. value_of-with_row identity_order total_identities bearers l k list);
      }

-- ---- how many there are
-- of keys that have a name's the lists are fewer
fewer : (n : RecName) (keys : List Key) → list_any (same_key (Name n)) keys ≡ true → length (filter has_a_list keys) + 1 ≤ length keys
fewer n [] held = absurd cc
fewer n (Name m ∷ keys) held = omega (arith, length-filter has_a_list keys, count_by-le-length has_a_list keys)
fewer n (Refs m ∷ keys) held = let rest = fewer n keys held in omega (arith, rest)
fewer n (Foid l ∷ keys) held = let rest = fewer n keys held in omega (arith, rest)

-- the name of an edit is touched
name_touched : (edit : Edit) (edits : List Edit) (c : Cell) → list_any (same_key (Name (name_of_edit edit))) (touched_keys (edit ∷ edits) c) ≡ true
unfolding touched_keys
name_touched edit edits c =
    holds-ascending key_order exact_keys (Name (name_of_edit edit)) (flat_map (keys_of_edit c) (edit ∷ edits))
    ∙ or_left _ _ (ap is_eq (tied_itself total_keys (Name (name_of_edit edit))))

-- where there is an edit, not all touched keys have lists
pub fewer_lists : (nall : ℕ) (edits : List Edit) (guards : List RecName) (c : Cell) → IsFormed nall edits guards → {keys : List Key}
    → keys ≡ touched_keys edits c → count_by has_a_list keys + 1 ≤ length (touched_keys edits c)
fewer_lists nall [] guards c formed is = absurd (omega (arith, formed.some))
fewer_lists nall (edit ∷ edits) guards c formed {keys} is =
    let all = touched_keys (edit ∷ edits) c in
    let less : length (filter has_a_list all) + 1 ≤ length all = fewer (name_of_edit edit) all (name_touched edit edits c) in
    omega (arith, less, length-filter has_a_list all, ap (count_by has_a_list) is)

-- ---- what they answer
module _ (c : Cell) (edits : List Edit) (head : Option Rec) (pointers : List (RecName × List Ref)) (bearers : List (Lnam × List RecName))
    (laid : IsLaidOver c edits head pointers bearers) where
  merged_by : {X : Type 0} (flag : Bool) (x after : X) → Some x ≡ cond flag (Some after) None → x ≡ after
  merged_by true x after is = same_Some x after is
  merged_by false x after is = absurd (none-some x (sym is))

  base_by : {X : Type 0} (flag : Bool) (x : X) → None ≡ cond flag (Some x) None → flag ≡ false
  base_by true x is = absurd (none-some x is)
  base_by false x is = refl

  -- a list that is there is what the edits leave, and where there is none, no edit touches its key
  module _ {K V : Type 0} (order : K → K → Ordering) (lists : List (K × V)) (key : K → Key) (after : K → V)
      (are : (k : K) → value_of order lists k ≡ cond (list_any (same_key (key k)) (touched_keys edits c)) (Some (after k)) None) (k : K) where
    in_list : (v : V) → Some v ≡ value_of order lists k → v ≡ after k
    in_list v is = merged_by (list_any (same_key (key k)) (touched_keys edits c)) v (after k) (is ∙ are k)

    in_none : None ≡ value_of order lists k → list_any (same_key (key k)) (touched_keys edits c) ≡ false
    in_none is = base_by (list_any (same_key (key k)) (touched_keys edits c)) (after k) (is ∙ are k)

  pub merged_pointers : EditedAnswers → (n : RecName) (refs : List Ref) → Some refs ≡ value_of name_order pointers n
      → refs ≡ lookup_pointers (apply_edits edits c) n
  merged_pointers answers n refs is =
      in_list name_order pointers Refs (λ m. pointers_after edits m (lookup_pointers c m)) laid.merged.pointers_are n refs is
      ∙ sym ((answers edits c laid.found).pointers n)

  pub base_pointers : UntouchedKeysKeepAnswers → (n : RecName) → None ≡ value_of name_order pointers n
      → lookup_pointers c n ≡ lookup_pointers (apply_edits edits c) n
  base_pointers untouched n is =
      let after : RecName → List Ref = λ m. pointers_after edits m (lookup_pointers c m) in
      untouched edits c laid.found (Refs n) (in_none name_order pointers Refs after laid.merged.pointers_are n is)

  pub base_bearers : UntouchedKeysKeepAnswers → (l : Lnam) → None ≡ value_of identity_order bearers l
      → lookup_identity c l ≡ lookup_identity (apply_edits edits c) l
  base_bearers untouched l is =
      let after : Lnam → List RecName = λ k. bearers_after edits k (lookup_identity c k) in
      untouched edits c laid.found (Foid l) (in_none identity_order bearers Foid after laid.merged.bearers_are l is)

  pub merged_bearers : EditedAnswers → (l : Lnam) (names : List RecName) → Some names ≡ value_of identity_order bearers l
      → names ≡ lookup_identity (apply_edits edits c) l
  merged_bearers answers l names is =
      in_list identity_order bearers Foid (λ k. bearers_after edits k (lookup_identity c k)) laid.merged.bearers_are l names is
      ∙ sym ((answers edits c laid.found).identities l)

  left_by_edit : (n : RecName) (e : Edit) → edit_of n edits ≡ Some e → answered_by c.head (lookup_record c n) (Some e) ≡ left_under head e
  left_by_edit n (Add r) is = refl
  left_by_edit n (Set r) is = refl
  left_by_edit n (Del m) is = refl
  left_by_edit n (Head e) is =
      let own : n ≡ head_name = sym (one_when_same head_name n (found (λ edit. same_name (name_of_edit edit) n) edits (Head e) is).passes) in
      sym (laid.head_is ∙ ap (λ m. head_left c.head (edit_of m edits)) (sym own) ∙ ap (head_left c.head) is)

  pub left_named : EditsLeaveTheirRecords → (n : RecName) (e : Edit) → Some e ≡ edit_of n edits → left_under head e ≡ lookup_record (apply_edits edits c) n
  left_named leave n e is =
      sym ((leave edits c laid.found).answered n ∙ ap (answered_by c.head (lookup_record c n)) (sym is) ∙ left_by_edit n e (sym is))

  pub base_named : EditsLeaveTheirRecords → (n : RecName) → None ≡ edit_of n edits → lookup_record c n ≡ lookup_record (apply_edits edits c) n
  base_named leave n is = sym ((leave edits c laid.found).answered n ∙ ap (answered_by c.head (lookup_record c n)) (sym is))
