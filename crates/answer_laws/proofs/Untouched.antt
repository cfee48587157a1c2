-- A key that edits don't touch keeps its answer.
use Rattle.std.proofs.Common.{◌≡◌, inl, inr, ℕ, ◌+◌, Bool, true, false, ◌||◌, ◌&&◌, List, [], ◌∷◌, ◌++◌, Option, None, Some, cond, map, filter, refl, sym}
use Rattle.std.proofs.Common.{ap, ◌∙◌, subst}
use Rattle.std.specs.Prelude.{filter_map, flat_map, not, option_to_list}
use Rattle.std.specs.List.{list_any, enumerate_from}
use Rattle.std.specs.Ordering.{is_eq}
use Rattle.std.specs.Cmp.{eq_by_cmp_equiv}
use Rattle.std.proofs.lemmas.Bool.{and_parts, both_ways as contradiction, false_from_ne_true, or_right}
use Rattle.std.proofs.lemmas.List.Folds.{list_any-append}
use Rattle.s57_types.specs.declared.name.RecName.{RecName}
use Rattle.s57_types.specs.declared.name.Lnam.{Lnam}
use Rattle.s57_types.specs.declared.record.Rec.{Rec}
use Rattle.s57_types.specs.declared.record.Rec.TheVariants.{V, F, H}
use Rattle.s57_types.specs.declared.cell.Cell.{Cell}
use Rattle.s57_types.specs.Heads.{head_name}
use Rattle.cell_spec.specs.declared.edit.Edit.{Edit}
use Rattle.cell_spec.specs.declared.key.Key.{Key}
use Rattle.cell_spec.specs.declared.key.Key.TheVariants.{Name, Refs, Foid}
use Rattle.cell_spec.specs.declared.key.Ref.{Ref}
use Rattle.cell_spec.specs.Ascending.{order_by}
use Rattle.cell_spec.specs.Edits.{name_of_edit, left_by, edit_of, head_by, keys_of_edit, keys_answered_by, touched_keys, apply_edits}
use Rattle.cell_spec.specs.Lookup.{all_records, head_and_records, name_of, is_named, targets_of, identities_of, bears, pointers_in, lookup_record}
use Rattle.cell_spec.specs.Lookup.{lookup_pointers, lookup_identity}
use Rattle.cell_spec.specs.Names.{key_order, ref_order, name_order, identity_parts, same_name}
use Rattle.cell_spec.proofs.Ascending.{holds, holds-ascending, sorted-ascending, same_when_sorted}
use Rattle.cell_spec.proofs.Orders.{names_tie, identities_tie, one_when_same, total_refs, exact_refs, total_names, exact_names, exact_keys, same_from_either}
use Rattle.cell_spec.proofs.Orders.{total_identities}
use Rattle.cell_spec.specs.AnswersAlike.{AnswerAlike}
use Rattle.answer_laws.specs.EditedAnswers.{FindTheirRecords, is_unedited, edited_answer, is_touched, record_after}
use Rattle.answer_laws.proofs.Among.{Among, passing, any_passes, in_back, origin, found, found_only, one_of_name}
use Rattle.answer_laws.proofs.EditedNames.{record_is}
use Rattle.answer_laws.proofs.FreeNames.{IsFree, no_edit, nothing_added, record_stays}
use Rattle.answer_laws.proofs.EditedPointers.{held as pointed, held_after as pointed_after, pointer_at, points, points_from}
use Rattle.answer_laws.proofs.EditedBearers.{bears_as, bears_under, held as borne, held_after as borne_after}
use Rattle.answer_laws.proofs.Tests.{any_flat}

-- ---- keys
same_rank : (n m : RecName) → is_eq (key_order (Name n) (Name m)) ≡ is_eq (name_order n m)
same_rank n m = refl

same_refs : (n m : RecName) → is_eq (key_order (Refs n) (Refs m)) ≡ is_eq (name_order n m)
same_refs n m = refl

same_foid : (l k : Lnam) → is_eq (key_order (Foid l) (Foid k)) ≡ is_eq (order_by identity_parts l k)
same_foid l k = refl

-- the records that an edit finds and leaves
abbrev records_of : Cell → Edit → List Rec
records_of c e = option_to_list (lookup_record c (name_of_edit e)) ++ option_to_list (left_by e)

module _ (edits : List Edit) (c : Cell) (k : Key) (clear : is_touched edits c k ≡ false) where
  -- no edit touches the key
  untouched_by : (e : Edit) → Among e edits → holds key_order k (keys_of_edit c e) ≡ true → ⊥
  unfolding touched_keys
  untouched_by e at hit =
      let held : holds key_order k (flat_map (keys_of_edit c) edits) ≡ true =
      any_flat (λ j. is_eq (key_order k j)) (keys_of_edit c) edits ∙ any_passes (λ x. holds key_order k (keys_of_edit c x)) e edits at hit in
      contradiction (is_touched edits c k) clear (holds-ascending key_order exact_keys k (flat_map (keys_of_edit c) edits) ∙ held)

  -- what a record answers that an edit finds, or leaves, is touched
  by_record : (e : Edit) (r : Rec) → Among e edits → Among r (records_of c e) → holds key_order k (keys_answered_by r) ≡ true → ⊥
  by_record e r at stands hit =
      let answered : holds key_order k (flat_map keys_answered_by (records_of c e)) ≡ true =
      any_flat (λ j. is_eq (key_order k j)) keys_answered_by (records_of c e)
      ∙ any_passes (λ x. holds key_order k (keys_answered_by x)) r (records_of c e) stands hit in
      untouched_by e at (or_right (is_eq (key_order k (Name (name_of_edit e)))) (holds key_order k (flat_map keys_answered_by (records_of c e))) answered)

  by_old : (e : Edit) (r : Rec) → Among e edits → lookup_record c (name_of_edit e) ≡ Some r → holds key_order k (keys_answered_by r) ≡ true → ⊥
  by_old e r at is hit = by_record e r at (subst (λ o. Among r (option_to_list o ++ option_to_list (left_by e))) (sym is) (inl refl)) hit

  by_new : (e : Edit) (r : Rec) → Among e edits → left_by e ≡ Some r → holds key_order k (keys_answered_by r) ≡ true → ⊥
  by_new e r at is hit =
      by_record e r at (in_back r (option_to_list (lookup_record c (name_of_edit e))) (option_to_list (left_by e))
      (subst (λ o. Among r (option_to_list o)) (sym is) (inl refl))) hit

-- ---- a name
module _ (edits : List Edit) (c : Cell) (fit : FindTheirRecords edits c) (n : RecName) (clear : is_touched edits c (Name n) ≡ false) where
  unnamed : (e : Edit) → Among e edits → same_name (name_of_edit e) n ≡ true → ⊥
  unnamed e at named =
      let ties : is_eq (key_order (Name n) (Name (name_of_edit e))) ≡ true = same_rank n (name_of_edit e) ∙ names_tie n (name_of_edit e) ∙ named in
      untouched_by edits c (Name n) clear e at (ap (λ b. b || holds key_order (Name n) (flat_map keys_answered_by (records_of c e))) ties)

  free : IsFree edits n
  free e at = false_from_ne_true (same_name (name_of_edit e) n) (unnamed e at)

  old_kept : (r : Rec) → same_name n (name_of r) ≡ true → edited_answer edits r ≡ Some r
  old_kept (H h) named = ap (λ e. Some (H (head_by h e))) (ap (λ m. edit_of m edits) (sym (one_when_same n head_name named)) ∙ no_edit edits n free)
  old_kept r named = record_stays edits n free r named

  name_by : (o : Option Rec) → lookup_record c n ≡ o → record_after edits n o ≡ o
  name_by None is = nothing_added edits n free
  name_by (Some r) is = old_kept r (found (is_named n) (head_and_records c) r is).passes

  name_kept_after : lookup_record c n ≡ lookup_record (apply_edits edits c) n
  name_kept_after = sym (record_is edits c fit n ∙ name_by (lookup_record c n) refl)

-- ---- pointers
-- the pointers to a name among the targets of a record from a place on
abbrev pointers_among : RecName → RecName → ℕ → List RecName → List Ref
pointers_among n from first ts = map (pointer_at from) (filter (λ (p : ℕ × RecName). same_name n p.1) (enumerate_from first ts))

-- a pointer to a name is of a record that has it among its targets
target_by : (q : Ref) (from : RecName) (first : ℕ) (n t : RecName) (b : Bool) (later : Bool) (rest : List (ℕ × RecName)) → same_name n t ≡ b
    → (holds ref_order q (map (pointer_at from) rest) ≡ true → later ≡ true)
    → holds ref_order q (map (pointer_at from) (cond b ((first, t) ∷ rest) rest)) ≡ true → (b || later) ≡ true
target_by q from first n t true later rest is go e = refl
target_by q from first n t false later rest is go e = go e

target_of : (q : Ref) (from n : RecName) (first : ℕ) (ts : List RecName) → holds ref_order q (pointers_among n from first ts) ≡ true
    → list_any (same_name n) ts ≡ true
target_of q from n first [] e = cc
target_of q from n first (t ∷ ts) e =
    target_by q from first n t (same_name n t) (list_any (same_name n) ts) (filter (λ (p : ℕ × RecName). same_name n p.1) (enumerate_from (first + 1) ts)) refl
    (target_of q from n (first + 1) ts) e

any_refs : (n : RecName) (ts : List RecName) → holds key_order (Refs n) (map Refs ts) ≡ list_any (same_name n) ts
any_refs n [] = refl
any_refs n (t ∷ ts) = λ i. (same_refs n t ∙ names_tie n t ∙ same_from_either t n) i || any_refs n ts i

-- what a record points to is a key that it answers
answers_refs : (q : Ref) (n : RecName) (r : Rec) → points q n r ≡ true → holds key_order (Refs n) (keys_answered_by r) ≡ true
answers_refs q n r e =
    list_any-append (λ j. is_eq (key_order (Refs n) j)) (map Refs (targets_of r)) (map Foid (identities_of r))
    ∙ ap (λ b. b || holds key_order (Refs n) (map Foid (identities_of r))) (any_refs n (targets_of r) ∙ target_of q (name_of r) n 1 (targets_of r) e)

-- ---- identifiers
answers_foid : (l : Lnam) (r : Rec) → bears l r ≡ true → holds key_order (Foid l) (keys_answered_by r) ≡ true
answers_foid l (V v) e = cc
answers_foid l (H h) e = cc
answers_foid l (F f) e =
    list_any-append (λ j. is_eq (key_order (Foid l) j)) (map Refs (targets_of (F f))) (Foid f.foid ∷ [])
    ∙ or_right (list_any (λ j. is_eq (key_order (Foid l) j)) (map Refs (targets_of (F f)))) (is_eq (key_order (Foid l) (Foid f.foid)) || false)
    (ap (λ b. b || false) (same_foid l f.foid ∙ (eq_by_cmp_equiv total_identities).symm l f.foid ∙ identities_tie f.foid l ∙ e))

module _ (edits : List Edit) (c : Cell) (fit : FindTheirRecords edits c) where
  abbrev d : Cell
  d = apply_edits edits c

  -- an edit of a record's name finds that record
  finds_it : (r : Rec) → Among r (all_records c) → (e : Edit) → same_name (name_of_edit e) (name_of r) ≡ true → lookup_record c (name_of_edit e) ≡ Some r
  finds_it r at e named =
      found_only (is_named (name_of_edit e)) (head_and_records c) r (inr at) named (λ s there tie.
      one_of_name same_name same_from_either name_of (head_and_records c) fit.names s r there (inr at)
      (ap (λ m. same_name m (name_of r)) (sym (one_when_same (name_of_edit e) (name_of s) tie)) ∙ named))

  -- a record that answers an untouched key isn't edited
  free_by : (k : Key) → is_touched edits c k ≡ false → (r : Rec) → Among r (all_records c) → holds key_order k (keys_answered_by r) ≡ true
      → is_unedited edits (name_of r) ≡ true
  free_by k clear r at answers = ap not (false_from_ne_true (list_any (λ edit. same_name (name_of_edit edit) (name_of r)) edits) (λ some.
      let hit = passing (λ edit. same_name (name_of_edit edit) (name_of r)) edits some in
      by_old edits c k clear hit.item r hit.among (finds_it r at hit.item hit.passes) answers))

  -- no record that edits leave answers an untouched key
  none_left : (k : Key) → is_touched edits c k ≡ false → (p : Rec → Bool) → ((r : Rec) → p r ≡ true → holds key_order k (keys_answered_by r) ≡ true)
      → list_any p (filter_map left_by edits) ≡ false
  none_left k clear p answers = false_from_ne_true (list_any p (filter_map left_by edits)) (λ some.
      let hit = passing p (filter_map left_by edits) some in
      let from = origin left_by hit.item edits hit.among in
      by_new edits c k clear from.item hit.item from.among from.gives (answers hit.item hit.passes))

  kept_tests : (free some left : Bool) → left ≡ false → (some ≡ true → free ≡ true) → ((free && some) || left) ≡ some
  kept_tests free some true none h = cc
  kept_tests true true false none h = refl
  kept_tests false true false none h = h refl
  kept_tests true false false none h = refl
  kept_tests false false false none h = refl

  -- what records answer to an untouched key stays, where the test tells the name of the record
  answer_stays : (k : Key) → is_touched edits c k ≡ false → (p : Rec → Bool) (n : RecName)
      → ((r : Rec) → p r ≡ true → holds key_order k (keys_answered_by r) ≡ true)
      → ((r : Rec) → p r ≡ true → n ≡ name_of r)
      → ((is_unedited edits n && list_any p (all_records c)) || list_any p (filter_map left_by edits)) ≡ list_any p (all_records c)
  answer_stays k clear p n answers named =
      kept_tests (is_unedited edits n) (list_any p (all_records c)) (list_any p (filter_map left_by edits)) (none_left k clear p answers) (λ some.
      let hit = passing p (all_records c) some in
      ap (is_unedited edits) (named hit.item hit.passes) ∙ free_by k clear hit.item hit.among (answers hit.item hit.passes))

  pointers_kept : (n : RecName) → is_touched edits c (Refs n) ≡ false → lookup_pointers c n ≡ lookup_pointers d n
  pointers_kept n clear =
      same_when_sorted ref_order total_refs exact_refs (lookup_pointers c n) (lookup_pointers d n)
      (sorted-ascending ref_order total_refs (flat_map (pointers_in n) (all_records c)))
      (sorted-ascending ref_order total_refs (flat_map (pointers_in n) (all_records d)))
      (λ q. pointed c n q ∙ sym (pointed_after edits c fit n q ∙ answer_stays (Refs n) clear (points q n) q.from (answers_refs q n) (points_from q n)))

  bearers_kept : (l : Lnam) → is_touched edits c (Foid l) ≡ false → lookup_identity c l ≡ lookup_identity d l
  bearers_kept l clear =
      same_when_sorted name_order total_names exact_names (lookup_identity c l) (lookup_identity d l)
      (sorted-ascending name_order total_names (map name_of (filter (bears l) (all_records c))))
      (sorted-ascending name_order total_names (map name_of (filter (bears l) (all_records d))))
      (λ q.
      let answers : (r : Rec) → bears_as q l r ≡ true → holds key_order (Foid l) (keys_answered_by r) ≡ true =
      λ r e. answers_foid l r (and_parts (bears l r) (is_eq (name_order q (name_of r))) e).0 in
      borne c l q ∙ sym (borne_after edits c fit l q ∙ answer_stays (Foid l) clear (bears_as q l) q answers (bears_under q l)))

  pub answer_kept : (k : Key) → is_touched edits c k ≡ false → AnswerAlike c d k
  answer_kept (Name n) clear = name_kept_after edits c fit n clear
  answer_kept (Refs n) clear = pointers_kept n clear
  answer_kept (Foid l) clear = bearers_kept l clear
