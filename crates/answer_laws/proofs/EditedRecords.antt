-- Which records a cell has after edits.
use Rattle.std.proofs.Common.{◌≡◌, ℕ, inl, inr, Bool, true, false, ◌||◌, ◌&&◌, List, [], ◌∷◌, ◌++◌, Option, None, Some, cond, find, filter, is_some, refl}
use Rattle.std.proofs.Common.{sym, ap, ◌∙◌, subst}
use Rattle.std.specs.Prelude.{filter_map, not, IsPermutation}
use Rattle.std.specs.List.{IsDistinct, list_all, list_any}
use Rattle.std.specs.Cmp.{both_ways}
use Rattle.std.proofs.lemmas.Bool.{and_parts, both_ways as contradiction, or_cases, or_left, or_right}
use Rattle.std.proofs.lemmas.List.{append_assoc}
use Rattle.std.proofs.lemmas.List.Folds.{list_any-append}
use Rattle.std.proofs.lemmas.List.Sorted.{IsPermutation-append, IsPermutation-append_comm, IsPermutation-cons, IsPermutation-middle, IsPermutation-refl}
use Rattle.std.proofs.lemmas.List.Sorted.{IsPermutation-trans, list_any-IsPermutation}
use Rattle.std.proofs.lemmas.List.Elements.{filter_map-append}
use Rattle.s57_types.specs.declared.name.Kind.{Kind}
use Rattle.s57_types.specs.declared.name.Kind.TheVariants.{Vi, Vc, Ve, Fe, Head as HeadKind}
use Rattle.s57_types.specs.declared.record.Rec.{Rec}
use Rattle.s57_types.specs.declared.cell.Cell.{Cell}
use Rattle.s57_types.specs.Heads.{head_name}
use Rattle.cell_spec.specs.declared.edit.Edit.{Edit}
use Rattle.cell_spec.specs.declared.edit.Edit.TheVariants.{Add, Set, Del, Head}
use Rattle.cell_spec.specs.Edits.{name_of_edit, added_by, left_by, changed_by, edited_record, apply_edits, has_its_record}
use Rattle.cell_spec.specs.Lookup.{all_records, name_of, is_named, listed_record}
use Rattle.cell_spec.specs.Names.{same_name, is_of_kind}
use Rattle.cell_spec.specs.Writable.{HaveDistinctNames}
use Rattle.cell_spec.proofs.Orders.{one_when_same, same_from_either}
use Rattle.answer_laws.specs.EditedAnswers.{FindTheirRecords, has_a_list, is_unedited}
use Rattle.answer_laws.proofs.Among.{Among, passing, any_passes, origin, among_mapped, found, none_found, each_passes, one_of_name, no_tie, found_only}

-- ---- the records of the edited lists
abbrev pub changed_in : List Edit → List Rec → List Rec
changed_in edits rs = filter_map (edited_record edits) rs

abbrev of_kind : Kind → List Rec → List Rec
of_kind kind rs = filter (λ r. is_of_kind kind (name_of r)) rs

same_moved : (xs ys : List Rec) → xs ≡ ys → IsPermutation xs ys
same_moved xs ys same = subst (IsPermutation xs) same (IsPermutation-refl xs)

-- two lists that each go on are the two and what they go on with
crossed : (a x b y : List Rec) → IsPermutation ((a ++ x) ++ (b ++ y)) ((a ++ b) ++ (x ++ y))
crossed a x b y =
    let apart : (a ++ x) ++ (b ++ y) ≡ a ++ ((x ++ b) ++ y) = append_assoc a x (b ++ y) ∙ ap (λ rest. a ++ rest) (sym (append_assoc x b y)) in
    let swapped : IsPermutation ((x ++ b) ++ y) ((b ++ x) ++ y) =
    IsPermutation-append (x ++ b) (b ++ x) y y (IsPermutation-append_comm x b) (IsPermutation-refl y) in
    let joined : a ++ ((b ++ x) ++ y) ≡ (a ++ b) ++ (x ++ y) = ap (λ rest. a ++ rest) (append_assoc b x y) ∙ sym (append_assoc a b (x ++ y)) in
    subst (λ rs. IsPermutation rs ((a ++ b) ++ (x ++ y))) (sym apart)
    (subst (IsPermutation (a ++ ((x ++ b) ++ y))) joined (IsPermutation-append a a ((x ++ b) ++ y) ((b ++ x) ++ y) (IsPermutation-refl a) swapped))

-- so four lists that each go on
crossed_next : (front olds news b y : List Rec) → IsPermutation front (olds ++ news) → IsPermutation (front ++ (b ++ y)) ((olds ++ b) ++ (news ++ y))
crossed_next front olds news b y so_far =
    IsPermutation-trans (front ++ (b ++ y)) ((olds ++ news) ++ (b ++ y)) ((olds ++ b) ++ (news ++ y))
    (IsPermutation-append front (olds ++ news) (b ++ y) (b ++ y) so_far (IsPermutation-refl (b ++ y)))
    (crossed olds news b y)

-- a record stands in the list of its kind
by_kind : (k : Kind) (id : ℕ) (r : Rec) (vi vc ve fe rs : List Rec) → not (is_of_kind HeadKind (record { kind = k; id = id })) ≡ true
    → IsPermutation (vi ++ vc ++ ve ++ fe) rs
    → IsPermutation (cond (is_of_kind Vi (record { kind = k; id = id })) (r ∷ vi) vi ++ cond (is_of_kind Vc (record { kind = k; id = id })) (r ∷ vc) vc
    ++ cond (is_of_kind Ve (record { kind = k; id = id })) (r ∷ ve) ve ++ cond (is_of_kind Fe (record { kind = k; id = id })) (r ∷ fe) fe) (r ∷ rs)
by_kind Vi id r vi vc ve fe rs listed moved = IsPermutation-cons r (vi ++ vc ++ ve ++ fe) rs moved
by_kind Vc id r vi vc ve fe rs listed moved =
    let front : IsPermutation (vi ++ r ∷ vc ++ ve) (r ∷ (vi ++ vc) ++ ve) =
    IsPermutation-append (vi ++ r ∷ vc) (r ∷ (vi ++ vc)) ve ve (IsPermutation-middle vi r vc) (IsPermutation-refl ve) in
    IsPermutation-trans (((vi ++ r ∷ vc) ++ ve) ++ fe) (r ∷ ((vi ++ vc) ++ ve) ++ fe) (r ∷ rs)
    (IsPermutation-append ((vi ++ r ∷ vc) ++ ve) (r ∷ (vi ++ vc) ++ ve) fe fe front (IsPermutation-refl fe))
    (IsPermutation-cons r (((vi ++ vc) ++ ve) ++ fe) rs moved)
by_kind Ve id r vi vc ve fe rs listed moved =
    IsPermutation-trans (((vi ++ vc) ++ r ∷ ve) ++ fe) (r ∷ ((vi ++ vc) ++ ve) ++ fe) (r ∷ rs)
    (IsPermutation-append ((vi ++ vc) ++ r ∷ ve) (r ∷ (vi ++ vc) ++ ve) fe fe (IsPermutation-middle (vi ++ vc) r ve) (IsPermutation-refl fe))
    (IsPermutation-cons r (((vi ++ vc) ++ ve) ++ fe) rs moved)
by_kind Fe id r vi vc ve fe rs listed moved =
    IsPermutation-trans (((vi ++ vc) ++ ve) ++ r ∷ fe) (r ∷ ((vi ++ vc) ++ ve) ++ fe) (r ∷ rs) (IsPermutation-middle ((vi ++ vc) ++ ve) r fe)
    (IsPermutation-cons r (((vi ++ vc) ++ ve) ++ fe) rs moved)
by_kind HeadKind id r vi vc ve fe rs listed moved = cc

kinds_moved : (rs : List Rec) → list_all has_a_list rs ≡ true → IsPermutation (of_kind Vi rs ++ of_kind Vc rs ++ of_kind Ve rs ++ of_kind Fe rs) rs
kinds_moved [] listed = IsPermutation-refl []
kinds_moved (r ∷ rs) listed =
    let both = and_parts (has_a_list r) (list_all has_a_list rs) listed in
    by_kind (name_of r).kind (name_of r).id r (of_kind Vi rs) (of_kind Vc rs) (of_kind Ve rs) (of_kind Fe rs) rs both.0 (kinds_moved rs both.1)

changed_lists : (edits : List Edit) (c : Cell)
    → changed_in edits (all_records c) ≡ changed_in edits c.vi ++ changed_in edits c.vc ++ changed_in edits c.ve ++ changed_in edits c.fe
changed_lists edits c =
    filter_map-append (edited_record edits) (c.vi ++ c.vc ++ c.ve) c.fe
    ∙ ap (λ rs. rs ++ changed_in edits c.fe)
    (filter_map-append (edited_record edits) (c.vi ++ c.vc) c.ve ∙ ap (λ rs. rs ++ changed_in edits c.ve) (filter_map-append (edited_record edits) c.vi c.vc))

-- the records of the edited cell are what edits make of the cell's, and the additions, in another order
pub records_moved : (edits : List Edit) (c : Cell) → list_all has_a_list (filter_map added_by edits) ≡ true
    → IsPermutation (all_records (apply_edits edits c)) (changed_in edits (all_records c) ++ filter_map added_by edits)
unfolding apply_edits
records_moved edits c placed =
    let new = filter_map added_by edits in
    let old : List Rec → List Rec = changed_in edits in
    let olds = old c.vi ++ old c.vc ++ old c.ve ++ old c.fe in
    let news = of_kind Vi new ++ of_kind Vc new ++ of_kind Ve new ++ of_kind Fe new in
    let four : IsPermutation (all_records (apply_edits edits c)) (olds ++ news) =
    crossed_next _ (old c.vi ++ old c.vc ++ old c.ve) (of_kind Vi new ++ of_kind Vc new ++ of_kind Ve new) (old c.fe) (of_kind Fe new)
    (crossed_next _ (old c.vi ++ old c.vc) (of_kind Vi new ++ of_kind Vc new) (old c.ve) (of_kind Ve new)
    (crossed (old c.vi) (of_kind Vi new) (old c.vc) (of_kind Vc new))) in
    IsPermutation-trans (all_records (apply_edits edits c)) (olds ++ news) (old (all_records c) ++ new) four
    (IsPermutation-append olds (old (all_records c)) news new (same_moved olds (old (all_records c)) (sym (changed_lists edits c))) (kinds_moved new placed))

-- a test over all records of the edited cell
pub any_edited : (p : Rec → Bool) (edits : List Edit) (c : Cell) → list_all has_a_list (filter_map added_by edits) ≡ true
    → list_any p (all_records (apply_edits edits c)) ≡ (list_any p (changed_in edits (all_records c)) || list_any p (filter_map added_by edits))
any_edited p edits c placed =
    let old = changed_in edits (all_records c) in
    let new = filter_map added_by edits in
    list_any-IsPermutation p (all_records (apply_edits edits c)) (old ++ new) (records_moved edits c placed) ∙ list_any-append p old new

-- ---- which edits leave them
edit_added : (e : Edit) (r : Rec) → added_by e ≡ Some r → left_by e ≡ Some r
edit_added (Add s) r h = h
edit_added (Set s) r h = cc
edit_added (Del n) r h = cc
edit_added (Head e) r h = cc

some_not : (o : Option Rec) (r : Rec) → o ≡ Some r → not (is_some o) ≡ true → ⊥
some_not None r e h = absurd cc
some_not (Some s) r e h = absurd cc

is_there : (o : Option Rec) → is_some o ≡ true → (r : Rec) × (o ≡ Some r)
is_there None h = cc
is_there (Some r) h = (r, refl)

-- the records have different names
pub names_listed : (edits : List Edit) (c : Cell) → FindTheirRecords edits c → HaveDistinctNames (all_records c)
unfolding IsDistinct
names_listed edits c fit = fit.names.1

-- none has the head's
pub no_head : (edits : List Edit) (c : Cell) → FindTheirRecords edits c → (r : Rec) → Among r (all_records c) → same_name head_name (name_of r) ≡ false
unfolding IsDistinct
no_head edits c fit r at = no_tie same_name name_of head_name r (all_records c) fit.names.0 at

module _ (p : Rec → Bool) (edits : List Edit) (c : Cell) (fit : FindTheirRecords edits c) where
  abbrev rs : List Rec
  rs = all_records c

  abbrev untouched : Rec → Bool
  untouched r = is_unedited edits (name_of r) && p r

  abbrev about : Rec → Edit → Bool
  about r = λ edit. same_name (name_of_edit edit) (name_of r)

  -- an addition's name isn't there
  pub not_new : (s r : Rec) (o : Option Rec) → listed_record c (name_of s) ≡ o → Among r rs → same_name (name_of s) (name_of r) ≡ true
      → not (is_some (listed_record c (name_of s))) ≡ true → ⊥
  not_new s r None is at named new =
      let none = none_found (is_named (name_of s)) rs is in let some = any_passes (is_named (name_of s)) r rs at named in absurd cc
  not_new s r (Some x) is at named new = some_not (listed_record c (name_of s)) x is new

  -- what an edited record is
  forth_by : (r y : Rec) (e : Option Edit) → Among r rs → find (about r) edits ≡ e → changed_by r e ≡ Some y → p y ≡ true
      → (list_any untouched rs || list_any p (filter_map left_by edits)) ≡ true
  forth_by r y None at is gives passes =
      let same : r ≡ y = cc in
      let free : is_unedited edits (name_of r) ≡ true = ap not (none_found (about r) edits is) in
      or_left _ _ (any_passes untouched r rs at ((λ i. free i && p (same i)) ∙ passes))
  forth_by r y (Some (Add s)) at is gives passes =
      let hit = found (about r) edits (Add s) is in
      let new : not (is_some (listed_record c (name_of s))) ≡ true = each_passes (has_its_record c) (Add s) edits fit.found hit.among in
      absurd (not_new s r (listed_record c (name_of s)) refl at hit.passes new)
  forth_by r y (Some (Set s)) at is gives passes =
      let hit = found (about r) edits (Set s) is in
      or_right _ _ (any_passes p y (filter_map left_by edits) (among_mapped left_by (Set s) y edits hit.among gives) passes)
  forth_by r y (Some (Del n)) at is gives passes = cc
  forth_by r y (Some (Head e)) at is gives passes =
      absurd (contradiction (same_name head_name (name_of r)) (no_head edits c fit r at) (found (about r) edits (Head e) is).passes)

  forth : (list_any p (changed_in edits rs) || list_any p (filter_map added_by edits)) ≡ true
      → (list_any untouched rs || list_any p (filter_map left_by edits)) ≡ true
  forth e = elim (or_cases (list_any p (changed_in edits rs)) (list_any p (filter_map added_by edits)) e) [
    | inl some ↦
        let hit = passing p (changed_in edits rs) some in
        let from = origin (edited_record edits) hit.item rs hit.among in
        forth_by from.item hit.item (find (about from.item) edits) from.among refl from.gives hit.passes
    | inr some ↦
        let hit = passing p (filter_map added_by edits) some in
        let from = origin added_by hit.item edits hit.among in
        or_right _ _ (any_passes p hit.item (filter_map left_by edits)
        (among_mapped left_by from.item hit.item edits from.among (edit_added from.item hit.item from.gives)) hit.passes)
  ]

  -- where no edit is found there is none
  none_when_free : (r : Rec) (o : Option Edit) → find (about r) edits ≡ o → is_unedited edits (name_of r) ≡ true → o ≡ None
  none_when_free r None is free = refl
  none_when_free r (Some e) is free = let hit = found (about r) edits e is in let some = any_passes (about r) e edits hit.among hit.passes in absurd cc

  -- a replacement's record is there, and becomes the replacement
  replaced_by : (y : Rec) → Among (Set y) edits → (o : Option Rec) → listed_record c (name_of y) ≡ o → is_some o ≡ true → p y ≡ true
      → list_any p (changed_in edits rs) ≡ true
  replaced_by y at None is there passes = cc
  replaced_by y at (Some r) is there passes =
      let hit = found (is_named (name_of y)) rs r is in
      let named : same_name (name_of y) (name_of r) ≡ true = hit.passes in
      let only : find (about r) edits ≡ Some (Set y) = found_only (about r) edits (Set y) at named (λ e among tie.
      let same : name_of_edit e ≡ name_of y = one_when_same (name_of_edit e) (name_of r) tie ∙ sym (one_when_same (name_of y) (name_of r) named) in
      one_of_name same_name same_from_either name_of_edit edits fit.different e (Set y) among at
      (ap (λ n. same_name n (name_of y)) same ∙ ap (λ n. same_name (name_of y) n) (one_when_same (name_of y) (name_of r) named) ∙ named)) in
      any_passes p y (changed_in edits rs) (among_mapped (edited_record edits) r y rs hit.among (ap (changed_by r) only)) passes

  back_by : (y : Rec) (e : Edit) → Among e edits → left_by e ≡ Some y → p y ≡ true
      → (list_any p (changed_in edits rs) || list_any p (filter_map added_by edits)) ≡ true
  back_by y (Add s) at gives passes = or_right _ _ (any_passes p y (filter_map added_by edits) (among_mapped added_by (Add s) y edits at gives) passes)
  back_by y (Set s) at gives passes =
      let same : s ≡ y = cc in
      let there : is_some (listed_record c (name_of s)) ≡ true = each_passes (has_its_record c) (Set s) edits fit.found at in
      or_left _ _ (replaced_by s at (listed_record c (name_of s)) refl there (ap p same ∙ passes))
  back_by y (Del n) at gives passes = cc
  back_by y (Head e) at gives passes = cc

  back : (list_any untouched rs || list_any p (filter_map left_by edits)) ≡ true
      → (list_any p (changed_in edits rs) || list_any p (filter_map added_by edits)) ≡ true
  back e = elim (or_cases (list_any untouched rs) (list_any p (filter_map left_by edits)) e) [
    | inl some ↦
        let hit = passing untouched rs some in
        let parts = and_parts (is_unedited edits (name_of hit.item)) (p hit.item) hit.passes in
        let none : find (about hit.item) edits ≡ None = none_when_free hit.item (find (about hit.item) edits) refl parts.0 in
        or_left _ _ (any_passes p hit.item (changed_in edits rs)
        (among_mapped (edited_record edits) hit.item hit.item rs hit.among (ap (changed_by hit.item) none)) parts.1)
    | inr some ↦
        let hit = passing p (filter_map left_by edits) some in
        let from = origin left_by hit.item edits hit.among in
        back_by hit.item from.item from.among from.gives hit.passes
  ]

  -- a test over all records of the edited cell is one over the unedited records and those that edits leave
  pub any_after : list_any p (all_records (apply_edits edits c)) ≡ (list_any untouched rs || list_any p (filter_map left_by edits))
  any_after = any_edited p edits c fit.placed ∙ both_ways _ _ forth back
