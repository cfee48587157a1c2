-- The record of a name after edits.
use Rattle.std.proofs.Common.{◌≡◌, ◌⊎◌, inl, inr, Bool, true, false, List, ◌++◌, Option, None, Some, cond, find, is_some, map, refl, sym, ap, ◌∙◌, subst}
use Rattle.std.specs.Prelude.{filter_map, not, IfSome, IsPermutation}
use Rattle.std.proofs.lemmas.Bool.{both_ways as contradiction, false_from_ne_true, or_left, or_right}
use Rattle.std.specs.List.{All, IsDistinct, list_all}
use Rattle.std.proofs.lemmas.List.{map-append}
use Rattle.std.proofs.lemmas.Map.Keys.{IsDistinct-IsPermutation}
use Rattle.std.proofs.lemmas.List.Elements.{All-from_recursion, recursion_from_All}
use Rattle.std.proofs.lemmas.List.Sorted.{All-permutation, IsPermutation-map, IsPermutation-sym}
use Rattle.s57_types.specs.declared.name.Kind.TheVariants.{Head as HeadKind}
use Rattle.s57_types.specs.declared.name.RecName.{RecName}
use Rattle.s57_types.specs.declared.record.Rec.{Rec}
use Rattle.s57_types.specs.declared.record.Rec.TheVariants.{V, F, H}
use Rattle.s57_types.specs.declared.cell.Cell.{Cell}
use Rattle.s57_types.specs.Heads.{head_name}
use Rattle.cell_spec.specs.declared.edit.Edit.{Edit}
use Rattle.cell_spec.specs.declared.edit.Edit.TheVariants.{Add, Set, Del, Head}
use Rattle.cell_spec.specs.Edits.{name_of_edit, added_by, changed_by, edited_record, head_after, apply_edits, has_its_record}
use Rattle.cell_spec.specs.Lookup.{all_records, head_and_records, name_of, is_named, listed_record, lookup_record}
use Rattle.cell_spec.specs.Names.{same_name, is_of_kind}
use Rattle.cell_spec.specs.Writable.{HaveDistinctNames}
use Rattle.cell_spec.proofs.Orders.{one_when_same, same_from_either}
use Rattle.answer_laws.specs.EditedAnswers.{FindTheirRecords, has_a_list, record_after}
use Rattle.answer_laws.proofs.Among.{Among, among_append, any_passes, each_among, each_mapped, known_of, mapped, origin, among_mapped, found, none_found}
use Rattle.answer_laws.proofs.Among.{each_passes, one_of_name}
use Rattle.answer_laws.proofs.Distinct.{distinct_both, distinct_mapped}
use Rattle.answer_laws.proofs.EditedRecords.{any_edited, changed_in, names_listed, no_head, not_new, records_moved}

-- a record of the edited cell is an edited one or an addition
pub changed_or_added : (edits : List Edit) (c : Cell) → list_all has_a_list (filter_map added_by edits) ≡ true → (z : Rec)
    → Among z (all_records (apply_edits edits c))
    → Among z (changed_in edits (all_records c)) ⊎ Among z (filter_map added_by edits)
changed_or_added edits c placed z at =
    let after = all_records (apply_edits edits c) in
    let parts = changed_in edits (all_records c) ++ filter_map added_by edits in
    let Stands : Rec → Type 0 = λ r. Among r (changed_in edits (all_records c)) ⊎ Among r (filter_map added_by edits) in
    let each : All Stands parts =
    All-from_recursion Stands parts (each_among Stands parts
    (λ r there. among_append r (changed_in edits (all_records c)) (filter_map added_by edits) there)) in
    known_of Stands z after (recursion_from_All Stands after (All-permutation Stands parts after
    (IsPermutation-sym after parts (records_moved edits c placed)) each)) at

-- ---- names
name_kept_by : (edits : List Edit) (r : Rec) (e : Option Edit) → find (λ edit. same_name (name_of_edit edit) (name_of r)) edits ≡ e
    → IfSome (changed_by r e) (λ s. name_of s ≡ name_of r)
name_kept_by edits r None is = refl
name_kept_by edits r (Some (Add s)) is = refl
name_kept_by edits r (Some (Set s)) is =
    one_when_same (name_of s) (name_of r) (found (λ edit. same_name (name_of_edit edit) (name_of r)) edits (Set s) is).passes
name_kept_by edits r (Some (Del n)) is = tt
name_kept_by edits r (Some (Head e)) is = refl

-- an edited record keeps its name
pub name_kept : (edits : List Edit) (r s : Rec) → edited_record edits r ≡ Some s → name_of s ≡ name_of r
name_kept edits r s gives =
    subst (λ o. IfSome o (λ s. name_of s ≡ name_of r)) gives (name_kept_by edits r (find (λ edit. same_name (name_of_edit edit) (name_of r)) edits) refl)

pub added_is : (e : Edit) (s : Rec) → added_by e ≡ Some s → e ≡ Add s
added_is (Add r) s h = let same : r ≡ s = cc in ap Add same
added_is (Set r) s h = cc
added_is (Del n) s h = cc
added_is (Head e) s h = cc

-- what becomes of a record of the lists
abbrev pub listed_after : List Edit → RecName → Option Rec → Option Rec
listed_after edits n (Some r) = edited_record edits r
listed_after edits n None = find (is_named n) (filter_map added_by edits)

module _ (edits : List Edit) (c : Cell) (fit : FindTheirRecords edits c) (n : RecName) where
  abbrev d : Cell
  d = apply_edits edits c

  -- a record of the edited cell under the name is what an old one became, or an addition
  from_old : (r z : Rec) → listed_record c n ≡ Some r → Among z (all_records d) → same_name n (name_of z) ≡ true → edited_record edits r ≡ Some z
  from_old r z is at named = elim (changed_or_added edits c fit.placed z at) [
    | inl there ↦
        let from = origin (edited_record edits) z (all_records c) there in
        let hit = found (is_named n) (all_records c) r is in
        let own : n ≡ name_of from.item = one_when_same n (name_of z) named ∙ name_kept edits from.item z from.gives in
        let same : from.item ≡ r =
        one_of_name same_name same_from_either name_of (all_records c) (names_listed edits c fit) from.item r from.among hit.among
        (ap (λ m. same_name m (name_of r)) (sym own) ∙ hit.passes) in
        ap (edited_record edits) (sym same) ∙ from.gives
    | inr there ↦
        let from = origin added_by z edits there in
        let hit = found (is_named n) (all_records c) r is in
        let add : from.item ≡ Add z = added_is from.item z from.gives in
        let new : not (is_some (listed_record c (name_of z))) ≡ true =
        ap (has_its_record c) (sym add) ∙ each_passes (has_its_record c) from.item edits fit.found from.among in
        absurd (not_new (λ s. true) edits c fit z r (listed_record c (name_of z)) refl hit.among
        (ap (λ m. same_name m (name_of r)) (sym (one_when_same n (name_of z) named)) ∙ hit.passes) new)
  ]

  from_new : (z : Rec) → listed_record c n ≡ None → Among z (all_records d) → same_name n (name_of z) ≡ true → Among z (filter_map added_by edits)
  from_new z is at named = elim (changed_or_added edits c fit.placed z at) [
    | inl there ↦
        let from = origin (edited_record edits) z (all_records c) there in
        let none = none_found (is_named n) (all_records c) is in
        let some = any_passes (is_named n) from.item (all_records c) from.among (ap (same_name n) (sym (name_kept edits from.item z from.gives)) ∙ named) in
        absurd cc
    | inr there ↦ there
  ]

  old_by : (r : Rec) → listed_record c n ≡ Some r → (y after : Option Rec) → edited_record edits r ≡ y → listed_record d n ≡ after → after ≡ y
  old_by r is None None gives now = refl
  old_by r is None (Some z) gives now = let hit = found (is_named n) (all_records d) z now in let no = from_old r z is hit.among hit.passes in absurd cc
  old_by r is (Some y) (Some z) gives now = let hit = found (is_named n) (all_records d) z now in sym (from_old r z is hit.among hit.passes) ∙ gives
  old_by r is (Some y) None gives now =
      let hit = found (is_named n) (all_records c) r is in
      let named : same_name n (name_of y) ≡ true = ap (same_name n) (name_kept edits r y gives) ∙ hit.passes in
      let some = any_edited (is_named n) edits c fit.placed ∙ or_left _ _
      (any_passes (is_named n) y (changed_in edits (all_records c)) (among_mapped (edited_record edits) r y (all_records c) hit.among gives)
      named) in
      let none = none_found (is_named n) (all_records d) now in
      absurd cc

  new_by : listed_record c n ≡ None → (y after : Option Rec) → find (is_named n) (filter_map added_by edits) ≡ y → listed_record d n ≡ after → after ≡ y
  new_by is None None gives now = refl
  new_by is None (Some z) gives now =
      let hit = found (is_named n) (all_records d) z now in
      let none = none_found (is_named n) (filter_map added_by edits) gives in
      let some = any_passes (is_named n) z (filter_map added_by edits) (from_new z is hit.among hit.passes) hit.passes in
      absurd cc
  new_by is (Some y) None gives now =
      let hit = found (is_named n) (filter_map added_by edits) y gives in
      let some = any_edited (is_named n) edits c fit.placed ∙ or_right _ _ (any_passes (is_named n) y (filter_map added_by edits) hit.among hit.passes) in
      let none = none_found (is_named n) (all_records d) now in
      absurd cc
  new_by is (Some y) (Some z) gives now =
      let hit = found (is_named n) (all_records d) z now in
      let other = found (is_named n) (filter_map added_by edits) y gives in
      let first = origin added_by z edits (from_new z is hit.among hit.passes) in
      let second = origin added_by y edits other.among in
      let first_is : first.item ≡ Add z = added_is first.item z first.gives in
      let second_is : second.item ≡ Add y = added_is second.item y second.gives in
      let tie : same_name (name_of z) (name_of y) ≡ true = ap (λ m. same_name m (name_of y)) (sym (one_when_same n (name_of z) hit.passes)) ∙ other.passes in
      let same : first.item ≡ second.item =
      one_of_name same_name same_from_either name_of_edit edits fit.different first.item second.item first.among second.among
      ((λ i. same_name (name_of_edit (first_is i)) (name_of_edit (second_is i))) ∙ tie) in
      sym first.gives ∙ ap added_by same ∙ second.gives

  by : (o : Option Rec) → listed_record c n ≡ o → listed_record d n ≡ listed_after edits n o
  by None is = new_by is (find (is_named n) (filter_map added_by edits)) (listed_record d n) refl refl
  by (Some r) is = old_by r is (edited_record edits r) (listed_record d n) refl refl

  pub listed_is : listed_record d n ≡ listed_after edits n (listed_record c n)
  listed_is = by (listed_record c n) refl

  -- a record of the lists isn't the head
  as_answer : (o : Option Rec) → listed_record c n ≡ o → listed_after edits n o ≡ record_after edits n o
  as_answer None is = refl
  as_answer (Some (V v)) is = refl
  as_answer (Some (F f)) is = refl
  as_answer (Some (H h)) is =
      let hit = found (is_named n) (all_records c) (H h) is in absurd (contradiction (same_name head_name head_name) (no_head edits c fit (H h) hit.among) refl)

  answer_by : (head : Bool) → same_name n head_name ≡ head
      → cond head (Some (H (head_after edits c.head))) (listed_record d n) ≡ record_after edits n (cond head (Some (H c.head)) (listed_record c n))
  answer_by true is = refl
  answer_by false is = listed_is ∙ as_answer (listed_record c n) refl

  pub record_is : lookup_record d n ≡ record_after edits n (lookup_record c n)
  unfolding apply_edits
  record_is = answer_by (same_name n head_name) refl

-- a record that has a list to stand in hasn't the head's name
pub not_the_head : (r : Rec) → has_a_list r ≡ true → same_name head_name (name_of r) ≡ false
not_the_head r placed =
    false_from_ne_true (same_name head_name (name_of r)) (λ named.
    contradiction (has_a_list r) (ap (λ m. not (is_of_kind HeadKind m)) (sym (one_when_same head_name (name_of r) named))) placed)

-- no record of the edited cell has the head's name
pub no_head_after : (edits : List Edit) (c : Cell) → FindTheirRecords edits c → (r : Rec) → Among r (all_records (apply_edits edits c))
    → same_name head_name (name_of r) ≡ false
no_head_after edits c fit r at = elim (changed_or_added edits c fit.placed r at) [
  | inl there ↦
      let from = origin (edited_record edits) r (all_records c) there in
      ap (same_name head_name) (name_kept edits from.item r from.gives) ∙ no_head edits c fit from.item from.among
  | inr there ↦ not_the_head r (each_passes has_a_list r (filter_map added_by edits) fit.placed there)
]

-- an addition's name is that of no record that was there
old_and_new : (edits : List Edit) (c : Cell) → FindTheirRecords edits c → (n m : RecName) → Among n (map name_of (changed_in edits (all_records c)))
    → Among m (map name_of (filter_map added_by edits)) → same_name n m ≡ false
old_and_new edits c fit n m at there =
    let old = mapped name_of n (changed_in edits (all_records c)) at in
    let new = mapped name_of m (filter_map added_by edits) there in
    let before = origin (edited_record edits) old.item (all_records c) old.among in
    let addition = origin added_by new.item edits new.among in
    let has : not (is_some (listed_record c (name_of new.item))) ≡ true =
    ap (has_its_record c) (sym (added_is addition.item new.item addition.gives))
    ∙ each_passes (has_its_record c) addition.item edits fit.found addition.among in
    false_from_ne_true (same_name n m) (λ same.
    not_new (λ s. true) edits c fit new.item before.item (listed_record c (name_of new.item)) refl before.among
    (same_from_either (name_of new.item) (name_of before.item)
    ∙ (λ i. same_name (sym (name_kept edits before.item old.item before.gives) i) (name_of new.item)) ∙ (λ i. same_name (old.gives i) (new.gives i))
    ∙ same) has)

-- the head and the records of the edited cell have different names
pub names_after : (edits : List Edit) (c : Cell) → FindTheirRecords edits c → HaveDistinctNames (head_and_records (apply_edits edits c))
unfolding IsDistinct
names_after edits c fit =
    let after = all_records (apply_edits edits c) in
    let old = changed_in edits (all_records c) in
    let new = filter_map added_by edits in
    let old_apart : HaveDistinctNames old =
    distinct_mapped same_name name_of name_of (edited_record edits) (λ r s gives. name_kept edits r s gives) (all_records c) (names_listed edits c fit) in
    let new_apart : HaveDistinctNames new =
    distinct_mapped same_name name_of_edit name_of added_by (λ e s gives. ap name_of_edit (sym (added_is e s gives))) edits fit.different in
    let parts : IsDistinct same_name (map name_of old ++ map name_of new) =
    distinct_both same_name (map name_of old) (map name_of new) old_apart new_apart (λ n m at there. old_and_new edits c fit n m at there) in
    let moved : IsPermutation (map name_of (old ++ new)) (map name_of after) =
    IsPermutation-map name_of (old ++ new) after (IsPermutation-sym after (old ++ new) (records_moved edits c fit.placed)) in (
      each_mapped (λ n. same_name head_name n ≡ false) name_of after (no_head_after edits c fit),
      IsDistinct-IsPermutation same_name same_from_either (map name_of (old ++ new)) (map name_of after) moved
          (subst (IsDistinct same_name) (sym (map-append name_of old new)) parts),
    )

pub distinct_after : (edits : List Edit) (c : Cell) → FindTheirRecords edits c → HaveDistinctNames (all_records (apply_edits edits c))
unfolding IsDistinct
distinct_after edits c fit = (names_after edits c fit).1
