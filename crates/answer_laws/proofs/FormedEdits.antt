-- What the edits of an edit set make of a readable cell.
use Rattle.std.proofs.Common.{◌≡◌, inl, inr, ℕ, ◌==◌, ◌<◌, ◌&&◌, Bool, true, false, List, Option, None, Some, cond, length, map}
use Rattle.std.proofs.Common.{refl, sym, ap, ◌∙◌, subst, arith}
use Rattle.std.specs.Prelude.{filter_map, not}
use Rattle.std.specs.List.{IsDistinct, list_all}
use Rattle.std.proofs.lemmas.List.{get_or-map, length-map}
use Rattle.std.proofs.lemmas.List.Elements.{All-from_recursion, recursion_from_All}
use Rattle.std.proofs.lemmas.List.Sums.{count_by-le-length}
use Rattle.std.proofs.lemmas.Map.Keys.{IsDistinct-from_apart}
use Rattle.s57_types.specs.Fitness.{has_good_names, is_feature_kind, is_vector_kind, unfitness}
use Rattle.s57_types.specs.Heads.{head_name}
use Rattle.s57_types.specs.declared.fault.Unfit.{Unfit}
use Rattle.s57_types.specs.declared.fault.Unfit.TheVariants.{BadName}
use Rattle.s57_types.specs.declared.name.Kind.{Kind}
use Rattle.s57_types.specs.declared.name.Kind.TheVariants.{Head as HeadKind}
use Rattle.s57_types.specs.declared.name.RecName.{RecName}
use Rattle.s57_types.specs.declared.record.Rec.{Rec}
use Rattle.s57_types.specs.declared.record.Rec.TheVariants.{V, F, H}
use Rattle.s57_types.specs.declared.cell.Cell.{Cell}
use Rattle.cell_spec.specs.declared.edit.Edit.{Edit}
use Rattle.cell_spec.specs.declared.edit.Edit.TheVariants.{Add, Set, Del, Head}
use Rattle.cell_spec.specs.Edits.{name_of_edit, added_by, apply_edits, changed_by, edit_of, edited_record}
use Rattle.cell_spec.specs.Lookup.{all_records, head_and_records, name_of}
use Rattle.cell_spec.specs.Names.{kind_rank, same_name}
use Rattle.cell_spec.specs.Readable.{IsReadable}
use Rattle.cell_spec.specs.Writable.{HaveDistinctNames}
use Rattle.edit_sets.specs.FormFault.{IsFormed, unfitness_of_edit}
use Rattle.answer_laws.specs.EditedAnswers.{has_a_list}
use Rattle.answer_laws.specs.EditedCells.{CountsAfter, EditedCellsAreReadable, FormedEditsFindTheirRecords, is_addition}
use Rattle.answer_laws.proofs.Among.{all_pass, Among, each_among, each_mapped, found, known_of, origin}
use Rattle.answer_laws.proofs.EditedHead.{level_kept}
use Rattle.answer_laws.proofs.EditedNames.{added_is, changed_or_added, distinct_after, not_the_head}

-- ---- records that can be written have a list
good_by : (good : Bool) (rest : Option Unfit) → cond (not good) (Some BadName) rest ≡ None → good ≡ true
good_by true rest e = refl
good_by false rest e = cc

good_names : (nall : ℕ) (r : Rec) → unfitness nall r ≡ None → has_good_names r ≡ true
unfolding unfitness
good_names nall r fit = good_by (has_good_names r) _ fit

listed_by : (is : Kind → Bool) (k : Kind) (rest : Bool) → is HeadKind ≡ false → (is k && rest) ≡ true → not (kind_rank k == 4) ≡ true
listed_by is HeadKind rest none e = let failed = sym (ap (λ b. b && rest) none) ∙ e in cc
listed_by is k rest none e = refl

good_is_listed : (r : Rec) → has_good_names r ≡ true → has_a_list r ≡ true
good_is_listed (V v) good = listed_by is_vector_kind v.name.kind _ refl good
good_is_listed (F f) good = listed_by is_feature_kind f.name.kind _ refl good
good_is_listed (H h) good = cc

fit_is_listed : (nall : ℕ) (r : Rec) → unfitness nall r ≡ None → has_a_list r ≡ true
fit_is_listed nall r fit = good_is_listed r (good_names nall r fit)

-- ---- edits of an edit set
pub different_names : (nall : ℕ) (edits : List Edit) (guards : List RecName) → IsFormed nall edits guards
    → IsDistinct same_name (map name_of_edit edits)
different_names nall edits guards form = IsDistinct-from_apart same_name (map name_of_edit edits) (λ i j d before within.
    let there : j < length edits = omega (arith, length-map edits name_of_edit, within) in
    let named = get_or-map name_of_edit edits i (Del d) d (omega (arith, there, before)) in
    (λ k. same_name (named k) (get_or-map name_of_edit edits j (Del d) d there k)) ∙ form.distinct i j (Del d) before there)

module _ (c : Cell) (edits : List Edit) (guards : List RecName) (readable : IsReadable c) (form : IsFormed c.head.nall edits guards) where
  abbrev fits : Rec → Type 0
  fits r = unfitness c.head.nall r ≡ None

  edit_fits : (e : Edit) → Among e edits → unfitness_of_edit c.head.nall e ≡ None
  edit_fits e at =
      known_of (λ f. unfitness_of_edit c.head.nall f ≡ None) e edits (recursion_from_All (λ f. unfitness_of_edit c.head.nall f ≡ None) edits form.fit) at

  record_fits : (r : Rec) → Among r (all_records c) → fits r
  record_fits r at = known_of fits r (all_records c) (recursion_from_All fits (all_records c) readable.fit) at

  addition_fits : (r : Rec) → Among r (filter_map added_by edits) → fits r
  addition_fits r at =
      let from = origin added_by r edits at in
      subst (λ e. unfitness_of_edit c.head.nall e ≡ None) (added_is from.item r from.gives) (edit_fits from.item from.among)

  names_with_head : HaveDistinctNames (head_and_records c)
  unfolding IsDistinct
  names_with_head = (
    each_mapped (λ n. same_name head_name n ≡ false) name_of (all_records c) (λ r at. not_the_head r (fit_is_listed c.head.nall r (record_fits r at))),
    readable.distinct,
  )

  all_placed : list_all has_a_list (filter_map added_by edits) ≡ true
  all_placed = all_pass has_a_list (filter_map added_by edits) (λ r at. fit_is_listed c.head.nall r (addition_fits r at))

  -- ---- the edited cell
  same_level : (apply_edits edits c).head.nall ≡ c.head.nall
  unfolding apply_edits
  same_level = level_kept edits c.head

  changed_fits : (r s : Rec) → Among r (all_records c) → (e : Option Edit) → edit_of (name_of r) edits ≡ e → changed_by r e ≡ Some s → fits s
  changed_fits r s at None is gives = let same : r ≡ s = cc in subst fits same (record_fits r at)
  changed_fits r s at (Some (Add t)) is gives = let same : r ≡ s = cc in subst fits same (record_fits r at)
  changed_fits r s at (Some (Set t)) is gives =
      let hit = found (λ edit. same_name (name_of_edit edit) (name_of r)) edits (Set t) is in
      let same : t ≡ s = cc in
      subst fits same (edit_fits (Set t) hit.among)
  changed_fits r s at (Some (Del n)) is gives = cc
  changed_fits r s at (Some (Head e)) is gives = let same : r ≡ s = cc in subst fits same (record_fits r at)

  after_fits : list_all has_a_list (filter_map added_by edits) ≡ true → (r : Rec) → Among r (all_records (apply_edits edits c)) → fits r
  after_fits placed r at = elim (changed_or_added edits c placed r at) [
    | inl there ↦
        let from = origin (edited_record edits) r (all_records c) there in
        changed_fits from.item r from.among (edit_of (name_of from.item) edits) refl from.gives
    | inr there ↦ addition_fits r there
  ]

pub find_theirs : FormedEditsFindTheirRecords
find_theirs c edits guards readable form found = record {
  names = names_with_head c edits guards readable form;
  different = different_names c.head.nall edits guards form;
  found = found;
  placed = all_placed c edits guards readable form;
}

module _ (finds : FormedEditsFindTheirRecords) (counted : CountsAfter) where
  pub still_readable : EditedCellsAreReadable
  still_readable c edits guards readable few form found =
      let fit = finds c edits guards readable form found in
      let after = all_records (apply_edits edits c) in
      let fits_after : Rec → Type 0 = λ r. unfitness (apply_edits edits c).head.nall r ≡ None in
      let each : (r : Rec) → Among r after → fits_after r =
      λ r at. ap (λ level. unfitness level r) (same_level c edits guards readable form) ∙ after_fits c edits guards readable form fit.placed r at in
      record {
        distinct = distinct_after edits c fit;
        count = omega (arith, few, counted edits c fit, count_by-le-length is_addition edits, form.bounded);
        fit = All-from_recursion fits_after after (each_among fits_after after each);
      }
