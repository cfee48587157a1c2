-- What an edited cell has under a name, by the edit of that name.
use Rattle.std.proofs.Common.{◌≡◌, Bool, true, false, List, Option, None, Some, cond, find, is_some, refl, sym, ap, ◌∙◌}
use Rattle.std.specs.Prelude.{filter_map, not}
use Rattle.std.proofs.lemmas.Bool.{both_ways as contradiction}
use Rattle.s57_types.specs.declared.name.RecName.{RecName}
use Rattle.s57_types.specs.declared.record.Rec.{Rec}
use Rattle.s57_types.specs.declared.record.Rec.TheVariants.{H}
use Rattle.s57_types.specs.declared.cell.Cell.{Cell}
use Rattle.s57_types.specs.Heads.{head_name}
use Rattle.cell_spec.specs.declared.edit.Edit.{Edit}
use Rattle.cell_spec.specs.declared.edit.Edit.TheVariants.{Add, Set, Del, Head}
use Rattle.cell_spec.specs.Edits.{name_of_edit, added_by, edit_of, changed_by, head_by, apply_edits, has_its_record}
use Rattle.cell_spec.specs.Lookup.{all_records, name_of, is_named, listed_record, lookup_record}
use Rattle.cell_spec.specs.Names.{same_name}
use Rattle.cell_spec.proofs.Orders.{one_when_same, same_from_either}
use Rattle.answer_laws.specs.EditedAnswers.{FindTheirRecords, has_a_list}
use Rattle.answer_laws.proofs.Among.{Among, among_mapped, each_passes, found, found_only, none_found, one_of_name, any_passes, origin}
use Rattle.answer_laws.proofs.EditedNames.{added_is, listed_after, listed_is, not_the_head}
use Rattle.answer_laws.proofs.EditedRecords.{no_head}
use Rattle.answer_laws.proofs.FreeNames.{IsFree, nothing_added}
use Rattle.edit_answers.specs.Named.{EditsLeaveTheirRecords, answered_by, listed_by}

module _ (edits : List Edit) (c : Cell) (fit : FindTheirRecords edits c) (n : RecName) where
  abbrev named : Edit → Bool
  named edit = same_name (name_of_edit edit) n

  -- what an edit finds in the cell
  has : (e : Edit) → edit_of n edits ≡ Some e → has_its_record c e ≡ true
  has e is = each_passes (has_its_record c) e edits fit.found (found named edits e is).among

  -- the name of an edit that is found
  own : (e : Edit) → edit_of n edits ≡ Some e → name_of_edit e ≡ n
  own e is = one_when_same (name_of_edit e) n (found named edits e is).passes

  free_by : edit_of n edits ≡ None → (e : Edit) (b : Bool) → Among e edits → named e ≡ b → b ≡ false
  free_by is e false at here = refl
  free_by is e true at here = absurd (contradiction _ (none_found named edits is) (any_passes named e edits at here))

  free : edit_of n edits ≡ None → IsFree edits n
  free is e at = free_by is e (named e) at refl

  -- the addition of a name is the record found among the additions
  addition : (r : Rec) → edit_of n edits ≡ Some (Add r) → find (is_named n) (filter_map added_by edits) ≡ Some r
  addition r is =
      let hit = found named edits (Add r) is in
      found_only (is_named n) (filter_map added_by edits) r (among_mapped added_by (Add r) r edits hit.among refl)
      (same_from_either n (name_of r) ∙ hit.passes)
      (λ s at passes.
      let from = origin added_by s edits at in
      let add : from.item ≡ Add s = added_is from.item s from.gives in
      let one : from.item ≡ Add r =
      one_of_name same_name same_from_either name_of_edit edits fit.different from.item (Add r) from.among hit.among
      ((λ i. same_name (name_of_edit (add i)) (name_of r)) ∙ (λ i. same_name (name_of s) (own (Add r) is i)) ∙ same_from_either (name_of s) n ∙ passes) in
      let same : Add s ≡ Add r = sym add ∙ one in
      cc)

  -- what becomes of a record that was there
  old_by : (r : Rec) (o : Option Edit) → listed_record c n ≡ Some r → edit_of n edits ≡ o → changed_by r o ≡ listed_by (Some r) o
  old_by r None at is = refl
  old_by r (Some (Add s)) at is =
      absurd (contradiction (not (is_some (listed_record c n))) (ap (λ o. not (is_some o)) at)
      (ap (λ m. not (is_some (listed_record c m))) (sym (own (Add s) is)) ∙ has (Add s) is))
  old_by r (Some (Set s)) at is = refl
  old_by r (Some (Del m)) at is = refl
  old_by r (Some (Head e)) at is = refl

  -- what becomes of a name that no record had
  new_by : (o : Option Edit) → listed_record c n ≡ None → edit_of n edits ≡ o → find (is_named n) (filter_map added_by edits) ≡ listed_by None o
  new_by None at is = nothing_added edits n (free is)
  new_by (Some (Add s)) at is = addition s is
  new_by (Some (Set s)) at is =
      absurd (contradiction (is_some (listed_record c n)) (ap is_some at) (ap (λ m. is_some (listed_record c m)) (sym (own (Set s) is)) ∙ has (Set s) is))
  new_by (Some (Del m)) at is =
      absurd (contradiction (is_some (listed_record c n)) (ap is_some at) (ap (λ m. is_some (listed_record c m)) (sym (own (Del m) is)) ∙ has (Del m) is))
  new_by (Some (Head e)) at is = none_by (find (is_named n) (filter_map added_by edits)) refl
    where
      none_by : (o : Option Rec) → find (is_named n) (filter_map added_by edits) ≡ o → o ≡ None
      none_by None found_is = refl
      none_by (Some s) found_is =
          let hit = found (is_named n) (filter_map added_by edits) s found_is in
          absurd (contradiction (same_name head_name (name_of s)) (not_the_head s (each_passes has_a_list s (filter_map added_by edits) fit.placed hit.among))
          (ap (λ m. same_name m (name_of s)) (own (Head e) is) ∙ hit.passes))

  listed_when : (o : Option Rec) → listed_record c n ≡ o → listed_after edits n o ≡ listed_by o (edit_of n edits)
  listed_when None at = new_by (edit_of n edits) at refl
  listed_when (Some r) at =
      let hit = found (is_named n) (all_records c) r at in
      ap (λ m. changed_by r (edit_of m edits)) (sym (one_when_same n (name_of r) hit.passes)) ∙ old_by r (edit_of n edits) at refl

  pub listed_named : listed_record (apply_edits edits c) n ≡ listed_by (listed_record c n) (edit_of n edits)
  listed_named = listed_is edits c fit n ∙ listed_when (listed_record c n) refl

  -- no record has the head's name
  headless_by : (o : Option Rec) → n ≡ head_name → listed_record c n ≡ o → o ≡ None
  headless_by None is at = refl
  headless_by (Some r) is at =
      let hit = found (is_named n) (all_records c) r at in
      absurd (contradiction (same_name head_name (name_of r)) (no_head edits c fit r hit.among) (ap (λ m. same_name m (name_of r)) (sym is) ∙ hit.passes))

  headless : n ≡ head_name → listed_record c n ≡ None
  headless is = headless_by (listed_record c n) is refl

  head_when : (o : Option Edit) → n ≡ head_name → edit_of n edits ≡ o → Some (H (head_by c.head o)) ≡ answered_by c.head (Some (H c.head)) o
  head_when None head is = refl
  head_when (Some (Add r)) head is =
      absurd (contradiction (same_name head_name (name_of r))
      (not_the_head r (each_passes has_a_list r (filter_map added_by edits) fit.placed
      (among_mapped added_by (Add r) r edits (found named edits (Add r) is).among refl)))
      (ap (λ m. same_name m (name_of r)) (sym head) ∙ same_from_either n (name_of r) ∙ (found named edits (Add r) is).passes))
  head_when (Some (Set r)) head is =
      absurd (contradiction (is_some (listed_record c n)) (ap is_some (headless head))
      (ap (λ m. is_some (listed_record c m)) (sym (own (Set r) is)) ∙ has (Set r) is))
  head_when (Some (Del m)) head is =
      absurd (contradiction (is_some (listed_record c n)) (ap is_some (headless head))
      (ap (λ m. is_some (listed_record c m)) (sym (own (Del m) is)) ∙ has (Del m) is))
  head_when (Some (Head e)) head is = refl

  -- an edit of the head isn't found under another name
  other_when : (o : Option Edit) → same_name n head_name ≡ false → edit_of n edits ≡ o
      → listed_by (listed_record c n) o ≡ answered_by c.head (listed_record c n) o
  other_when None other is = refl
  other_when (Some (Add r)) other is = refl
  other_when (Some (Set r)) other is = refl
  other_when (Some (Del m)) other is = refl
  other_when (Some (Head e)) other is =
      absurd (contradiction (same_name n head_name) other (same_from_either n head_name ∙ (found named edits (Head e) is).passes))

  answer_when : (head : Bool) → same_name n head_name ≡ head
      → cond head (Some (H (head_by c.head (edit_of head_name edits)))) (listed_record (apply_edits edits c) n)
      ≡ answered_by c.head (cond head (Some (H c.head)) (listed_record c n)) (edit_of n edits)
  answer_when true is =
      let own : n ≡ head_name = one_when_same n head_name is in
      ap (λ m. Some (H (head_by c.head (edit_of m edits)))) (sym own) ∙ head_when (edit_of n edits) own refl
  answer_when false is = listed_named ∙ other_when (edit_of n edits) is refl

  pub answer_named : lookup_record (apply_edits edits c) n ≡ answered_by c.head (lookup_record c n) (edit_of n edits)
  unfolding apply_edits
  answer_named = answer_when (same_name n head_name) refl

pub names_after : EditsLeaveTheirRecords
names_after edits c fit = record { listed = listed_named edits c fit; answered = answer_named edits c fit }
