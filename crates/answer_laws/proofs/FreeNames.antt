-- What has a name that no edit is about stays.
use Rattle.std.proofs.Common.{◌≡◌, true, false, List, Option, None, Some, find, refl, sym, ap, ◌∙◌}
use Rattle.std.specs.Prelude.{filter_map}
use Rattle.std.proofs.lemmas.Bool.{both_ways as contradiction}
use Rattle.s57_types.specs.declared.name.RecName.{RecName}
use Rattle.s57_types.specs.declared.record.Rec.{Rec}
use Rattle.cell_spec.specs.declared.edit.Edit.{Edit}
use Rattle.cell_spec.specs.Edits.{name_of_edit, added_by, edit_of, changed_by, edited_record}
use Rattle.cell_spec.specs.Lookup.{is_named, name_of}
use Rattle.cell_spec.specs.Names.{same_name}
use Rattle.cell_spec.proofs.Orders.{one_when_same, same_from_either}
use Rattle.answer_laws.proofs.Among.{Among, found, origin}
use Rattle.answer_laws.proofs.EditedNames.{added_is}

-- no edit is about the name
abbrev pub IsFree : List Edit → RecName → Type 0
IsFree edits n = (e : Edit) → Among e edits → same_name (name_of_edit e) n ≡ false

module _ (edits : List Edit) (n : RecName) (free : IsFree edits n) where
  no_edit_by : (o : Option Edit) → edit_of n edits ≡ o → o ≡ None
  no_edit_by None is = refl
  no_edit_by (Some e) is =
      let hit = found (λ edit. same_name (name_of_edit edit) n) edits e is in
      absurd (contradiction (same_name (name_of_edit e) n) (free e hit.among) hit.passes)

  pub no_edit : edit_of n edits ≡ None
  no_edit = no_edit_by (edit_of n edits) refl

  pub record_stays : (r : Rec) → same_name n (name_of r) ≡ true → edited_record edits r ≡ Some r
  record_stays r named = ap (changed_by r) (ap (λ m. edit_of m edits) (sym (one_when_same n (name_of r) named)) ∙ no_edit)

  nothing_by : (o : Option Rec) → find (is_named n) (filter_map added_by edits) ≡ o → o ≡ None
  nothing_by None is = refl
  nothing_by (Some r) is =
      let hit = found (is_named n) (filter_map added_by edits) r is in
      let from = origin added_by r edits hit.among in
      let own : name_of_edit from.item ≡ name_of r = ap name_of_edit (added_is from.item r from.gives) in
      absurd (contradiction (same_name (name_of_edit from.item) n) (free from.item from.among)
      (ap (λ m. same_name m n) own ∙ same_from_either (name_of r) n ∙ hit.passes))

  pub nothing_added : find (is_named n) (filter_map added_by edits) ≡ None
  nothing_added = nothing_by (find (is_named n) (filter_map added_by edits)) refl
