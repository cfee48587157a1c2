-- An edited cell is as its types have it, where the cell and the edits are.
use Rattle.std.proofs.Common.{◌≡◌, ℕ, List, [], ◌∷◌, ◌++◌, length, Option, None, Some, sym, subst}
use Rattle.std.specs.Prelude.{IfSome}
use Rattle.std.specs.List.{AllByRecursion}
use Rattle.s57_types.specs.FieldRows.{dsid_forms, dsid_row, dspm_forms, dspm_row}
use Rattle.s57_types.specs.Heads.{head_name}
use Rattle.s57_types.specs.RecordFields.{dsid_of_head, dspm_of_head}
use Rattle.s57_types.specs.Subfield.{Form, fixed, b11, b12, b14, text}
use Rattle.s57_types.specs.declared.head.Head.{Head as CellHead}
use Rattle.s57_types.specs.declared.name.Kind.{Kind}
use Rattle.s57_types.specs.declared.name.Kind.TheVariants.{Vi, Vc, Ve, Fe}
use Rattle.s57_types.specs.declared.record.Rec.{Rec}
use Rattle.cell_spec.specs.Edits.{name_of_edit, edit_of, edited_list, apply_edits, head_by, head_after}
use Rattle.cell_spec.specs.Names.{same_name}
use Rattle.cell_spec.specs.declared.edit.Edit.{Edit}
use Rattle.cell_spec.specs.declared.edit.Edit.TheVariants.{Add, Set, Del, Head}
use Rattle.file_spec.specs.RoundTrip.{HasForms, RecordHasForms}
use Rattle.edit_laws.specs.ReadBackAfterRuns.{EditHasItsTypes, EditsKeepTypes}
use Rattle.cell_spec.proofs.EachItem.{each_append, each_weaker}
use Rattle.answer_laws.proofs.EditedHead.{IsAmong, found_among, level_kept}
use Rattle.answer_laws.proofs.EditedLists.{list_has}
use Rattle.answer_laws.proofs.EditedCell.{each_of_kind}
use Rattle.answer_laws.proofs.KeptRecords.{Leaves}

leaves_typed : (nall : ℕ) (edit : Edit) → EditHasItsTypes nall edit → Leaves (RecordHasForms nall) edit
leaves_typed nall (Add r) typed = typed
leaves_typed nall (Set r) typed = typed
leaves_typed nall (Del n) typed = tt
leaves_typed nall (Head e) typed = tt

-- the head with new values
abbrev IdentificationHasForms : CellHead → Type 0
IdentificationHasForms h = HasForms dsid_forms (dsid_row (dsid_of_head h))

-- the forms of the first head record where the lengths of its dates and its edition are these
abbrev forms_with : ℕ → ℕ → ℕ → List Form
forms_with update issue edition = b11 ∷ b14 ∷ b11 ∷ b11 ∷ text ∷ text ∷ text ∷ fixed update ∷ fixed issue ∷ fixed edition
    ∷ b11 ∷ text ∷ text ∷ b11 ∷ b12 ∷ text ∷ []

edited_forms : (update issue edition new_update new_issue : ℕ) → forms_with update issue edition ≡ dsid_forms → new_update ≡ 8
    → new_issue ≡ 8 → forms_with new_update new_issue edition ≡ dsid_forms
edited_forms update issue edition new_update new_issue old is_update is_issue = let four : edition ≡ 4 = cc in cc

head_typed_by : (nall : ℕ) (edits : List Edit) (h : CellHead) (edit : Option Edit) → IfSome edit (IsAmong (EditHasItsTypes nall) edits)
    → IdentificationHasForms h → IdentificationHasForms (head_by h edit)
head_typed_by nall edits h None here typed = typed
head_typed_by nall edits h (Some (Add r)) here typed = typed
head_typed_by nall edits h (Some (Set r)) here typed = typed
head_typed_by nall edits h (Some (Del n)) here typed = typed
head_typed_by nall edits h (Some (Head e)) here typed = record {
  forms_are = edited_forms (length h.uadt) (length h.isdt) (length h.sted) (length e.uadt) (length e.isdt) typed.forms_are here.has.uadt here.has.isdt;
  each = typed.each;
}

head_typed : (nall : ℕ) (edits : List Edit) (h : CellHead) → AllByRecursion (EditHasItsTypes nall) edits → IdentificationHasForms h
    → IdentificationHasForms (head_after edits h)
head_typed nall edits h all typed = head_typed_by nall edits h (edit_of head_name edits)
    (found_among (EditHasItsTypes nall) (λ edit. same_name (name_of_edit edit) head_name) edits all) typed

-- the parameters stay
parameters_by : (h : CellHead) (edit : Option Edit) → HasForms dspm_forms (dspm_row (dspm_of_head h))
    → HasForms dspm_forms (dspm_row (dspm_of_head (head_by h edit)))
parameters_by h None typed = typed
parameters_by h (Some (Add r)) typed = typed
parameters_by h (Some (Set r)) typed = typed
parameters_by h (Some (Del n)) typed = typed
parameters_by h (Some (Head e)) typed = typed

pub edits_keep_types : EditsKeepTypes
unfolding apply_edits
edits_keep_types c edits typed leaves =
    let forms : Rec → Type 0 = RecordHasForms c.head.nall in
    let lists : Kind → List Rec = λ kind. edited_list edits kind c in
    let left : AllByRecursion (Leaves forms) edits = each_weaker (EditHasItsTypes c.head.nall) (Leaves forms) (leaves_typed c.head.nall) edits leaves in
    let has : (kind : Kind) → AllByRecursion forms (lists kind) = λ kind. list_has forms edits kind c left (each_of_kind forms kind c typed.records) in
    let records : AllByRecursion forms (lists Vi ++ lists Vc ++ lists Ve ++ lists Fe) =
    each_append forms (lists Vi ++ lists Vc ++ lists Ve) (lists Fe)
    (each_append forms (lists Vi ++ lists Vc) (lists Ve) (each_append forms (lists Vi) (lists Vc) (has Vi) (has Vc)) (has Ve)) (has Fe) in
    record {
      dsid = head_typed c.head.nall edits c.head leaves typed.dsid;
      dspm = parameters_by c.head (edit_of head_name edits) typed.dspm;
      records = subst (λ nall. AllByRecursion (RecordHasForms nall) (lists Vi ++ lists Vc ++ lists Ve ++ lists Fe)) (sym (level_kept edits c.head)) records;
    }
