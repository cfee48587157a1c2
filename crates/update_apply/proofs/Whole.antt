-- The edits of an update, applied at once, make the cell that its records make one after the other.
use Rattle.std.proofs.Common.{◌≡◌, ℕ, ◌+◌, ◌≤◌, true, false, List, [], ◌∷◌, ◌++◌, length, Option, None, Some, Result, Ok, Err, refl, sym, ap, subst, ◌∙◌}
use Rattle.std.proofs.Common.{arith, length-append}
use Rattle.std.specs.Prelude.{option_to_list, filter_map}
use Rattle.std.specs.Result.{result_map_both}
use Rattle.std.proofs.lemmas.Bool.{ltb-true}
use Rattle.std.proofs.lemmas.List.{append-nil}
use Rattle.frame_spec.specs.RecordFrame.{Field, FrameView}
use Rattle.frame_spec.specs.declared.fault.FrameFault.{FrameFault}
use Rattle.s57_types.specs.Heads.{has_plain_texts, head_name}
use Rattle.s57_types.specs.declared.cell.Cell.{Cell}
use Rattle.s57_types.specs.declared.fault.CellFault.{CellFault}
use Rattle.s57_types.specs.declared.field.Dsid.{Dsid}
use Rattle.s57_types.specs.declared.field.Dssi.{Dssi}
use Rattle.s57_types.specs.declared.head.Head.{Head as CellHead}
use Rattle.s57_types.specs.declared.head.HeadEdit.{HeadEdit}
use Rattle.s57_types.specs.declared.record.Rec.{Rec}
use Rattle.field_spec.specs.Contents.{dsid_content, dssi_content}
use Rattle.cell_spec.specs.declared.edit.Edit.{Edit}
use Rattle.cell_spec.specs.declared.edit.Edit.TheVariants.{Head}
use Rattle.cell_spec.specs.Edits.{name_of_edit, edited_record, apply_edits, has_its_record, find_their_records}
use Rattle.cell_spec.specs.Names.{same_name}
use Rattle.cell_spec.specs.Readable.{IsReadable}
use Rattle.cell_spec.specs.Writable.{IsWritable}
use Rattle.s57_types.specs.Fitness.{is_fit_head}
use Rattle.edit_sets.proofs.Formed.{formed}
use Rattle.edit_sets.specs.FormFault.{GuardedEdits, IsSetOf, first_edit_fault, form_fault, has_edit_of, unfitness_of_edit}
use Rattle.edit_sets.specs.declared.fault.FormFault.{FormFault}
use Rattle.answer_laws.proofs.AddedUp.{all_kept}
use Rattle.file_spec.specs.FileRecords.{FileRecord, file_records}
use Rattle.file_spec.specs.RecordFaults.{◌>>=◌}
use Rattle.file_spec.specs.RecordReading.{required}
use Rattle.file_spec.specs.declared.tag.FieldTag.TheVariants as tags
use Rattle.file_spec.specs.declared.tag.RecordType.TheVariants as types
use Rattle.update_spec.specs.UpdateFaults.{of_record, update_fault_at}
use Rattle.update_spec.specs.UpdateFields.{checked_fields}
use Rattle.update_spec.specs.UpdateHead.{head_update, identification_fault, is_identification, told_by_values, update_identification}
use Rattle.update_spec.specs.UpdateRecords.{record_update}
use Rattle.update_spec.specs.UpdatedCell.{after_update, edits_of_records, edits_of_update, edits_with, told_by, told_by_next, updated_by_records}
use Rattle.update_spec.specs.UpdatedCell.{updated_cell, with_updates}
use Rattle.update_spec.specs.declared.fault.UpdateFault.{UpdateFault}
use Rattle.update_apply.specs.Gives.{IsUpdate, IsUpdateRefusal, RefusesFile}
use Rattle.update_apply.specs.declared.refusal.UpdateRefusal.{UpdateRefusal}
use Rattle.update_apply.specs.declared.refusal.UpdateRefusal.TheVariants as update
use Rattle.update_apply.proofs.Faultless.{all_more, faultless_more, fit_together, form_more, none_more, one_more}
use Rattle.decode_laws.proofs.Contents.{dsid_is_plain}
use Rattle.decode_laws.proofs.Records.{passed, required_is, step}
use Rattle.update_apply.proofs.GoodRecords.{head_row_is_plain, head_texts}
use Rattle.update_apply.proofs.Judged.{IsAlike, alike_after, alike_first, judged_alike}
use Rattle.update_apply.proofs.Taken.{IsTaken, record_taken, told_ok}

-- ---- no edit changes nothing
kept_list : (rs : List Rec) → filter_map (edited_record []) rs ++ [] ≡ rs
kept_list rs = append-nil (filter_map (edited_record []) rs) ∙ all_kept (edited_record []) rs (λ r at. refl)

no_edits : (c : Cell) → apply_edits [] c ≡ c
unfolding apply_edits
no_edits c = λ i. record { head = c.head; vi = kept_list c.vi i; vc = kept_list c.vc i; ve = kept_list c.ve i; fe = kept_list c.fe i }

-- ---- the edits of the records so far
pub record Standing (c : Cell) (edits : List Edit) : Type 0 where
  pub few : length edits ≤ 4095
  pub faultless : first_edit_fault c.head.nall edits ≡ None
  pub found : find_their_records edits c ≡ true
  pub no_head : has_edit_of head_name edits ≡ false

standing_first : (c : Cell) → Standing c []
standing_first c = record { few = omega arith; faultless = refl; found = refl; no_head = refl }

standing_more : (c : Cell) (edits : List Edit) (e : Edit) → Standing c edits → IsTaken c edits e → Standing c (edits ++ (e ∷ []))
standing_more c edits e standing taken = record {
  few = let longer = length-append edits (e ∷ []) in let room = ltb-true (length edits) 4095 taken.room in omega (arith, longer, room);
  faultless = faultless_more c.head.nall edits e standing.faultless taken.new taken.fit;
  found = all_more (has_its_record c) edits e standing.found taken.has;
  no_head = none_more (λ edit. same_name (name_of_edit edit) head_name) edits e standing.no_head taken.no_head;
}

added_one : (c : Cell) → IsReadable c → (edits : List Edit) (e : Edit) → Standing c edits → IsTaken c edits e
    → apply_edits (edits ++ (e ∷ [])) c ≡ apply_edits (e ∷ []) (apply_edits edits c)
added_one c readable edits e standing taken =
    one_more c readable edits e (form_more c.head.nall edits e standing.faultless taken.new taken.fit standing.few)
    (all_more (has_its_record c) edits e standing.found taken.has)

alike_more : (c : Cell) → IsReadable c → (edits : List Edit) (e : Edit) → Standing c edits → IsTaken c edits e
    → IsAlike c (edits ++ (e ∷ [])) (apply_edits (edits ++ (e ∷ [])) c)
alike_more c readable edits e standing taken =
    alike_after (edits ++ (e ∷ [])) c
    (fit_together c readable edits e (form_more c.head.nall edits e standing.faultless taken.new taken.fit standing.few)
    (all_more (has_its_record c) edits e standing.found taken.has))

-- ---- what is told by a record
told_parts : {X : Type 0} (number : ℕ) (meaning : List Field → Result X UpdateFault) (r : FileRecord) (x : X) → told_by number meaning r ≡ Ok x
    → (fields : List Field) × (meaning fields ≡ Ok x)
told_parts {X = X} number meaning r x is = by r.found is
  where
    told : (fields : List Field) (said : Result X UpdateFault) (f : UpdateFault → CellFault) → meaning fields ≡ said
        → result_map_both (λ y. y) f said ≡ Ok x → (fields : List Field) × (meaning fields ≡ Ok x)
    told fields (Ok y) f said is = let same : y ≡ x = cc in (fields, said ∙ ap Ok same)
    told fields (Err e) f said is = absurd cc

    by : (found : Result FrameView FrameFault)
        → told_by number meaning (record { offset = r.offset; found = found }) ≡ Ok x → (fields : List Field) × (meaning fields ≡ Ok x)
    by (Ok frame) is = told frame.fields (meaning frame.fields) (update_fault_at number r.offset) refl is
    by (Err fault) is = absurd cc

-- ---- the records of the file, one after the other
abbrev Agree : Cell → Result (List Edit) CellFault → Result Cell CellFault → Type 0
Agree c (Ok edits) made = Standing c edits × (made ≡ Ok (apply_edits edits c))
Agree c (Err fault) made = made ≡ Err fault

abbrev AgreeOn : Cell → ℕ → ℕ → List FileRecord → List Edit → Cell → Type 0
AgreeOn c level number file earlier d = Agree c (edits_with c level number earlier file) (with_updates level number earlier d file)

-- what is left by the records so far, and how it answers
record IsLeft (c : Cell) (earlier : List Edit) (d : Cell) : Type 0 where
  standing : Standing c earlier
  cell_is : d ≡ apply_edits earlier c
  alike : IsAlike c earlier d

left_first : (c : Cell) → IsLeft c [] c
left_first c = record { standing = standing_first c; cell_is = sym (no_edits c); alike = alike_first c }

left_same : (c : Cell) (earlier : List Edit) (d : Cell) → IsLeft c earlier d → IsLeft c (earlier ++ []) d
left_same c earlier d left = subst (λ edits. IsLeft c edits d) (sym (append-nil earlier)) left

left_more : (c : Cell) → IsReadable c → (earlier : List Edit) (d : Cell) (e : Edit) → IsLeft c earlier d → IsTaken c earlier e
    → IsLeft c (earlier ++ (e ∷ [])) (apply_edits (e ∷ []) d)
left_more c readable earlier d e left taken =
    let is : apply_edits (e ∷ []) d ≡ apply_edits (earlier ++ (e ∷ [])) c =
    ap (apply_edits (e ∷ [])) left.cell_is ∙ sym (added_one c readable earlier e left.standing taken) in
    record {
      standing = standing_more c earlier e left.standing taken;
      cell_is = is;
      alike = subst (IsAlike c (earlier ++ (e ∷ []))) (sym is) (alike_more c readable earlier e left.standing taken);
    }

told_alike : (c d : Cell) (earlier : List Edit) → IsAlike c earlier d → (level number : ℕ) (r : FileRecord)
    → told_by number (record_update d level number earlier) r ≡ told_by number (record_update c level number earlier) r
told_alike c d earlier alike level number r = λ j. told_by number (λ fields. judged_alike c d earlier alike level number fields j) r

walk : (c : Cell) → IsReadable c → (level number : ℕ) (file : List FileRecord) (earlier : List Edit) (d : Cell) → IsLeft c earlier d
    → AgreeOn c level number file earlier d
unfolding edits_with with_updates
walk c readable level number [] earlier d left = (left.standing, ap Ok left.cell_is)
walk c readable level number (r ∷ file) earlier d left =
    subst (λ t. Agree c (told_by number (record_update c level number earlier) r
    >>= λ edit. edits_with c level (number + 1) (earlier ++ option_to_list edit) file)
    (t >>= λ edit. with_updates level (number + 1) (earlier ++ option_to_list edit) (after_update edit d) file))
    (sym (told_alike c d earlier left.alike level number r))
    (by (told_by number (record_update c level number earlier) r) refl (λ more e. walk c readable level (number + 1) file more e))
  where
    by : (t : Result (Option Edit) CellFault) → told_by number (record_update c level number earlier) r ≡ t
        → ((more : List Edit) (e : Cell) → IsLeft c more e → AgreeOn c level (number + 1) file more e)
        → Agree c (t >>= λ edit. edits_with c level (number + 1) (earlier ++ option_to_list edit) file)
        (t >>= λ edit. with_updates level (number + 1) (earlier ++ option_to_list edit) (after_update edit d) file)
    by (Err fault) told rest = refl
    by (Ok None) told rest = rest (earlier ++ []) d (left_same c earlier d left)
    by (Ok (Some e)) told rest =
        let said = told_parts number (record_update c level number earlier) r (Some e) told in
        let taken = record_taken c readable level number earlier said.0 e said.1 in
        rest (earlier ++ (e ∷ [])) (apply_edits (e ∷ []) d) (left_more c readable earlier d e left taken)

-- ---- the edit of the head
abbrev Told : Type 0
Told = Result (HeadEdit × ℕ) UpdateFault

abbrev after_structure : CellHead → List Field → Dssi → Told
after_structure h fields s = of_record (required tags.Dsid dsid_content fields) >>= λ d. told_by_values h d s

abbrev after_fields : CellHead → List Field → Unit {0} → Told
after_fields h fields good = of_record (required tags.Dssi dssi_content fields) >>= after_structure h fields

abbrev after_type : CellHead → List Field → Unit {0} → Told
after_type h fields first = checked_fields 0 types.GeneralInformation fields >>= after_fields h fields

plain_head : (h : CellHead) → is_fit_head h ≡ true → (fields : List Field) (general : HeadEdit × ℕ) → update_identification h fields ≡ Ok general
    → has_plain_texts general.0 ≡ true
unfolding update_identification
plain_head h fit fields general is =
    let first = step (of_record (is_identification fields)) (after_type h fields) general is in
    let good = step (checked_fields 0 types.GeneralInformation fields) (after_fields h fields) general first.2 in
    let s = step (of_record (required tags.Dssi dssi_content fields)) (after_structure h fields) general good.2 in
    let d = step (of_record (required tags.Dsid dsid_content fields)) (λ (d : Dsid). told_by_values h d s.0) general s.2 in
    let e = head_update h d.0 s.0 in
    let level = s.0.nall in
    let told = passed (identification_fault h d.0) (Ok (e, level)) general d.2 in
    let same : (e, level) ≡ general = cc in
    let read = required_is tags.Dsid dsid_content fields d.0 (told_ok (required tags.Dsid dsid_content fields) d.0 d.1) in
    subst (λ (g : HeadEdit × ℕ). has_plain_texts g.0 ≡ true) same
    (head_texts h d.0 s.0 (head_row_is_plain h fit) (dsid_is_plain read.0 d.0 read.1))

head_fits : (nall : ℕ) (e : HeadEdit) → has_plain_texts e ≡ true → unfitness_of_edit nall (Head e) ≡ None
head_fits nall e plain = rw plain refl

-- ---- the whole update: its edits are an edit set, find what they need, and make the cell
pub record IsLawful (c : Cell) (edits : List Edit) (made : Result Cell CellFault) : Type 0 where
  pub form : form_fault c.head.nall edits [] ≡ None
  pub found : find_their_records edits c ≡ true
  pub cell_is : made ≡ Ok (apply_edits edits c)

abbrev pub Lawful : Cell → Result (List Edit) CellFault → Result Cell CellFault → Type 0
Lawful c (Ok edits) made = IsLawful c edits made
Lawful c (Err fault) made = made ≡ Err fault

finished : (c : Cell) → IsReadable c → (e : HeadEdit) → has_plain_texts e ≡ true → (edits : Result (List Edit) CellFault) (made : Result Cell CellFault)
    → Agree c edits made
    → Lawful c (edits >>= λ es. Ok (es ++ (Head e ∷ []))) (made >>= λ d. Ok (apply_edits (Head e ∷ []) d))
finished c readable e plain (Err fault) made is = ap (λ m. m >>= λ d. Ok (apply_edits (Head e ∷ []) d)) is
finished c readable e plain (Ok edits) made is =
    let standing = is.0 in
    let fit = head_fits c.head.nall e plain in
    let form = form_more c.head.nall edits (Head e) standing.faultless standing.no_head fit standing.few in
    let found = all_more (has_its_record c) edits (Head e) standing.found refl in
    record {
      form = form;
      found = found;
      cell_is = ap (λ m. m >>= λ d. Ok (apply_edits (Head e ∷ []) d)) is.1 ∙ ap Ok (sym (one_more c readable edits (Head e) form found));
    }

abbrev edits_then : Cell → (HeadEdit × ℕ) × List FileRecord → Result (List Edit) CellFault
edits_then c general = edits_with c general.0.1 3 [] general.1 >>= λ es. Ok (es ++ (Head general.0.0 ∷ []))

abbrev cell_then : Cell → (HeadEdit × ℕ) × List FileRecord → Result Cell CellFault
cell_then c general = with_updates general.0.1 3 [] c general.1 >>= λ d. Ok (apply_edits (Head general.0.0 ∷ []) d)

behind_general : (c : Cell) → IsReadable c → (general : (HeadEdit × ℕ) × List FileRecord) → has_plain_texts general.0.0 ≡ true
    → Lawful c (edits_then c general) (cell_then c general)
behind_general c readable general plain =
    finished c readable general.0.0 plain (edits_with c general.0.1 3 [] general.1) (with_updates general.0.1 3 [] c general.1)
    (walk c readable general.0.1 3 general.1 [] c (left_first c))

next_parts : {X : Type 0} (number end : ℕ) (meaning : List Field → Result X UpdateFault) (file : List FileRecord) (x : X × List FileRecord)
    → told_by_next number end meaning file ≡ Ok x → (fields : List Field) × (meaning fields ≡ Ok x.0)
next_parts number end meaning [] x is = absurd cc
next_parts {X = X} number end meaning (r ∷ file) x is = by (told_by number meaning r) refl is
  where
    by : (t : Result X CellFault) → told_by number meaning r ≡ t → result_map_both (λ y. (y, file)) (λ e. e) t ≡ Ok x
        → (fields : List Field) × (meaning fields ≡ Ok x.0)
    by (Ok y) told is =
        let parts = told_parts number meaning r y told in
        let both : (y, file) ≡ x = cc in
        (parts.0, parts.1 ∙ ap (λ (z : X × List FileRecord). Ok z.0) both)
    by (Err e) told is = absurd cc

general_lawful : (c : Cell) → IsWritable c → IsReadable c → (end : ℕ) (file : List FileRecord)
    → Lawful c (told_by_next 2 end (update_identification c.head) file >>= edits_then c) (told_by_next 2 end (update_identification c.head)
    file >>= cell_then c)
general_lawful c writable readable end file = by (told_by_next 2 end (update_identification c.head) file) refl
  where
    by : (t : Result ((HeadEdit × ℕ) × List FileRecord) CellFault) → told_by_next 2 end (update_identification c.head) file ≡ t
        → Lawful c (t >>= edits_then c) (t >>= cell_then c)
    by (Err fault) told = refl
    by (Ok general) told =
        let parts = next_parts 2 end (update_identification c.head) file general told in
        behind_general c readable general (plain_head c.head writable.head_fits parts.0 general.0 parts.1)

pub whole : (c : Cell) → IsWritable c → IsReadable c → (end : ℕ) (file : List FileRecord) → Lawful c (edits_of_records c end file)
    (updated_by_records c end file)
unfolding edits_of_records updated_by_records
whole c writable readable end file = by (told_by_next 1 end Ok file)
  where
    by : (t : Result (List Field × List FileRecord) CellFault)
        → Lawful c (t >>= λ descriptive. told_by_next 2 end (update_identification c.head) descriptive.1 >>= edits_then c)
        (t >>= λ descriptive. told_by_next 2 end (update_identification c.head) descriptive.1 >>= cell_then c)
    by (Err fault) = refl
    by (Ok descriptive) = general_lawful c writable readable end descriptive.1

-- an update with edits
pub lawful : (c : Cell) (found : Result (List Edit) CellFault) (made : Result Cell CellFault) (edits : List Edit) → found ≡ Ok edits
    → Lawful c found made → IsLawful c edits made
lawful c found made edits is law = subst (λ f. Lawful c f made) is law

pub lawless : (c : Cell) (found : Result (List Edit) CellFault) (made : Result Cell CellFault) (fault : CellFault) → found ≡ Err fault
    → Lawful c found made → made ≡ Err fault
lawless c found made fault is law = subst (λ f. Lawful c f made) is law

-- a refusal of the file is one for the fault of the cell too
pub refusal_is : (c : Cell) (b : List ℕ) → IsWritable c → IsReadable c → (refusal : UpdateRefusal) → RefusesFile {X = List Edit} refusal (edits_of_update c b)
    → IsUpdateRefusal c b refusal
refusal_is c b writable readable (update.Fault fault) is =
    (lawless c (edits_of_update c b) (updated_cell c b) fault is (whole c writable readable (length b) (file_records b)), is)
refusal_is c b writable readable update.NoMemory is = tt

-- the set of the edits is the update
pub set_is : (c : Cell) (b : List ℕ) → IsWritable c → IsReadable c → (edits : List Edit) (set : GuardedEdits) → edits_of_update c b ≡ Ok edits
    → IsSetOf c.head.nall edits [] set → IsUpdate c b set
set_is c b writable readable edits set are is =
    let law = lawful c (edits_of_update c b) (updated_cell c b) edits are (whole c writable readable (length b) (file_records b)) in
    record {
      edits_are = are ∙ ap Ok (sym is.edits_are);
      cell_is = law.cell_is ∙ ap (λ (es : List Edit). Ok (apply_edits es c)) (sym is.edits_are);
      found = ap (λ es. find_their_records es c) is.edits_are ∙ law.found;
      nall_is = is.nall_is;
      no_guards = is.guards_are;
    }

-- the edits have no fault of form, so a set of them is made
pub no_form_fault : (c : Cell) (b : List ℕ) → IsWritable c → IsReadable c → (edits : List Edit) (fault : FormFault) → edits_of_update c b ≡ Ok edits
    → form_fault c.head.nall edits [] ≡ Some fault → ⊥
no_form_fault c b writable readable edits fault are faulty =
    let law = lawful c (edits_of_update c b) (updated_cell c b) edits are (whole c writable readable (length b) (file_records b)) in
    let none = law.form in
    absurd cc

-- and they are few
pub few_edits : (c : Cell) (b : List ℕ) → IsWritable c → IsReadable c → (edits : List Edit) → edits_of_update c b ≡ Ok edits → length edits ≤ 4096
few_edits c b writable readable edits are =
    let law = lawful c (edits_of_update c b) (updated_cell c b) edits are (whole c writable readable (length b) (file_records b)) in
    (formed c.head.nall edits [] law.form).bounded
