-- A record of an update is judged alike by the cell before the update and by the one that the records before it left.
use Rattle.std.proofs.Common.{◌≡◌, ℕ, ◌+◌, ◌==◌, ◌&&◌, Bool, true, false, not, is_some, List, [], length, nat_le, nat_lt, Option, None, Some, Result, Ok}
use Rattle.std.proofs.Common.{refl, sym, ap, ◌∙◌}
use Rattle.std.specs.Prelude.{if◌then◌else◌}
use Rattle.std.specs.List.{list_any}
use Rattle.std.specs.Option.{option_and_then, ok_or}
use Rattle.std.proofs.lemmas.Bool.{both_ways as contradiction, false_from_ne_true}
use Rattle.frame_spec.specs.RecordFrame.{Field}
use Rattle.s57_types.specs.RecordFields.{written_length, length_limit}
use Rattle.s57_types.specs.Heads.{head_name}
use Rattle.s57_types.specs.declared.cell.Cell.{Cell}
use Rattle.s57_types.specs.declared.field.Frid.{Frid}
use Rattle.s57_types.specs.declared.field.Vrid.{Vrid}
use Rattle.s57_types.specs.declared.name.Lnam.{Lnam}
use Rattle.s57_types.specs.declared.name.RecName.{RecName}
use Rattle.s57_types.specs.declared.record.Feature.{Feature}
use Rattle.s57_types.specs.declared.record.Vector.{Vector}
use Rattle.s57_types.specs.declared.record.Rec.{Rec}
use Rattle.s57_types.specs.declared.record.Rec.TheVariants.{V, F, H}
use Rattle.field_spec.specs.Contents.{vrid_content}
use Rattle.cell_spec.specs.declared.edit.Edit.{Edit}
use Rattle.cell_spec.specs.declared.edit.Edit.TheVariants.{Add, Set, Del}
use Rattle.cell_spec.specs.Edits.{name_of_edit, edit_of, head_by, apply_edits}
use Rattle.cell_spec.specs.Lookup.{head_and_records, is_named, lookup_record, name_of}
use Rattle.cell_spec.specs.Names.{same_identity, same_name}
use Rattle.cell_spec.proofs.Orders.{one_when_same}
use Rattle.edit_sets.specs.FormFault.{has_edit_of}
use Rattle.file_spec.specs.FieldTags.{is_tagged}
use Rattle.file_spec.specs.RecordFaults.{◌>>=◌, ◌>>◌, demand}
use Rattle.file_spec.specs.RecordReading.{record_type, required}
use Rattle.file_spec.specs.declared.fault.RecordFault.TheVariants.{NotBase, TwiceName, TooLong}
use Rattle.file_spec.specs.declared.tag.FieldTag.TheVariants as tags
use Rattle.file_spec.specs.declared.tag.RecordType.{RecordType}
use Rattle.file_spec.specs.declared.tag.RecordType.TheVariants as types
use Rattle.answer_laws.specs.EditedAnswers.{FindTheirRecords, edited_answer, record_after}
use Rattle.answer_laws.proofs.Among.{any_passes, found}
use Rattle.answer_laws.proofs.EditedHead.{level_kept}
use Rattle.answer_laws.proofs.EditedNames.{record_is}
use Rattle.answer_laws.proofs.FreeNames.{IsFree, no_edit, nothing_added, record_stays}
use Rattle.update_spec.specs.ControlFields.{instruction_of, has_controls}
use Rattle.update_spec.specs.UpdateFaults.{of_record}
use Rattle.update_spec.specs.UpdateFields.{checked_fields}
use Rattle.update_spec.specs.UpdateRecords.{are_mixed, feature_edit, feature_in, feature_name, feature_update, identifiers, inserted_feature}
use Rattle.update_spec.specs.UpdateRecords.{inserted_vector, is_next, modified_feature, modified_vector, record_update, update_limit, update_of_type}
use Rattle.update_spec.specs.UpdateRecords.{vector_edit, vector_in, vector_update}
use Rattle.update_spec.specs.declared.control.Instruction.{Instruction}
use Rattle.update_spec.specs.declared.control.Instruction.TheVariants.{Insert, Delete, Modify}
use Rattle.update_spec.specs.declared.fault.UpdateFault.{UpdateFault}
use Rattle.update_spec.specs.declared.fault.UpdateFault.TheVariants.{Record, NoTarget, TargetThere, WrongVersion, OtherIdentity, BadControl, LevelMix}
use Rattle.update_spec.specs.declared.fault.UpdateFault.TheVariants.{TooManyEdits}
use Rattle.update_spec.specs.declared.identifiers.Identifiers.{Identifiers}

-- a cell has the level of another, and under each name that no earlier edit is about what the other has
pub record IsAlike (c : Cell) (earlier : List Edit) (d : Cell) : Type 0 where
  pub level_is : d.head.nall ≡ c.head.nall
  pub found_is : (n : RecName) → has_edit_of n earlier ≡ false → lookup_record d n ≡ lookup_record c n

pub alike_first : (c : Cell) → IsAlike c [] c
alike_first c = record { level_is = refl; found_is = λ n new. refl }

-- ---- so does the cell that edits leave
module _ (edits : List Edit) (c : Cell) (fit : FindTheirRecords edits c) where
  abbrev d : Cell
  d = apply_edits edits c

  same_level : d.head.nall ≡ c.head.nall
  unfolding apply_edits
  same_level = level_kept edits c.head

  module _ (n : RecName) (new : has_edit_of n edits ≡ false) where
    free : IsFree edits n
    free e at = false_from_ne_true (same_name (name_of_edit e) n) (λ named.
        contradiction (has_edit_of n edits) new (any_passes (λ edit. same_name (name_of_edit edit) n) e edits at named))

    old_kept : (r : Rec) → same_name n (name_of r) ≡ true → edited_answer edits r ≡ Some r
    old_kept (V v) named = record_stays edits n free (V v) named
    old_kept (F f) named = record_stays edits n free (F f) named
    old_kept (H h) named = ap (λ e. Some (H (head_by h e))) (ap (λ m. edit_of m edits) (sym (one_when_same n head_name named)) ∙ no_edit edits n free)

    kept_by : (o : Option Rec) → lookup_record c n ≡ o → record_after edits n o ≡ o
    kept_by None is = nothing_added edits n free
    kept_by (Some r) is = old_kept r (found (is_named n) (head_and_records c) r is).passes

    kept : lookup_record d n ≡ lookup_record c n
    kept = record_is edits c fit n ∙ kept_by (lookup_record c n) refl

  pub alike_after : IsAlike c edits d
  alike_after = record { level_is = same_level; found_is = kept }

-- ---- records
-- what stands behind the test of a name, where it matters for a new name alone
behind_name : {X : Type 0} (twice : Bool) (fault : UpdateFault) (room : Option UpdateFault) (x y : Result X UpdateFault) → (twice ≡ false → x ≡ y)
    → ((if twice then Some fault else room) >> x) ≡ ((if twice then Some fault else room) >> y)
behind_name true fault room x y same = refl
behind_name false fault room x y same = ap (λ r. room >> r) (same refl)

module _ (c d : Cell) (earlier : List Edit) (alike : IsAlike c earlier d) where
  vector_alike : (i : Instruction) (v : Vrid) (fields : List Field) → lookup_record d v.name ≡ lookup_record c v.name
      → vector_edit i d v fields ≡ vector_edit i c v fields
  unfolding vector_edit
  vector_alike Insert v fields same =
      λ j. demand (not (is_some (same j))) TargetThere
      >> (demand (not (has_controls types.Vector fields)) BadControl
      >> (demand (nat_le (written_length (alike.level_is j) (inserted_vector v fields)) length_limit) (Record TooLong)
      >> Ok (Add (inserted_vector v fields))))
  vector_alike Delete v fields same = λ j. ok_or (option_and_then vector_in (same j)) NoTarget >>= λ (target : Vector). Ok (Del v.name)
  vector_alike Modify v fields same =
      λ j. ok_or (option_and_then vector_in (same j)) NoTarget
      >>= λ (target : Vector). demand (v.rver == target.rver + 1) WrongVersion
      >> (modified_vector target v fields
      >>= λ (r : Rec). demand (nat_le (written_length (alike.level_is j) r) length_limit) (Record TooLong) >> Ok (Set r))

  feature_alike : (i : Instruction) (level : ℕ) (f : Frid) (l : Lnam) (fields : List Field)
      → lookup_record d (feature_name f) ≡ lookup_record c (feature_name f) → feature_edit i d level f l fields ≡ feature_edit i c level f l fields
  unfolding feature_edit
  feature_alike Insert level f l fields same =
      λ j. demand (not (is_some (same j))) TargetThere
      >> (demand (not (has_controls types.Feature fields)) BadControl
      >> (demand (nat_le (written_length (alike.level_is j) (inserted_feature level f l fields)) length_limit) (Record TooLong)
      >> Ok (Add (inserted_feature level f l fields))))
  feature_alike Delete level f l fields same =
      λ j. ok_or (option_and_then feature_in (same j)) NoTarget
      >>= λ (target : Feature). demand (same_identity l target.foid) OtherIdentity >> Ok (Del (feature_name f))
  feature_alike Modify level f l fields same =
      λ j. ok_or (option_and_then feature_in (same j)) NoTarget
      >>= λ (target : Feature). demand (f.rver == target.rver + 1) WrongVersion
      >> (demand (same_identity l target.foid) OtherIdentity
      >> (modified_feature level target f fields
      >>= λ (r : Rec). demand (nat_le (written_length (alike.level_is j) r) length_limit) (Record TooLong) >> Ok (Set r)))

  vector_next : (fields : List Field) (v : Vrid) (i : Instruction)
      → (is_next earlier v.name >> vector_edit i d v fields) ≡ (is_next earlier v.name >> vector_edit i c v fields)
  vector_next fields v i =
      behind_name (has_edit_of v.name earlier) (Record TwiceName) (demand (nat_lt (length earlier) update_limit) TooManyEdits)
      (vector_edit i d v fields) (vector_edit i c v fields) (λ new. vector_alike i v fields (alike.found_is v.name new))

  vectors : (fields : List Field) → vector_update d earlier fields ≡ vector_update c earlier fields
  unfolding vector_update
  vectors fields =
      λ j. checked_fields 0 types.Vector fields
      >>= λ (good : Unit {0}). of_record (required tags.Vrid vrid_content fields)
      >>= λ (v : Vrid). ok_or (instruction_of v.ruin) (Record NotBase)
      >>= λ (i : Instruction). vector_next fields v i j

  abbrev levelled : Cell → ℕ → List Field → Identifiers → Instruction → Result Edit UpdateFault
  levelled x level fields ids i = demand (not (list_any (is_tagged tags.Natf) fields && are_mixed level x.head.nall)) LevelMix
      >> feature_edit i x level ids.frid ids.foid fields

  feature_next : (level : ℕ) (fields : List Field) (ids : Identifiers) (i : Instruction)
      → (is_next earlier (feature_name ids.frid) >> levelled d level fields ids i) ≡ (is_next earlier (feature_name ids.frid) >> levelled c level fields ids i)
  feature_next level fields ids i =
      let n = feature_name ids.frid in
      behind_name (has_edit_of n earlier) (Record TwiceName) (demand (nat_lt (length earlier) update_limit) TooManyEdits)
      (levelled d level fields ids i) (levelled c level fields ids i)
      (λ new. λ j. demand (not (list_any (is_tagged tags.Natf) fields && are_mixed level (alike.level_is j))) LevelMix
      >> feature_alike i level ids.frid ids.foid fields (alike.found_is n new) j)

  features : (level : ℕ) (fields : List Field) → feature_update d level earlier fields ≡ feature_update c level earlier fields
  unfolding feature_update
  features level fields =
      λ j. checked_fields level types.Feature fields
      >>= λ (good : Unit {0}). identifiers fields
      >>= λ (ids : Identifiers). ok_or (instruction_of ids.frid.ruin) (Record NotBase)
      >>= λ (i : Instruction). feature_next level fields ids i j

  by_type : (type : RecordType) (level number : ℕ) (fields : List Field)
      → update_of_type type d level number earlier fields ≡ update_of_type type c level number earlier fields
  by_type types.GeneralInformation level number fields = refl
  by_type types.GeographicReference level number fields = refl
  by_type types.Vector level number fields = ap (λ r. r >>= λ (edit : Edit). Ok (Some edit)) (vectors fields)
  by_type types.Feature level number fields = ap (λ r. r >>= λ (edit : Edit). Ok (Some edit)) (features level fields)

  pub judged_alike : (level number : ℕ) (fields : List Field) → record_update d level number earlier fields ≡ record_update c level number earlier fields
  unfolding record_update
  judged_alike level number fields = λ j. of_record (record_type fields) >>= λ (type : RecordType). by_type type level number fields j
