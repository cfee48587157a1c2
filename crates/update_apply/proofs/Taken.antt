-- What is known of the edit that a record of an update stands for.
use Rattle.std.proofs.Common.{◌≡◌, ℕ, ◌+◌, ◌==◌, ◌&&◌, Bool, true, false, cond, not, is_some, List, ◌++◌, length, nat_lt, Option, None, Some, Result, Ok}
use Rattle.std.proofs.Common.{Err, refl, sym, ap, subst, ◌∙◌}
use Rattle.std.specs.List.{list_all, list_any, flat_map}
use Rattle.std.specs.Option.{option_and_then, ok_or}
use Rattle.frame_spec.specs.RecordFrame.{Field}
use Rattle.s57_types.specs.FieldRows.{attribute_row, partner_row}
use Rattle.s57_types.specs.Fitness.{attribute_texts, is_vector_kind}
use Rattle.s57_types.specs.Heads.{head_name}
use Rattle.s57_types.specs.declared.name.Lnam.{Lnam}
use Rattle.s57_types.specs.declared.name.RecName.{RecName}
use Rattle.s57_types.specs.declared.record.Feature.{Feature}
use Rattle.s57_types.specs.declared.record.Partner.{Partner}
use Rattle.s57_types.specs.declared.record.Spot.{Spot}
use Rattle.s57_types.specs.declared.record.End.{End}
use Rattle.s57_types.specs.declared.record.Vector.{Vector}
use Rattle.s57_types.specs.declared.record.Rec.{Rec}
use Rattle.s57_types.specs.declared.record.Rec.TheVariants.{V, F, H}
use Rattle.s57_types.specs.declared.field.Frid.{Frid}
use Rattle.s57_types.specs.declared.field.Vrid.{Vrid}
use Rattle.s57_types.specs.declared.cell.Cell.{Cell}
use Rattle.field_spec.specs.Contents.{attribute_content, partner_content, place_content, vrid_content, end_content}
use Rattle.cell_spec.specs.declared.edit.Edit.{Edit}
use Rattle.cell_spec.specs.declared.edit.Edit.TheVariants.{Add, Set, Del}
use Rattle.cell_spec.specs.Edits.{name_of_edit, has_its_record}
use Rattle.cell_spec.specs.Lookup.{listed_record, name_of}
use Rattle.cell_spec.specs.Names.{same_identity, same_name}
use Rattle.cell_spec.specs.Readable.{IsReadable}
use Rattle.edit_sets.specs.FormFault.{has_edit_of, unfitness_of_edit}
use Rattle.file_spec.specs.FieldTags.{is_tagged}
use Rattle.file_spec.specs.RecordFaults.{◌>>=◌, ◌>>◌, demand}
use Rattle.file_spec.specs.RecordReading.{record_type, required, rows_of}
use Rattle.file_spec.specs.declared.fault.RecordFault.{RecordFault}
use Rattle.file_spec.specs.declared.fault.RecordFault.TheVariants.{NotBase, TwiceName, HeadOrder, TooLong}
use Rattle.file_spec.specs.declared.tag.FieldTag.TheVariants as tags
use Rattle.file_spec.specs.declared.tag.RecordType.{RecordType}
use Rattle.file_spec.specs.declared.tag.RecordType.TheVariants as types
use Rattle.decode_laws.proofs.Contents.{and_true, attribute_is_plain, attributes_are_plain, end_names_vector, ends_name_vectors, partner_is_plain}
use Rattle.decode_laws.proofs.Contents.{partners_are_plain, place_names_vector, places_name_vectors, vrid_names_vector}
use Rattle.decode_laws.proofs.Records.{IsGood, demanded, passed, required_is, rows_pass, step, texts_flat}
use Rattle.update_apply.proofs.GoodRecords.{attributes_pass, feature_rows, fits_when_short, nationals_are_plain, target_feature_is_good}
use Rattle.update_apply.proofs.GoodRecords.{target_vector_is_good, texts_joined, updated_pass, vector_rows}
use Rattle.update_spec.specs.ControlFields.{instruction_of, control_among, has_controls}
use Rattle.update_spec.specs.UpdateFaults.{of_record}
use Rattle.update_spec.specs.UpdateFields.{checked_fields}
use Rattle.update_spec.specs.UpdatedAttributes.{updated_attributes}
use Rattle.update_spec.specs.UpdatedRows.{Coordinates, updated_rows, updated_coordinates}
use Rattle.update_spec.specs.UpdateRecords.{are_mixed, feature_edit, feature_in, feature_name, feature_update, given_coordinates, identifiers}
use Rattle.update_spec.specs.UpdateRecords.{inserted_feature, inserted_vector, is_new, is_next, is_short, modified_feature, modified_vector, no_update}
use Rattle.update_spec.specs.UpdateRecords.{record_update, target_feature, target_vector, update_limit, update_of_type, vector_edit, vector_in}
use Rattle.update_spec.specs.UpdateRecords.{feature_with, vector_update, vector_with}
use Rattle.update_spec.specs.declared.control.ControlTag.TheVariants.{Vrpc, Sgcc, Ffpc, Fspc}
use Rattle.update_spec.specs.declared.control.Instruction.{Instruction}
use Rattle.update_spec.specs.declared.control.Instruction.TheVariants.{Insert, Delete, Modify}
use Rattle.update_spec.specs.declared.fault.UpdateFault.{UpdateFault}
use Rattle.update_spec.specs.declared.fault.UpdateFault.TheVariants.{Record, NoTarget, TargetThere, WrongVersion, OtherIdentity, BadControl, LevelMix}
use Rattle.update_spec.specs.declared.fault.UpdateFault.TheVariants.{TooManyEdits}
use Rattle.update_spec.specs.declared.identifiers.Identifiers.{Identifiers}

-- ---- what steps came from
pub told_ok : {X : Type 0} (r : Result X RecordFault) (x : X) → of_record r ≡ Ok x → r ≡ Ok x
told_ok (Ok y) x is = cc
told_ok (Err e) x is = absurd cc

found_ok : {X E : Type 0} (o : Option X) (e : E) (x : X) → ok_or o e ≡ Ok x → o ≡ Some x
found_ok None e x is = absurd cc
found_ok (Some y) e x is = cc

-- ---- names that are new, and names of targets: none is the head's
new_parts : (head : Rec) (b : Bool) (o : Option Rec) → not (is_some (cond b (Some head) o)) ≡ true → (b ≡ false) × (is_some o ≡ false)
new_parts head true o is = absurd cc
new_parts head false None is = (refl, refl)
new_parts head false (Some r) is = absurd cc

target_parts : {X : Type 0} (h : Rec → Option X) (head : Rec) (b : Bool) (o : Option Rec) (x : X) → h head ≡ None
    → option_and_then h (cond b (Some head) o) ≡ Some x → (b ≡ false) × (is_some o ≡ true)
target_parts h head true o x none is = absurd cc
target_parts h head false None x none is = absurd cc
target_parts h head false (Some r) x none is = (refl, refl)

-- ---- the edit of a record of a name
pub record Founded (c : Cell) (n : RecName) (e : Edit) : Type 0 where
  pub name_is : name_of_edit e ≡ n
  pub has : has_its_record c e ≡ true
  pub fit : unfitness_of_edit c.head.nall e ≡ None
  pub no_head : same_name n head_name ≡ false

abbrev added : Cell → Rec → Result Edit UpdateFault
added c r = demand (is_short c r) (Record TooLong) >> Ok (Add r)

abbrev replaced : Cell → Rec → Result Edit UpdateFault
replaced c r = demand (is_short c r) (Record TooLong) >> Ok (Set r)

added_is : (c : Cell) (n : RecName) (r : Rec) (e : Edit) → is_new c n ≡ true → name_of r ≡ n → IsGood c.head.nall r → added c r ≡ Ok e
    → Founded c n e
added_is c n r e new named good is =
    let short = demanded (is_short c r) (Record TooLong) (Ok (Add r)) e is in
    let same : Add r ≡ e = cc in
    let free = new_parts (H c.head) (same_name n head_name) (listed_record c n) new in
    subst (Founded c n) same (record {
      name_is = named;
      has = ap (λ m. not (is_some (listed_record c m))) named ∙ ap not free.1;
      fit = fits_when_short c.head.nall r good short.0;
      no_head = free.0;
    })

replaced_is : (c : Cell) (n : RecName) (r : Rec) (e : Edit) → (same_name n head_name ≡ false) × (is_some (listed_record c n) ≡ true)
    → name_of r ≡ n → IsGood c.head.nall r → replaced c r ≡ Ok e → Founded c n e
replaced_is c n r e there named good is =
    let short = demanded (is_short c r) (Record TooLong) (Ok (Set r)) e is in
    let same : Set r ≡ e = cc in
    subst (Founded c n) same (record {
      name_is = named;
      has = ap (λ m. is_some (listed_record c m)) named ∙ there.1;
      fit = fits_when_short c.head.nall r good short.0;
      no_head = there.0;
    })

deleted_is : (c : Cell) (n : RecName) (e : Edit) → (same_name n head_name ≡ false) × (is_some (listed_record c n) ≡ true) → Del n ≡ e → Founded c n e
deleted_is c n e there same = subst (Founded c n) same (record { name_is = refl; has = there.1; fit = refl; no_head = there.0 })

-- ---- vector records
abbrev pub points_then : Vector → Vrid → List Field → List End → Result Rec UpdateFault
points_then target d fields ends = updated_coordinates (control_among Sgcc fields) (given_coordinates fields) (target.plane, target.deep)
    >>= λ points. Ok (vector_with target d fields ends points)

-- what comes out of a modified vector record has its name, and good names and texts
record IsMade (nall : ℕ) (n : RecName) (r : Rec) : Type 0 where
  named : name_of r ≡ n
  good : IsGood nall r

vector_made : (nall : ℕ) (target : Vector) (d : Vrid) (fields : List Field) (r : Rec) → is_vector_kind d.name.kind ≡ true → IsGood nall (V target)
    → modified_vector target d fields ≡ Ok r → IsMade nall d.name r
unfolding modified_vector
vector_made nall target d fields r kind good is =
    let ends = step (updated_rows (control_among Vrpc fields) (rows_of tags.Vrpt end_content fields) target.ends) (points_then target d fields) r is in
    let points = step (updated_coordinates (control_among Sgcc fields) (given_coordinates fields) (target.plane, target.deep))
    (λ (points : Coordinates). Ok (vector_with target d fields ends.0 points)) r ends.2 in
    let same : vector_with target d fields ends.0 points.0 ≡ r = cc in
    let rows = vector_rows nall target good in
    let given = rows_of tags.Vrpt end_content fields in
    let attrs = rows_of tags.Attv (attribute_content 0) fields in
    let ends_pass = updated_pass end_names_vector (control_among Vrpc fields) given target.ends ends.0
    (rows_pass tags.Vrpt end_content end_names_vector ends_name_vectors fields) rows.ends ends.1 in
    let attrs_pass = attributes_pass (attribute_is_plain 0) 0 attrs target.attrs
    (rows_pass tags.Attv (attribute_content 0) (attribute_is_plain 0) (attributes_are_plain 0) fields) rows.attrs in
    record {
      named = ap name_of (sym same);
      good = subst (IsGood nall) same (record {
        names = and_true (is_vector_kind d.name.kind) (list_all end_names_vector ends.0) kind ends_pass;
        texts = texts_flat (attribute_row 0) (updated_attributes 0 attrs target.attrs) attrs_pass;
      });
    }

vector_inserted : (nall : ℕ) (d : Vrid) (fields : List Field) → is_vector_kind d.name.kind ≡ true → IsGood nall (inserted_vector d fields)
unfolding inserted_vector
vector_inserted nall d fields kind = record {
  names = and_true (is_vector_kind d.name.kind) (list_all end_names_vector (rows_of tags.Vrpt end_content fields)) kind
      (rows_pass tags.Vrpt end_content end_names_vector ends_name_vectors fields);
  texts = texts_flat (attribute_row 0) (rows_of tags.Attv (attribute_content 0) fields)
      (rows_pass tags.Attv (attribute_content 0) (attribute_is_plain 0) (attributes_are_plain 0) fields);
}

abbrev vector_version_then : Cell → Vrid → List Field → Vector → Result Edit UpdateFault
vector_version_then c d fields target = demand (d.rver == target.rver + 1) WrongVersion >> (modified_vector target d fields >>= replaced c)

vector_there : (c : Cell) (n : RecName) (target : Vector) → ok_or (target_vector c n) NoTarget ≡ Ok target
    → (same_name n head_name ≡ false) × (is_some (listed_record c n) ≡ true)
vector_there c n target is = target_parts vector_in (H c.head) (same_name n head_name) (listed_record c n) target refl
    (found_ok (target_vector c n) NoTarget target is)

vector_founded : (instruction : Instruction) (c : Cell) → IsReadable c → (d : Vrid) (fields : List Field) (e : Edit) → is_vector_kind d.name.kind ≡ true
    → vector_edit instruction c d fields ≡ Ok e → Founded c d.name e
unfolding vector_edit inserted_vector
vector_founded Insert c readable d fields e kind is =
    let r = inserted_vector d fields in
    let new = demanded (is_new c d.name) TargetThere (demand (not (has_controls types.Vector fields)) BadControl >> added c r) e is in
    let plain = demanded (not (has_controls types.Vector fields)) BadControl (added c r) e new.1 in
    added_is c d.name r e new.0 refl (vector_inserted c.head.nall d fields kind) plain.1
vector_founded Delete c readable d fields e kind is =
    let t = step (ok_or (target_vector c d.name) NoTarget) (λ (target : Vector). Ok (Del d.name)) e is in
    let same : Del d.name ≡ e = cc in
    deleted_is c d.name e (vector_there c d.name t.0 t.1) same
vector_founded Modify c readable d fields e kind is =
    let t = step (ok_or (target_vector c d.name) NoTarget) (vector_version_then c d fields) e is in
    let version = demanded (d.rver == t.0.rver + 1) WrongVersion (modified_vector t.0 d fields >>= replaced c) e t.2 in
    let r = step (modified_vector t.0 d fields) (replaced c) e version.1 in
    let good = target_vector_is_good c readable d.name t.0 (found_ok (target_vector c d.name) NoTarget t.0 t.1) in
    let made = vector_made c.head.nall t.0 d fields r.0 kind good r.1 in
    replaced_is c d.name r.0 e (vector_there c d.name t.0 t.1) made.named made.good r.2

-- ---- feature records
abbrev pub places_then : ℕ → Feature → Frid → List Field → List Partner → Result Rec UpdateFault
places_then level target d fields partners = updated_rows (control_among Fspc fields) (rows_of tags.Fspt place_content fields) target.places
    >>= λ places. Ok (feature_with level target d fields partners places)

abbrev mixed : ℕ → ℕ → List Field → Bool
mixed nall level fields = list_any (is_tagged tags.Natf) fields && are_mixed level nall

feature_made : (nall level : ℕ) (target : Feature) (d : Frid) (fields : List Field) (r : Rec) → not (mixed nall level fields) ≡ true
    → IsGood nall (F target) → modified_feature level target d fields ≡ Ok r → IsMade nall (feature_name d) r
unfolding modified_feature
feature_made nall level target d fields r unmixed good is =
    let partners = step (updated_rows (control_among Ffpc fields) (rows_of tags.Ffpt partner_content fields) target.partners)
    (places_then level target d fields) r is in
    let places = step (updated_rows (control_among Fspc fields) (rows_of tags.Fspt place_content fields) target.places)
    (λ (places : List Spot). Ok (feature_with level target d fields partners.0 places)) r partners.2 in
    let same : feature_with level target d fields partners.0 places.0 ≡ r = cc in
    let rows = feature_rows nall target good in
    let attf = rows_of tags.Attf (attribute_content 0) fields in
    let natf = rows_of tags.Natf (attribute_content level) fields in
    let new_attf = updated_attributes 0 attf target.attf in
    let new_natf = updated_attributes level natf target.natf in
    let places_pass = updated_pass place_names_vector (control_among Fspc fields) (rows_of tags.Fspt place_content fields) target.places places.0
    (rows_pass tags.Fspt place_content place_names_vector places_name_vectors fields) rows.places places.1 in
    let partners_pass = updated_pass partner_is_plain (control_among Ffpc fields) (rows_of tags.Ffpt partner_content fields) target.partners partners.0
    (rows_pass tags.Ffpt partner_content partner_is_plain partners_are_plain fields) rows.partners partners.1 in
    let attf_pass = attributes_pass (attribute_is_plain 0) 0 attf target.attf
    (rows_pass tags.Attf (attribute_content 0) (attribute_is_plain 0) (attributes_are_plain 0) fields) rows.attf in
    let natf_pass = attributes_pass (attribute_is_plain nall) level natf target.natf (nationals_are_plain level nall fields unmixed) rows.natf in
    record {
      named = ap name_of (sym same);
      good = subst (IsGood nall) same (record {
        names = places_pass;
        texts = texts_joined (attribute_texts 0 new_attf ++ attribute_texts nall new_natf) (flat_map partner_row partners.0)
            (texts_joined (attribute_texts 0 new_attf) (attribute_texts nall new_natf) (texts_flat (attribute_row 0) new_attf attf_pass)
            (texts_flat (attribute_row nall) new_natf natf_pass)) (texts_flat partner_row partners.0 partners_pass);
      });
    }

feature_inserted : (nall level : ℕ) (d : Frid) (l : Lnam) (fields : List Field) → not (mixed nall level fields) ≡ true
    → IsGood nall (inserted_feature level d l fields)
unfolding inserted_feature
feature_inserted nall level d l fields unmixed =
    let attf = rows_of tags.Attf (attribute_content 0) fields in
    let natf = rows_of tags.Natf (attribute_content level) fields in
    let partners = rows_of tags.Ffpt partner_content fields in
    record {
      names = rows_pass tags.Fspt place_content place_names_vector places_name_vectors fields;
      texts = texts_joined (attribute_texts 0 attf ++ attribute_texts nall natf) (flat_map partner_row partners)
          (texts_joined (attribute_texts 0 attf) (attribute_texts nall natf)
          (texts_flat (attribute_row 0) attf (rows_pass tags.Attf (attribute_content 0) (attribute_is_plain 0) (attributes_are_plain 0) fields))
          (texts_flat (attribute_row nall) natf (nationals_are_plain level nall fields unmixed)))
          (texts_flat partner_row partners (rows_pass tags.Ffpt partner_content partner_is_plain partners_are_plain fields));
    }

abbrev identity_then : Cell → ℕ → Frid → Lnam → List Field → Feature → Result Edit UpdateFault
identity_then c level d l fields target = demand (same_identity l target.foid) OtherIdentity >> (modified_feature level target d fields >>= replaced c)

abbrev feature_version_then : Cell → ℕ → Frid → Lnam → List Field → Feature → Result Edit UpdateFault
feature_version_then c level d l fields target = demand (d.rver == target.rver + 1) WrongVersion >> identity_then c level d l fields target

feature_there : (c : Cell) (n : RecName) (target : Feature) → ok_or (target_feature c n) NoTarget ≡ Ok target
    → (same_name n head_name ≡ false) × (is_some (listed_record c n) ≡ true)
feature_there c n target is = target_parts feature_in (H c.head) (same_name n head_name) (listed_record c n) target refl
    (found_ok (target_feature c n) NoTarget target is)

feature_founded : (instruction : Instruction) (c : Cell) → IsReadable c → (level : ℕ) (d : Frid) (l : Lnam) (fields : List Field) (e : Edit)
    → not (mixed c.head.nall level fields) ≡ true → feature_edit instruction c level d l fields ≡ Ok e → Founded c (feature_name d) e
unfolding feature_edit inserted_feature
feature_founded Insert c readable level d l fields e unmixed is =
    let r = inserted_feature level d l fields in
    let new = demanded (is_new c (feature_name d)) TargetThere (demand (not (has_controls types.Feature fields)) BadControl >> added c r) e is in
    let plain = demanded (not (has_controls types.Feature fields)) BadControl (added c r) e new.1 in
    added_is c (feature_name d) r e new.0 refl (feature_inserted c.head.nall level d l fields unmixed) plain.1
feature_founded Delete c readable level d l fields e unmixed is =
    let t = step (ok_or (target_feature c (feature_name d)) NoTarget)
    (λ (target : Feature). demand (same_identity l target.foid) OtherIdentity >> Ok (Del (feature_name d))) e is in
    let same_one = demanded (same_identity l t.0.foid) OtherIdentity (Ok (Del (feature_name d))) e t.2 in
    let same : Del (feature_name d) ≡ e = cc in
    deleted_is c (feature_name d) e (feature_there c (feature_name d) t.0 t.1) same
feature_founded Modify c readable level d l fields e unmixed is =
    let t = step (ok_or (target_feature c (feature_name d)) NoTarget) (feature_version_then c level d l fields) e is in
    let version = demanded (d.rver == t.0.rver + 1) WrongVersion (identity_then c level d l fields t.0) e t.2 in
    let same_one = demanded (same_identity l t.0.foid) OtherIdentity (modified_feature level t.0 d fields >>= replaced c) e version.1 in
    let r = step (modified_feature level t.0 d fields) (replaced c) e same_one.1 in
    let good = target_feature_is_good c readable (feature_name d) t.0 (found_ok (target_feature c (feature_name d)) NoTarget t.0 t.1) in
    let made = feature_made c.head.nall level t.0 d fields r.0 unmixed good r.1 in
    replaced_is c (feature_name d) r.0 e (feature_there c (feature_name d) t.0 t.1) made.named made.good r.2

-- ---- a record behind those of earlier edits
pub record IsTaken (c : Cell) (earlier : List Edit) (e : Edit) : Type 0 where
  pub new : has_edit_of (name_of_edit e) earlier ≡ false
  pub room : nat_lt (length earlier) update_limit ≡ true
  pub has : has_its_record c e ≡ true
  pub fit : unfitness_of_edit c.head.nall e ≡ None
  pub no_head : same_name (name_of_edit e) head_name ≡ false

next_parts : (earlier : List Edit) (n : RecName) → is_next earlier n ≡ None
    → (has_edit_of n earlier ≡ false) × (nat_lt (length earlier) update_limit ≡ true)
next_parts earlier n is = by (has_edit_of n earlier) (nat_lt (length earlier) update_limit) is
  where
    by : (a b : Bool) → cond a (Some (Record TwiceName)) (demand b TooManyEdits) ≡ None → (a ≡ false) × (b ≡ true)
    by true b is = absurd cc
    by false true is = (refl, refl)
    by false false is = absurd cc

taken_by : (c : Cell) (earlier : List Edit) (n : RecName) (e : Edit) → is_next earlier n ≡ None → Founded c n e → IsTaken c earlier e
taken_by c earlier n e next founded =
    let parts = next_parts earlier n next in
    record {
      new = ap (λ m. has_edit_of m earlier) founded.name_is ∙ parts.0;
      room = parts.1;
      has = founded.has;
      fit = founded.fit;
      no_head = ap (λ m. same_name m head_name) founded.name_is ∙ founded.no_head;
    }

abbrev vector_next_then : Cell → List Edit → List Field → Vrid → Instruction → Result Edit UpdateFault
vector_next_then c earlier fields d instruction = is_next earlier d.name >> vector_edit instruction c d fields

abbrev vector_instruction_then : Cell → List Edit → List Field → Vrid → Result Edit UpdateFault
vector_instruction_then c earlier fields d = ok_or (instruction_of d.ruin) (Record NotBase) >>= vector_next_then c earlier fields d

vector_taken : (c : Cell) → IsReadable c → (earlier : List Edit) (fields : List Field) (e : Edit) → vector_update c earlier fields ≡ Ok e
    → IsTaken c earlier e
unfolding vector_update
vector_taken c readable earlier fields e is =
    let good = step (checked_fields 0 types.Vector fields)
    (λ (good : Unit {0}). of_record (required tags.Vrid vrid_content fields) >>= vector_instruction_then c earlier fields) e is in
    let d = step (of_record (required tags.Vrid vrid_content fields)) (vector_instruction_then c earlier fields) e good.2 in
    let i = step (ok_or (instruction_of d.0.ruin) (Record NotBase)) (vector_next_then c earlier fields d.0) e d.2 in
    let next = passed (is_next earlier d.0.name) (vector_edit i.0 c d.0 fields) e i.2 in
    let vrid = required_is tags.Vrid vrid_content fields d.0 (told_ok (required tags.Vrid vrid_content fields) d.0 d.1) in
    taken_by c earlier d.0.name e next.0 (vector_founded i.0 c readable d.0 fields e (vrid_names_vector vrid.0 d.0 vrid.1) next.1)

abbrev feature_next_then : Cell → ℕ → List Edit → List Field → Identifiers → Instruction → Result Edit UpdateFault
feature_next_then c level earlier fields ids instruction = is_next earlier (feature_name ids.frid)
    >> (demand (not (mixed c.head.nall level fields)) LevelMix >> feature_edit instruction c level ids.frid ids.foid fields)

abbrev feature_instruction_then : Cell → ℕ → List Edit → List Field → Identifiers → Result Edit UpdateFault
feature_instruction_then c level earlier fields ids = ok_or (instruction_of ids.frid.ruin) (Record NotBase) >>= feature_next_then c level earlier fields ids

feature_taken : (c : Cell) → IsReadable c → (level : ℕ) (earlier : List Edit) (fields : List Field) (e : Edit)
    → feature_update c level earlier fields ≡ Ok e → IsTaken c earlier e
unfolding feature_update
feature_taken c readable level earlier fields e is =
    let good = step (checked_fields level types.Feature fields)
    (λ (good : Unit {0}). identifiers fields >>= feature_instruction_then c level earlier fields) e is in
    let ids = step (identifiers fields) (feature_instruction_then c level earlier fields) e good.2 in
    let i = step (ok_or (instruction_of ids.0.frid.ruin) (Record NotBase)) (feature_next_then c level earlier fields ids.0) e ids.2 in
    let name = feature_name ids.0.frid in
    let next = passed (is_next earlier name) (demand (not (mixed c.head.nall level fields)) LevelMix >> feature_edit i.0 c level ids.0.frid
    ids.0.foid fields) e i.2 in
    let level_is = demanded (not (mixed c.head.nall level fields)) LevelMix (feature_edit i.0 c level ids.0.frid ids.0.foid fields) e next.1 in
    taken_by c earlier name e next.0 (feature_founded i.0 c readable level ids.0.frid ids.0.foid fields e level_is.0 level_is.1)

abbrev as_some : Edit → Result (Option Edit) UpdateFault
as_some edit = Ok (Some edit)

reference_is_none : (number : ℕ) (fields : List Field) (e : Edit) → no_update number fields ≡ Ok (Some e) → ⊥
unfolding no_update
reference_is_none number fields e is =
    let second = demanded (number == 3) (Record HeadOrder)
    (checked_fields 0 types.GeographicReference fields >>= λ (good : Unit {0}). Ok None) (Some e) is in
    let good = step (checked_fields 0 types.GeographicReference fields) (λ (good : Unit {0}). Ok None) (Some e) second.1 in
    absurd cc

type_taken : (type : RecordType) (c : Cell) → IsReadable c → (level number : ℕ) (earlier : List Edit) (fields : List Field) (e : Edit)
    → update_of_type type c level number earlier fields ≡ Ok (Some e) → IsTaken c earlier e
type_taken types.GeneralInformation c readable level number earlier fields e is = absurd cc
type_taken types.GeographicReference c readable level number earlier fields e is = absurd (reference_is_none number fields e is)
type_taken types.Vector c readable level number earlier fields e is =
    let edit = step (vector_update c earlier fields) as_some (Some e) is in
    let same : edit.0 ≡ e = cc in
    subst (IsTaken c earlier) same (vector_taken c readable earlier fields edit.0 edit.1)
type_taken types.Feature c readable level number earlier fields e is =
    let edit = step (feature_update c level earlier fields) as_some (Some e) is in
    let same : edit.0 ≡ e = cc in
    subst (IsTaken c earlier) same (feature_taken c readable level earlier fields edit.0 edit.1)

-- the edit of a record is a new one, finds what it needs, and leaves what can be written
pub record_taken : (c : Cell) → IsReadable c → (level number : ℕ) (earlier : List Edit) (fields : List Field) (e : Edit)
    → record_update c level number earlier fields ≡ Ok (Some e) → IsTaken c earlier e
unfolding record_update
record_taken c readable level number earlier fields e is =
    let type = step (of_record (record_type fields)) (λ (type : RecordType). update_of_type type c level number earlier fields) (Some e) is in
    type_taken type.0 c readable level number earlier fields e type.2
