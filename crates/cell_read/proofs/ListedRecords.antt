-- A record that is read has a vector's or a feature's name, so that it goes into a list.
use Rattle.std.proofs.Common.{◌≡◌, ℕ, ◌==◌, Bool, true, false, List, [], Option, Some, None, Result, Ok, Err, refl, subst}
use Rattle.std.specs.Prelude.{IfOk, find, if◌then◌else◌}
use Rattle.std.specs.Option.{option_and_then, ok_or}
use Rattle.std.specs.Result.{result_ok, result_map_both}
use Rattle.frame_spec.specs.RecordFrame.{Field}
use Rattle.s57_types.specs.FieldRows.{vrid_forms}
use Rattle.s57_types.specs.Subfield.{Subfield}
use Rattle.s57_types.specs.declared.field.Vrid.{Vrid}
use Rattle.s57_types.specs.declared.name.Kind.TheVariants.{Vi, Vc, Ve, Fe, Head}
use Rattle.s57_types.specs.declared.record.Rec.{Rec}
use Rattle.field_spec.specs.Contents.{frid_content, foid_content, vrid_content, vrid_value, judged_row, names_a_vector, number_in}
use Rattle.field_spec.specs.Cutting.{field_row}
use Rattle.field_spec.specs.declared.fault.FieldFault.{FieldFault}
use Rattle.cell_spec.specs.Lookup.{name_of}
use Rattle.cell_spec.specs.Names.{kind_rank, is_of_kind}
use Rattle.file_spec.specs.DecodedCell.{vector_record, feature_record, record_values}
use Rattle.file_spec.specs.FieldTags.{is_tagged}
use Rattle.file_spec.specs.RecordFaults.{◌>>=◌, ◌>>◌, demand}
use Rattle.file_spec.specs.RecordReading.{record_type, fields_fault, required}
use Rattle.file_spec.specs.declared.fault.RecordFault.{RecordFault}
use Rattle.file_spec.specs.declared.fault.RecordFault.TheVariants.{MissingField, NotBase}
use Rattle.file_spec.specs.declared.tag.FieldTag.TheVariants as tags
use Rattle.file_spec.specs.declared.tag.RecordType.{RecordType}
use Rattle.file_spec.specs.declared.tag.RecordType.TheVariants as types
use Rattle.cell_read.specs.RecordsFrom.{record_said}

module _ {X E : Type 0} (Has : X → Type 0) where
  -- what each answer of the last step has
  if_checked : (fault : Option E) (r : Result X E) → IfOk r Has → IfOk (fault >> r) Has
  if_checked None r has = has
  if_checked (Some e) r has = tt

  if_step : {A : Type 0} (Given : A → Type 0) (r : Result A E) (f : A → Result X E) → IfOk r Given → ((a : A) → Given a → IfOk (f a) Has) → IfOk (r >>= f) Has
  if_step Given (Ok a) f given next = next a given
  if_step Given (Err e) f given next = tt

  if_any : {A : Type 0} (r : Result A E) (f : A → Result X E) → ((a : A) → IfOk (f a) Has) → IfOk (r >>= f) Has
  if_any (Ok a) f next = next a
  if_any (Err e) f next = tt

abbrev HasList : Vrid → Type 0
HasList d = is_of_kind Head d.name ≡ false

kind_has_list : (a b c : Bool) → (kind_rank (if a then Vi else (if b then Vc else (if c then Ve else Fe))) == kind_rank Head) ≡ false
kind_has_list true b c = refl
kind_has_list false true c = refl
kind_has_list false false true = refl
kind_has_list false false false = refl

vrid_has_list : (b : List ℕ) → IfOk (vrid_content b) HasList
unfolding vrid_content
vrid_has_list b = by (judged_row names_a_vector (field_row vrid_forms b))
  where
    by : (r : Result (List Subfield) FieldFault) → IfOk (result_map_both vrid_value (λ e. e) r) HasList
    by (Ok row) = kind_has_list (number_in row 0 == 110) (number_in row 0 == 120) (number_in row 0 == 130)
    by (Err e) = tt

identifier_has_list : (fields : List Field) → IfOk (required tags.Vrid vrid_content fields) HasList
identifier_has_list fields = by (find (is_tagged tags.Vrid) fields)
  where
    kept : (r : Result Vrid FieldFault) → IfOk r HasList → IfOk (ok_or (result_ok r) MissingField) HasList
    kept (Ok d) has = has
    kept (Err e) has = tt

    by : (found : Option Field) → IfOk (ok_or (option_and_then (λ (field : Field). result_ok (vrid_content field.bytes)) found) MissingField) HasList
    by None = tt
    by (Some field) = kept (vrid_content field.bytes) (vrid_has_list field.bytes)

abbrev IsListed : Rec → Type 0
IsListed r = is_of_kind Head (name_of r) ≡ false

vector_is_listed : (fields : List Field) → IfOk (vector_record fields) IsListed
vector_is_listed fields =
    if_checked IsListed (fields_fault 0 types.Vector [] fields) _
    (if_step IsListed HasList (required tags.Vrid vrid_content fields) _ (identifier_has_list fields)
    (λ d has. if_checked IsListed (demand (d.ruin == 1) NotBase) _ has))

feature_is_listed : (nall : ℕ) (fields : List Field) → IfOk (feature_record nall fields) IsListed
feature_is_listed nall fields =
    if_checked IsListed (fields_fault nall types.Feature [] fields) _
    (if_any IsListed (required tags.Frid frid_content fields) _
    (λ d. if_any IsListed (required tags.Foid foid_content fields) _ (λ l. if_checked IsListed (demand (d.ruin == 1) NotBase) _ refl)))

values_are_listed : (nall : ℕ) (fields : List Field) (type : RecordType) → IfOk (record_values nall fields type) IsListed
values_are_listed nall fields types.GeneralInformation = tt
values_are_listed nall fields types.GeographicReference = tt
values_are_listed nall fields types.Vector = vector_is_listed fields
values_are_listed nall fields types.Feature = feature_is_listed nall fields

pub read_record_is_listed : (nall : ℕ) (fields : List Field) (r : Rec) → record_said nall fields ≡ Ok r → is_of_kind Head (name_of r) ≡ false
read_record_is_listed nall fields r is =
    subst (λ (read : Result Rec RecordFault). IfOk read IsListed) is
    (if_any IsListed (record_type fields) (record_values nall fields) (values_are_listed nall fields))
