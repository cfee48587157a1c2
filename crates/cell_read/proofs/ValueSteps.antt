-- The values of fields with one field more.
use Rattle.std.proofs.Common.{◌≡◌, ℕ, ◌&&◌, ◌||◌, Bool, true, false, cond, not, List, [], ◌∷◌, ◌++◌, Option, Some, None, Result, Err, refl, ap, ◌∙◌}
use Rattle.std.specs.Prelude.{find, filter, if◌then◌else◌}
use Rattle.std.specs.List.{list_any, flat_map}
use Rattle.std.specs.Option.{option_map, option_or, option_and_then}
use Rattle.std.specs.Result.{result_ok, result_err, result_unwrap_or}
use Rattle.std.proofs.lemmas.List.{append-nil}
use Rattle.std.proofs.lemmas.List.Folds.{find-append}
use Rattle.std.proofs.lemmas.List.Concat.{flat_map-append}
use Rattle.std.proofs.lemmas.List.Elements.{filter-append}
use Rattle.frame_spec.specs.RecordFrame.{Field}
use Rattle.field_spec.specs.Contents.{dsid_content, dssi_content, dspm_content, frid_content, foid_content, attribute_content, partner_content}
use Rattle.field_spec.specs.Contents.{place_content, vrid_content, end_content, plane_content, deep_content}
use Rattle.field_spec.specs.declared.fault.FieldFault.{FieldFault}
use Rattle.s57_fields.specs.Gives.{Gives}
use Rattle.s57_fields.specs.declared.refusal.FieldRefusal.{FieldRefusal}
use Rattle.s57_fields.specs.declared.refusal.FieldRefusal.TheVariants as refusal
use Rattle.file_spec.specs.FieldTags.{is_tagged, tag_text, may_repeat}
use Rattle.file_spec.specs.RecordFaults.{of_field}
use Rattle.file_spec.specs.RecordReading.{value_of, rows_of}
use Rattle.file_spec.specs.declared.tag.FieldTag.{FieldTag}
use Rattle.file_spec.specs.declared.tag.FieldTag.TheVariants as tags
use Rattle.cell_read.specs.Gives.{IsFault, refusal_of_field}
use Rattle.cell_read.specs.ValuesOf.{values_of, with_content}
use Rattle.cell_read.specs.declared.values.FieldValues.{FieldValues}

-- a refused field gives its record the field's fault
pub gives_fault : {X : Type 0} (r : FieldRefusal) (content : Result X FieldFault) → Gives (Err r) content
    → IsFault (refusal_of_field r) (option_map of_field (result_err content))
gives_fault refusal.BadField content is = rw is refl
gives_fault refusal.BadText content is = rw is refl
gives_fault refusal.NoMemory content is = tt

module _ {X : Type 0} (tag : FieldTag) (content : List ℕ → Result X FieldFault) (before : List Field) (field : Field) where
  none_before : (fields : List Field) → list_any (is_tagged tag) fields ≡ false → find (is_tagged tag) fields ≡ None
  none_before [] none = refl
  none_before (x ∷ xs) none = by (is_tagged tag x) none (none_before xs)
    where
      by : (b : Bool) → (b || list_any (is_tagged tag) xs) ≡ false → (list_any (is_tagged tag) xs ≡ false → find (is_tagged tag) xs ≡ None)
          → cond b (Some x) (find (is_tagged tag) xs) ≡ None
      by true e later = absurd cc
      by false e later = later e

  or_none : (x : Option Field) → option_or x None ≡ x
  or_none None = refl
  or_none (Some x) = refl

  -- the value of a tag that stood nowhere before, if this is its field
  value_step : (is_tagged tag field ≡ true → list_any (is_tagged tag) before ≡ false)
      → value_of tag content (before ++ (field ∷ [])) ≡ (if is_tagged tag field then result_ok (content field.bytes) else value_of tag content before)
  value_step once = by (is_tagged tag field) refl
    where
      by : (b : Bool) → is_tagged tag field ≡ b → value_of tag content (before ++ (field ∷ [])) ≡
          (if b then result_ok (content field.bytes) else value_of tag content before)
      by true is =
          let first : find (is_tagged tag) (before ++ (field ∷ [])) ≡ option_or None (find (is_tagged tag) (field ∷ [])) =
          find-append (is_tagged tag) before (field ∷ []) ∙ ap (λ x. option_or x (find (is_tagged tag) (field ∷ [])))
          (none_before before (once is)) in
          let found : find (is_tagged tag) (before ++ (field ∷ [])) ≡ Some field = first ∙ ap (λ b. cond b (Some field) None) is in
          ap (λ x. option_and_then (λ (f : Field). result_ok (content f.bytes)) x) found
      by false is =
          let first : find (is_tagged tag) (before ++ (field ∷ [])) ≡ option_or (find (is_tagged tag) before) None =
          find-append (is_tagged tag) before (field ∷ []) ∙ ap (λ b. option_or (find (is_tagged tag) before) (cond b (Some field) None)) is in
          let found : find (is_tagged tag) (before ++ (field ∷ [])) ≡ find (is_tagged tag) before = first ∙ or_none (find (is_tagged tag) before) in
          ap (λ x. option_and_then (λ (f : Field). result_ok (content f.bytes)) x) found

module _ {X : Type 0} (tag : FieldTag) (content : List ℕ → Result (List X) FieldFault) (before : List Field) (field : Field) where
  -- the rows of a tag, with those of this field if it is one
  rows_step : rows_of tag content (before ++ (field ∷ [])) ≡ (if is_tagged tag field then rows_of tag content before
      ++ result_unwrap_or (content field.bytes) [] else rows_of tag content before)
  rows_step = ap (flat_map _) (filter-append (is_tagged tag) before (field ∷ [])) ∙ flat_map-append _ (filter (is_tagged tag) before)
      (filter (is_tagged tag) (field ∷ [])) ∙ by (is_tagged tag field) refl
    where
      by : (b : Bool) → is_tagged tag field ≡ b → rows_of tag content before ++ rows_of tag content (field ∷ []) ≡
          (if b then rows_of tag content before ++ result_unwrap_or (content field.bytes) [] else rows_of tag content before)
      by true is = rw is (ap (λ rows. rows_of tag content before ++ rows) (append-nil (result_unwrap_or (content field.bytes) [])))
      by false is = rw is (append-nil (rows_of tag content before))

-- each value with one field more, by the tag of that field
abbrev stepped : ℕ → Field → FieldValues → FieldValues
stepped nall f v = record {
  dsid = if is_tagged tags.Dsid f then result_ok (dsid_content f.bytes) else v.dsid;
  dssi = if is_tagged tags.Dssi f then result_ok (dssi_content f.bytes) else v.dssi;
  dspm = if is_tagged tags.Dspm f then result_ok (dspm_content f.bytes) else v.dspm;
  frid = if is_tagged tags.Frid f then result_ok (frid_content f.bytes) else v.frid;
  foid = if is_tagged tags.Foid f then result_ok (foid_content f.bytes) else v.foid;
  attf = if is_tagged tags.Attf f then v.attf ++ result_unwrap_or (attribute_content 0 f.bytes) [] else v.attf;
  natf = if is_tagged tags.Natf f then v.natf ++ result_unwrap_or (attribute_content nall f.bytes) [] else v.natf;
  partners = if is_tagged tags.Ffpt f then v.partners ++ result_unwrap_or (partner_content f.bytes) [] else v.partners;
  places = if is_tagged tags.Fspt f then v.places ++ result_unwrap_or (place_content f.bytes) [] else v.places;
  vrid = if is_tagged tags.Vrid f then result_ok (vrid_content f.bytes) else v.vrid;
  attv = if is_tagged tags.Attv f then v.attv ++ result_unwrap_or (attribute_content 0 f.bytes) [] else v.attv;
  ends = if is_tagged tags.Vrpt f then v.ends ++ result_unwrap_or (end_content f.bytes) [] else v.ends;
  plane = if is_tagged tags.Sg2d f then v.plane ++ result_unwrap_or (plane_content f.bytes) [] else v.plane;
  deep = if is_tagged tags.Sg3d f then v.deep ++ result_unwrap_or (deep_content f.bytes) [] else v.deep;
}

-- a tag that stands once stood nowhere before its field
abbrev Once : FieldTag → List Field → Field → Type 0
Once tag before f = is_tagged tag f ≡ true → list_any (is_tagged tag) before ≡ false

values_step : (nall : ℕ) (before : List Field) (f : Field) → Once tags.Dsid before f → Once tags.Dssi before f → Once tags.Dspm before f
    → Once tags.Frid before f → Once tags.Foid before f → Once tags.Vrid before f
    → values_of nall (before ++ (f ∷ [])) ≡ stepped nall f (values_of nall before)
unfolding values_of
values_step nall before f dsid dssi dspm frid foid vrid = rw (
  value_step tags.Dsid dsid_content before f dsid,
  value_step tags.Dssi dssi_content before f dssi,
  value_step tags.Dspm dspm_content before f dspm,
  value_step tags.Frid frid_content before f frid,
  value_step tags.Foid foid_content before f foid,
  rows_step tags.Attf (attribute_content 0) before f,
  rows_step tags.Natf (attribute_content nall) before f,
  rows_step tags.Ffpt partner_content before f,
  rows_step tags.Fspt place_content before f,
  value_step tags.Vrid vrid_content before f vrid,
  rows_step tags.Attv (attribute_content 0) before f,
  rows_step tags.Vrpt end_content before f,
  rows_step tags.Sg2d plane_content before f,
  rows_step tags.Sg3d deep_content before f,
) refl

no : {b : Bool} → false ≡ true → b ≡ false
no e = absurd cc

and_true : (b : Bool) → (b && true) ≡ false → b ≡ false
and_true true e = absurd cc
and_true false e = refl

-- values with all of those of one field more: other lists of rows than those of attributes are kept whole here
unfoldable pub with_all : ℕ → FieldTag → List ℕ → FieldValues → FieldValues
with_all nall tags.Ffpt b v = record v { partners = v.partners ++ result_unwrap_or (partner_content b) [] }
with_all nall tags.Fspt b v = record v { places = v.places ++ result_unwrap_or (place_content b) [] }
with_all nall tags.Vrpt b v = record v { ends = v.ends ++ result_unwrap_or (end_content b) [] }
with_all nall tags.Sg2d b v = record v { plane = v.plane ++ result_unwrap_or (plane_content b) [] }
with_all nall tags.Sg3d b v = record v { deep = v.deep ++ result_unwrap_or (deep_content b) [] }
with_all nall tag b v = with_content nall tag b v

pub values_more : (nall : ℕ) (before : List Field) (bytes : List ℕ) (tag : FieldTag) → (list_any (is_tagged tag) before && not (may_repeat tag)) ≡ false
    → values_of nall (before ++ (record { tag = tag_text tag; bytes = bytes } ∷ [])) ≡ with_all nall tag bytes (values_of nall before)
unfolding with_all with_content
values_more nall before bytes tags.RecordNumber once = values_step nall before (record { tag = tag_text tags.RecordNumber; bytes = bytes }) no no no no no no
values_more nall before bytes tags.Dsid once = values_step nall before (record { tag = tag_text tags.Dsid; bytes = bytes })
    (λ _. and_true _ once) no no no no no
values_more nall before bytes tags.Dssi once = values_step nall before (record { tag = tag_text tags.Dssi; bytes = bytes }) no
    (λ _. and_true _ once) no no no no
values_more nall before bytes tags.Dspm once = values_step nall before (record { tag = tag_text tags.Dspm; bytes = bytes }) no no
    (λ _. and_true _ once) no no no
values_more nall before bytes tags.Frid once = values_step nall before (record { tag = tag_text tags.Frid; bytes = bytes }) no no no
    (λ _. and_true _ once) no no
values_more nall before bytes tags.Foid once = values_step nall before (record { tag = tag_text tags.Foid; bytes = bytes }) no no no no
    (λ _. and_true _ once) no
values_more nall before bytes tags.Attf once = values_step nall before (record { tag = tag_text tags.Attf; bytes = bytes }) no no no no no no
values_more nall before bytes tags.Natf once = values_step nall before (record { tag = tag_text tags.Natf; bytes = bytes }) no no no no no no
values_more nall before bytes tags.Ffpt once = values_step nall before (record { tag = tag_text tags.Ffpt; bytes = bytes }) no no no no no no
values_more nall before bytes tags.Fspt once = values_step nall before (record { tag = tag_text tags.Fspt; bytes = bytes }) no no no no no no
values_more nall before bytes tags.Vrid once = values_step nall before (record { tag = tag_text tags.Vrid; bytes = bytes }) no no no no no
    (λ _. and_true _ once)
values_more nall before bytes tags.Attv once = values_step nall before (record { tag = tag_text tags.Attv; bytes = bytes }) no no no no no no
values_more nall before bytes tags.Vrpt once = values_step nall before (record { tag = tag_text tags.Vrpt; bytes = bytes }) no no no no no no
values_more nall before bytes tags.Sg2d once = values_step nall before (record { tag = tag_text tags.Sg2d; bytes = bytes }) no no no no no no
values_more nall before bytes tags.Sg3d once = values_step nall before (record { tag = tag_text tags.Sg3d; bytes = bytes }) no no no no no no
