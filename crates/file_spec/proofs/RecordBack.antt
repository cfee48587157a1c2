-- A record that was written is read again, where each of its fields is.
use Rattle.std.proofs.Common.{◌≡◌, ℕ, true, false, List, [], ◌∷◌, ◌++◌, Option, Some, None, Result, Ok, refl, sym, ap, ◌∙◌, subst, append_assoc}
use Rattle.std.specs.Prelude.{codes, filter, nat_eq}
use Rattle.std.specs.Cmp.Lexicographic.{pointwise}
use Rattle.std.specs.List.{flat_map, list_any}
use Rattle.std.specs.Option.{option_or}
use Rattle.std.proofs.Math.Bool.{and-false}
use Rattle.std.proofs.lemmas.List.{append-nil}
use Rattle.std.proofs.lemmas.List.Concat.{flat_map-append}
use Rattle.std.proofs.lemmas.List.Elements.{filter-append}
use Rattle.frame_spec.specs.RecordFrame.{Field}
use Rattle.field_spec.specs.declared.fault.FieldFault.{FieldFault}
use Rattle.field_spec.specs.Contents.{attribute_content, partner_content, place_content, end_content, plane_content, deep_content}
use Rattle.s57_types.specs.FieldRows.{attribute_row, partner_row, place_row, end_row, plane_row, deep_row, vrid_row, frid_row, foid_row}
use Rattle.s57_types.specs.RecordFields.{rows_field, number_field, field_of, vector_fields, feature_fields}
use Rattle.s57_types.specs.Subfield.{Subfield}
use Rattle.s57_types.specs.declared.name.Kind.TheVariants.{Fe}
use Rattle.s57_types.specs.declared.record.Feature.{Feature}
use Rattle.s57_types.specs.declared.record.Vector.{Vector}
use Rattle.s57_types.specs.declared.record.Rec.TheVariants.{V, F}
use Rattle.file_spec.specs.DecodedCell.{vector_record, feature_record}
use Rattle.file_spec.specs.FieldTags.{is_tagged, may_repeat, tag_in, tag_text}
use Rattle.file_spec.specs.ReadBack.{RowsAreReadBack, VectorIsReadBack, FeatureIsReadBack, vrid_of, frid_of}
use Rattle.file_spec.specs.RecordReading.{content_fault, field_fault, fields_fault, rows_of}
use Rattle.file_spec.specs.declared.fault.RecordFault.{RecordFault}
use Rattle.file_spec.specs.declared.tag.FieldTag.{FieldTag}
use Rattle.file_spec.specs.declared.tag.FieldTag.TheVariants as tags
use Rattle.file_spec.specs.declared.tag.RecordType.{RecordType}
use Rattle.file_spec.specs.declared.tag.RecordType.TheVariants as types

or_none : (a b : Option RecordFault) → option_or a b ≡ None → (a ≡ None) × (b ≡ None)
or_none None b e = (refl, e)
or_none (Some x) b e = absurd cc

or_both : (a b : Option RecordFault) → a ≡ None → b ≡ None → option_or a b ≡ None
or_both a b first second = ap (λ x. option_or x b) first ∙ second

-- fields without a fault, and others behind them
none_append : (nall : ℕ) (type : RecordType) (before xs ys : List Field) → fields_fault nall type before xs ≡ None
    → fields_fault nall type (before ++ xs) ys ≡ None
    → fields_fault nall type before (xs ++ ys) ≡ None
unfolding fields_fault
none_append nall type before [] ys first second = subst (λ b. fields_fault nall type b ys ≡ None) (append-nil before) second
none_append nall type before (x ∷ xs) ys first second =
    let parts = or_none (field_fault nall type before x) (fields_fault nall type (before ++ (x ∷ [])) xs) first in
    let more : fields_fault nall type (before ++ (x ∷ []) ++ xs) ys ≡ None =
    subst (λ b. fields_fault nall type b ys ≡ None) (sym (append_assoc before (x ∷ []) xs)) second in
    or_both (field_fault nall type before x) (fields_fault nall type (before ++ (x ∷ [])) (xs ++ ys)) parts.0
    (none_append nall type (before ++ (x ∷ [])) xs ys parts.1 more)

-- a field of rows that is read back
rows_none : {X : Type 0} (nall : ℕ) (type : RecordType) (before : List Field) (level : ℕ) (tag : List ℕ) (row : X → List Subfield)
    (content : List ℕ → Result (List X) FieldFault) (xs : List X)
    → RowsAreReadBack level row content xs → ((b : List ℕ) → content b ≡ Ok xs → field_fault nall type before (record { tag = tag; bytes = b }) ≡ None)
    → fields_fault nall type before (rows_field level tag row xs) ≡ None
unfolding fields_fault
rows_none nall type before level tag row content [] back step = refl
rows_none nall type before level tag row content (x ∷ xs) back step = or_both (field_fault nall type before _) None (step _ back) refl

-- the rows of fields one after the other
rows_of-append : {X : Type 0} (tag : FieldTag) (content : List ℕ → Result (List X) FieldFault) (xs ys : List Field)
    → rows_of tag content (xs ++ ys) ≡ rows_of tag content xs ++ rows_of tag content ys
rows_of-append tag content xs ys =
    ap (flat_map _) (filter-append (is_tagged tag) xs ys) ∙ flat_map-append _ (filter (is_tagged tag) xs) (filter (is_tagged tag) ys)

rows_of_same : {X : Type 0} (tag : FieldTag) (content : List ℕ → Result (List X) FieldFault) (level : ℕ) (text : List ℕ) (row : X → List Subfield) (xs : List X)
    → pointwise nat_eq text (tag_text tag) ≡ true → RowsAreReadBack level row content xs → rows_of tag content (rows_field level text row xs) ≡ xs
rows_of_same tag content level text row [] is back = refl
rows_of_same tag content level text row (x ∷ xs) is back = rw (is, back) (append-nil (x ∷ xs))

rows_of_other : {X Y : Type 0} (tag : FieldTag) (content : List ℕ → Result (List X) FieldFault) (level : ℕ) (text : List ℕ)
    (row : Y → List Subfield) (ys : List Y)
    → pointwise nat_eq text (tag_text tag) ≡ false → rows_of tag content (rows_field level text row ys) ≡ []
rows_of_other tag content level text row [] isnt = refl
rows_of_other tag content level text row (y ∷ ys) isnt = rw isnt refl

-- a field that may stand again
repeated_none : (nall : ℕ) (type : RecordType) (before : List Field) (tag : FieldTag) (field : Field) → tag_in type field ≡ Some tag
    → may_repeat tag ≡ true → content_fault nall tag field.bytes ≡ None
    → field_fault nall type before field ≡ None
repeated_none nall type before tag field is may good = rw (is, may, and-false (list_any (is_tagged tag) before), good) refl

-- a record of five parts
five_none : (nall : ℕ) (type : RecordType) (a b c d e : List Field) → fields_fault nall type [] a ≡ None → fields_fault nall type a b ≡ None
    → fields_fault nall type (a ++ b) c ≡ None
    → fields_fault nall type (a ++ b ++ c) d ≡ None → fields_fault nall type (a ++ b ++ c ++ d) e ≡ None
    → fields_fault nall type [] (a ++ b ++ c ++ d ++ e) ≡ None
five_none nall type a b c d e a_good b_good c_good d_good e_good =
    none_append nall type [] (a ++ b ++ c ++ d) e (none_append nall type [] (a ++ b ++ c) d
    (none_append nall type [] (a ++ b) c (none_append nall type [] a b a_good b_good) c_good) d_good) e_good

five_rows : {X : Type 0} (tag : FieldTag) (content : List ℕ → Result (List X) FieldFault) (a b c d e : List Field) (xs ys zs us vs : List X)
    → rows_of tag content a ≡ xs → rows_of tag content b ≡ ys → rows_of tag content c ≡ zs → rows_of tag content d ≡ us → rows_of tag content e ≡ vs
    → rows_of tag content (a ++ b ++ c ++ d ++ e) ≡ xs ++ ys ++ zs ++ us ++ vs
five_rows tag content a b c d e xs ys zs us vs a_is b_is c_is d_is e_is =
    let two : rows_of tag content (a ++ b) ≡ xs ++ ys = rows_of-append tag content a b ∙ ap (λ r. r ++ rows_of tag content b) a_is ∙ ap (λ r. xs ++ r) b_is in
    let three : rows_of tag content (a ++ b ++ c) ≡ xs ++ ys ++ zs =
    rows_of-append tag content (a ++ b) c ∙ ap (λ r. r ++ rows_of tag content c) two ∙ ap (λ r. xs ++ ys ++ r) c_is in
    let four : rows_of tag content (a ++ b ++ c ++ d) ≡ xs ++ ys ++ zs ++ us = rows_of-append tag content (a ++ b ++ c) d
    ∙ ap (λ r. r ++ rows_of tag content d) three ∙ ap (λ r. xs ++ ys ++ zs ++ r) d_is in
    rows_of-append tag content (a ++ b ++ c ++ d) e ∙ ap (λ r. r ++ rows_of tag content e) four ∙ ap (λ r. xs ++ ys ++ zs ++ us ++ r) e_is

nil_after : {X : Type 0} (xs : List X) → xs ++ [] ++ [] ++ [] ≡ xs
nil_after xs = append-nil (xs ++ [] ++ []) ∙ append-nil (xs ++ []) ∙ append-nil xs

nil_twice : {X : Type 0} (xs : List X) → xs ++ [] ++ [] ≡ xs
nil_twice xs = append-nil (xs ++ []) ∙ append-nil xs

-- the parts of a vector record
abbrev leading_vector : ℕ → Vector → List Field
leading_vector n v = number_field n ∷ field_of (codes "VRID") (vrid_row (vrid_of v)) ∷ []

abbrev attv : Vector → List Field
attv v = rows_field 0 (codes "ATTV") (attribute_row 0) v.attrs

abbrev vrpt : Vector → List Field
vrpt v = rows_field 0 (codes "VRPT") end_row v.ends

abbrev sg2d : Vector → List Field
sg2d v = rows_field 0 (codes "SG2D") plane_row v.plane

abbrev sg3d : Vector → List Field
sg3d v = rows_field 0 (codes "SG3D") deep_row v.deep

vector_none : (n : ℕ) (v : Vector) → VectorIsReadBack v → fields_fault 0 types.Vector [] (vector_fields n v) ≡ None
unfolding fields_fault
vector_none n v back = five_none 0 types.Vector (leading_vector n v) (attv v) (vrpt v) (sg2d v) (sg3d v)
    (rw back.identifier refl)
    (rows_none 0 types.Vector (leading_vector n v) 0 (codes "ATTV") (attribute_row 0) (attribute_content 0) v.attrs back.attrs (λ x e. rw e refl))
    (rows_none 0 types.Vector (leading_vector n v ++ attv v) 0 (codes "VRPT") end_row end_content v.ends back.ends
    (λ x e. repeated_none 0 types.Vector (leading_vector n v ++ attv v) tags.Vrpt (record { tag = codes "VRPT"; bytes = x }) refl refl
    (rw e refl)))
    (rows_none 0 types.Vector (leading_vector n v ++ attv v ++ vrpt v) 0 (codes "SG2D") plane_row plane_content v.plane back.plane
    (λ x e. repeated_none 0 types.Vector (leading_vector n v ++ attv v ++ vrpt v) tags.Sg2d
    (record { tag = codes "SG2D"; bytes = x }) refl refl (rw e refl)))
    (rows_none 0 types.Vector (leading_vector n v ++ attv v ++ vrpt v ++ sg2d v) 0 (codes "SG3D") deep_row deep_content v.deep back.deep
    (λ x e. repeated_none 0 types.Vector (leading_vector n v ++ attv v ++ vrpt v ++ sg2d v) tags.Sg3d
    (record { tag = codes "SG3D"; bytes = x }) refl refl (rw e refl)))

vector_attrs : (n : ℕ) (v : Vector) → VectorIsReadBack v → rows_of tags.Attv (attribute_content 0) (vector_fields n v) ≡ v.attrs
vector_attrs n v back = five_rows tags.Attv (attribute_content 0) (leading_vector n v) (attv v) (vrpt v) (sg2d v) (sg3d v) [] v.attrs [] [] [] refl
    (rows_of_same tags.Attv (attribute_content 0) 0 (codes "ATTV") (attribute_row 0) v.attrs refl back.attrs)
    (rows_of_other tags.Attv (attribute_content 0) 0 (codes "VRPT") end_row v.ends refl)
    (rows_of_other tags.Attv (attribute_content 0) 0 (codes "SG2D") plane_row v.plane refl)
    (rows_of_other tags.Attv (attribute_content 0) 0 (codes "SG3D") deep_row v.deep refl) ∙ nil_after v.attrs

vector_ends : (n : ℕ) (v : Vector) → VectorIsReadBack v → rows_of tags.Vrpt end_content (vector_fields n v) ≡ v.ends
vector_ends n v back = five_rows tags.Vrpt end_content (leading_vector n v) (attv v) (vrpt v) (sg2d v) (sg3d v) [] [] v.ends [] [] refl
    (rows_of_other tags.Vrpt end_content 0 (codes "ATTV") (attribute_row 0) v.attrs refl)
    (rows_of_same tags.Vrpt end_content 0 (codes "VRPT") end_row v.ends refl back.ends)
    (rows_of_other tags.Vrpt end_content 0 (codes "SG2D") plane_row v.plane refl)
    (rows_of_other tags.Vrpt end_content 0 (codes "SG3D") deep_row v.deep refl) ∙ nil_twice v.ends

vector_plane : (n : ℕ) (v : Vector) → VectorIsReadBack v → rows_of tags.Sg2d plane_content (vector_fields n v) ≡ v.plane
vector_plane n v back = five_rows tags.Sg2d plane_content (leading_vector n v) (attv v) (vrpt v) (sg2d v) (sg3d v) [] [] [] v.plane [] refl
    (rows_of_other tags.Sg2d plane_content 0 (codes "ATTV") (attribute_row 0) v.attrs refl)
    (rows_of_other tags.Sg2d plane_content 0 (codes "VRPT") end_row v.ends refl)
    (rows_of_same tags.Sg2d plane_content 0 (codes "SG2D") plane_row v.plane refl back.plane)
    (rows_of_other tags.Sg2d plane_content 0 (codes "SG3D") deep_row v.deep refl) ∙ append-nil v.plane

vector_deep : (n : ℕ) (v : Vector) → VectorIsReadBack v → rows_of tags.Sg3d deep_content (vector_fields n v) ≡ v.deep
vector_deep n v back = five_rows tags.Sg3d deep_content (leading_vector n v) (attv v) (vrpt v) (sg2d v) (sg3d v) [] [] [] [] v.deep refl
    (rows_of_other tags.Sg3d deep_content 0 (codes "ATTV") (attribute_row 0) v.attrs refl)
    (rows_of_other tags.Sg3d deep_content 0 (codes "VRPT") end_row v.ends refl)
    (rows_of_other tags.Sg3d deep_content 0 (codes "SG2D") plane_row v.plane refl)
    (rows_of_same tags.Sg3d deep_content 0 (codes "SG3D") deep_row v.deep refl back.deep)

pub vector_is_read_back : (n : ℕ) (v : Vector) → VectorIsReadBack v → vector_record (vector_fields n v) ≡ Ok (V v)
vector_is_read_back n v back = rw (
  vector_none n v back,
  back.identifier,
  vector_attrs n v back,
  vector_ends n v back,
  vector_plane n v back,
  vector_deep n v back,
) refl

-- the parts of a feature record
abbrev leading_feature : ℕ → Feature → List Field
leading_feature n f = number_field n ∷ field_of (codes "FRID") (frid_row (frid_of f)) ∷ field_of (codes "FOID") (foid_row f.foid) ∷ []

abbrev attf : Feature → List Field
attf f = rows_field 0 (codes "ATTF") (attribute_row 0) f.attf

abbrev natf : ℕ → Feature → List Field
natf nall f = rows_field nall (codes "NATF") (attribute_row nall) f.natf

abbrev ffpt : Feature → List Field
ffpt f = rows_field 0 (codes "FFPT") partner_row f.partners

abbrev fspt : Feature → List Field
fspt f = rows_field 0 (codes "FSPT") place_row f.places

-- no field of another tag stands in a field of rows
not_tagged : {X : Type 0} (tag : FieldTag) (level : ℕ) (text : List ℕ) (row : X → List Subfield) (xs : List X) → pointwise nat_eq text (tag_text tag) ≡ false
    → list_any (is_tagged tag) (rows_field level text row xs) ≡ false
not_tagged tag level text row [] isnt = refl
not_tagged tag level text row (x ∷ xs) isnt = rw isnt refl

-- national attributes stand behind the others, which have another tag
natf_none : (nall n : ℕ) (f : Feature) (x : List ℕ) → attribute_content nall x ≡ Ok f.natf
    → field_fault nall types.Feature (leading_feature n f ++ attf f) (record { tag = codes "NATF"; bytes = x }) ≡ None
natf_none nall n f x good = rw (not_tagged tags.Natf 0 (codes "ATTF") (attribute_row 0) f.attf refl, good) refl

feature_none : (nall n : ℕ) (f : Feature) → FeatureIsReadBack nall f → fields_fault nall types.Feature [] (feature_fields nall n f) ≡ None
unfolding fields_fault
feature_none nall n f back = five_none nall types.Feature (leading_feature n f) (attf f) (natf nall f) (ffpt f) (fspt f)
    (rw (back.identifier, back.foid) refl)
    (rows_none nall types.Feature (leading_feature n f) 0 (codes "ATTF") (attribute_row 0) (attribute_content 0) f.attf back.attf (λ x e. rw e refl))
    (rows_none nall types.Feature (leading_feature n f ++ attf f) nall (codes "NATF") (attribute_row nall)
    (attribute_content nall) f.natf back.natf (natf_none nall n f))
    (rows_none nall types.Feature (leading_feature n f ++ attf f ++ natf nall f) 0 (codes "FFPT") partner_row partner_content f.partners back.partners
    (λ x e. repeated_none nall types.Feature (leading_feature n f ++ attf f ++ natf nall f) tags.Ffpt
    (record { tag = codes "FFPT"; bytes = x }) refl refl (rw e refl)))
    (rows_none nall types.Feature (leading_feature n f ++ attf f ++ natf nall f ++ ffpt f) 0 (codes "FSPT") place_row place_content f.places back.places
    (λ x e. repeated_none nall types.Feature (leading_feature n f ++ attf f ++ natf nall f ++ ffpt f) tags.Fspt
    (record { tag = codes "FSPT"; bytes = x }) refl refl (rw e refl)))

feature_attf : (nall n : ℕ) (f : Feature) → FeatureIsReadBack nall f → rows_of tags.Attf (attribute_content 0) (feature_fields nall n f) ≡ f.attf
feature_attf nall n f back = five_rows tags.Attf (attribute_content 0) (leading_feature n f) (attf f) (natf nall f) (ffpt f) (fspt f) [] f.attf [] [] [] refl
    (rows_of_same tags.Attf (attribute_content 0) 0 (codes "ATTF") (attribute_row 0) f.attf refl back.attf)
    (rows_of_other tags.Attf (attribute_content 0) nall (codes "NATF") (attribute_row nall) f.natf refl)
    (rows_of_other tags.Attf (attribute_content 0) 0 (codes "FFPT") partner_row f.partners refl)
    (rows_of_other tags.Attf (attribute_content 0) 0 (codes "FSPT") place_row f.places refl) ∙ nil_after f.attf

feature_natf : (nall n : ℕ) (f : Feature) → FeatureIsReadBack nall f → rows_of tags.Natf (attribute_content nall) (feature_fields nall n f) ≡ f.natf
feature_natf nall n f back = five_rows tags.Natf (attribute_content nall) (leading_feature n f) (attf f) (natf nall f) (ffpt f) (fspt f) [] [] f.natf [] [] refl
    (rows_of_other tags.Natf (attribute_content nall) 0 (codes "ATTF") (attribute_row 0) f.attf refl)
    (rows_of_same tags.Natf (attribute_content nall) nall (codes "NATF") (attribute_row nall) f.natf refl back.natf)
    (rows_of_other tags.Natf (attribute_content nall) 0 (codes "FFPT") partner_row f.partners refl)
    (rows_of_other tags.Natf (attribute_content nall) 0 (codes "FSPT") place_row f.places refl) ∙ nil_twice f.natf

feature_partners : (nall n : ℕ) (f : Feature) → FeatureIsReadBack nall f → rows_of tags.Ffpt partner_content (feature_fields nall n f) ≡ f.partners
feature_partners nall n f back = five_rows tags.Ffpt partner_content (leading_feature n f) (attf f) (natf nall f) (ffpt f) (fspt f) [] [] [] f.partners [] refl
    (rows_of_other tags.Ffpt partner_content 0 (codes "ATTF") (attribute_row 0) f.attf refl)
    (rows_of_other tags.Ffpt partner_content nall (codes "NATF") (attribute_row nall) f.natf refl)
    (rows_of_same tags.Ffpt partner_content 0 (codes "FFPT") partner_row f.partners refl back.partners)
    (rows_of_other tags.Ffpt partner_content 0 (codes "FSPT") place_row f.places refl) ∙ append-nil f.partners

feature_places : (nall n : ℕ) (f : Feature) → FeatureIsReadBack nall f → rows_of tags.Fspt place_content (feature_fields nall n f) ≡ f.places
feature_places nall n f back = five_rows tags.Fspt place_content (leading_feature n f) (attf f) (natf nall f) (ffpt f) (fspt f) [] [] [] [] f.places refl
    (rows_of_other tags.Fspt place_content 0 (codes "ATTF") (attribute_row 0) f.attf refl)
    (rows_of_other tags.Fspt place_content nall (codes "NATF") (attribute_row nall) f.natf refl)
    (rows_of_other tags.Fspt place_content 0 (codes "FFPT") partner_row f.partners refl)
    (rows_of_same tags.Fspt place_content 0 (codes "FSPT") place_row f.places refl back.places)

pub feature_is_read_back : (nall n : ℕ) (f : Feature) → f.name.kind ≡ Fe → FeatureIsReadBack nall f → feature_record nall (feature_fields nall n f) ≡ Ok (F f)
feature_is_read_back nall n f kind back = rw (
  feature_none nall n f back,
  back.identifier,
  back.foid,
  feature_attf nall n f back,
  feature_natf nall n f back,
  feature_partners nall n f back,
  feature_places nall n f back,
  sym kind,
) refl
