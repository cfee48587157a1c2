-- The fields of a record from a place on.
use Rattle.std.proofs.Common.{◌≡◌, ℕ, ◌+◌, ◌≤◌, Bool, true, false, not, List, [], ◌∷◌, ◌++◌, length, take, drop, Some, None, Result, Ok}
use Rattle.std.proofs.Common.{Err, refl, sym, ap, ◌∙◌}
use Rattle.std.specs.Prelude.{slice_get, filter, find, nat_eq, IfOk, OnOk}
use Rattle.std.specs.Cmp.Lexicographic.{pointwise}
use Rattle.std.specs.List.{flat_map}
use Rattle.std.specs.Option.{option_map, option_or}
use Rattle.std.specs.Result.{result_unwrap_or}
use Rattle.std.proofs.lemmas.List.{append-nil, drop_all}
use Rattle.std.proofs.lemmas.List.Concat.{flat_map-append}
use Rattle.std.proofs.lemmas.List.Elements.{filter-append}
use Rattle.frame_spec.specs.RecordFrame.{Field}
use Rattle.field_spec.specs.declared.fault.FieldFault.{FieldFault}
use Rattle.file_spec.specs.FieldTags.{is_tagged, tag_text}
use Rattle.file_spec.specs.RecordReading.{field_fault, rows_of}
use Rattle.file_spec.specs.declared.tag.FieldTag.{FieldTag}
use Rattle.file_spec.specs.declared.tag.RecordType.{RecordType}
use Rattle.cell_read.proofs.FieldSteps.{at_tag, drop_at, find_here, find_later, take_at}
use Rattle.update_spec.specs.ControlFields.{control_in}
use Rattle.update_spec.specs.UpdateFields.{control_fault, update_field_fault, update_fields_fault}
use Rattle.update_spec.specs.declared.control.ControlTag.{ControlTag}

-- the fault of a field, or that of the fields after it
pub fault_step : (nall : ℕ) (type : RecordType) (fields : List Field) (k : ℕ) (f : Field) → slice_get fields k ≡ Some f
    → update_fields_fault nall type (take k fields) (drop k fields) ≡ option_or (update_field_fault nall type (take k fields) f)
    (update_fields_fault nall type (take (k + 1) fields) (drop (k + 1) fields))
unfolding update_fields_fault
fault_step nall type fields k f is =
    ap (update_fields_fault nall type (take k fields)) (drop_at fields k f is)
    ∙ ap (λ before. option_or (update_field_fault nall type (take k fields) f) (update_fields_fault nall type before (drop (k + 1) fields)))
    (sym (take_at fields k f is))

-- behind the last field there is no fault
pub fault_end : (nall : ℕ) (type : RecordType) (fields : List Field) (k : ℕ) → length fields ≤ k
    → update_fields_fault nall type (take k fields) (drop k fields) ≡ None
unfolding update_fields_fault
fault_end nall type fields k past = ap (update_fields_fault nall type (take k fields)) (drop_all k fields past)

-- the rows of a tag, with those of one field more if it is one
module _ {X : Type 0} (tag : FieldTag) (content : List ℕ → Result (List X) FieldFault) (fields : List Field) (k : ℕ) (f : Field)
    (is : slice_get fields k ≡ Some f) where
  rows_joined : rows_of tag content (take (k + 1) fields) ≡ rows_of tag content (take k fields) ++ rows_of tag content (f ∷ [])
  rows_joined = ap (rows_of tag content) (take_at fields k f is) ∙ ap (flat_map _) (filter-append (is_tagged tag) (take k fields) (f ∷ []))
      ∙ flat_map-append _ (filter (is_tagged tag) (take k fields)) (filter (is_tagged tag) (f ∷ []))

  rows_here : is_tagged tag f ≡ true → rows_of tag content (take (k + 1) fields) ≡ rows_of tag content (take k fields)
      ++ result_unwrap_or (content f.bytes) []
  rows_here tagged = rows_joined ∙ ap (λ rows. rows_of tag content (take k fields) ++ rows) (rw tagged (append-nil (result_unwrap_or (content f.bytes) [])))

  pub rows_grown : (old new : List X) → old ≡ rows_of tag content (take k fields) → is_tagged tag f ≡ true
      → new ≡ old ++ result_unwrap_or (content f.bytes) [] → new ≡ rows_of tag content (take (k + 1) fields)
  rows_grown old new so_far here is = is ∙ ap (λ rows. rows ++ result_unwrap_or (content f.bytes) []) so_far ∙ sym (rows_here here)

  pub rows_elsewhere : is_tagged tag f ≡ false → rows_of tag content (take (k + 1) fields) ≡ rows_of tag content (take k fields)
  rows_elsewhere other = rows_joined ∙ ap (λ rows. rows_of tag content (take k fields) ++ rows) (rw other refl) ∙ append-nil (rows_of tag
      content (take k fields))

-- the name of the field at a place
pub name_is : (fields : List Field) (k : ℕ) (name : List ℕ) (f : Field) → option_map (λ (x : Field). x.tag) (slice_get fields k) ≡ Some name
    → slice_get fields k ≡ Some f → f.tag ≡ name
name_is fields k name f is here = let tagged : Some f.tag ≡ Some name = ap (option_map (λ (x : Field). x.tag)) (sym here) ∙ is in cc

-- the first field of a tag of this text, from a place on
pub found_here : (text : List ℕ) (fields : List Field) (k : ℕ) (name : List ℕ) (f : Field) → option_map (λ (x : Field). x.tag) (slice_get fields k) ≡ Some name
    → slice_get fields k ≡ Some f → pointwise nat_eq name text ≡ true → find (λ (x : Field). pointwise nat_eq x.tag text) (drop k fields) ≡ Some f
found_here text fields k name f is here same =
    find_here (λ (x : Field). pointwise nat_eq x.tag text) fields k f here (ap (λ t. pointwise nat_eq t text) (name_is fields k name f is here) ∙ same)

pub found_later : (text : List ℕ) (fields : List Field) (k : ℕ) (name : List ℕ) → option_map (λ (x : Field). x.tag) (slice_get fields k) ≡ Some name
    → pointwise nat_eq name text ≡ false
    → find (λ (x : Field). pointwise nat_eq x.tag text) (drop k fields) ≡ find (λ (x : Field). pointwise nat_eq x.tag text) (drop (k + 1) fields)
found_later text fields k name is other = at_tag fields k name is
    (λ f here named. find_later (λ (x : Field). pointwise nat_eq x.tag text) fields k f here (ap (λ t. pointwise nat_eq t text) named ∙ other))

-- what a comparison of a field's name with a tag's text tells
not_false : (b : Bool) → not b ≡ false → b ≡ true
not_false true is = refl
not_false false is = absurd cc

not_true : (b : Bool) → not b ≡ true → b ≡ false
not_true true is = absurd cc
not_true false is = refl

pub same_tag : (tag : FieldTag) (f : Field) (name text : List ℕ) (differ : Bool) → f.tag ≡ name → text ≡ tag_text tag
    → differ ≡ not (pointwise nat_eq name text) → differ ≡ false → is_tagged tag f ≡ true
same_tag tag f name text differ named is differs fails =
    ap (λ t. pointwise nat_eq t (tag_text tag)) named ∙ ap (pointwise nat_eq name) (sym is) ∙ not_false (pointwise nat_eq name text) (sym differs ∙ fails)

pub other_tag : (tag : FieldTag) (f : Field) (name text : List ℕ) (differ : Bool) → f.tag ≡ name → text ≡ tag_text tag
    → differ ≡ not (pointwise nat_eq name text) → differ ≡ true → is_tagged tag f ≡ false
other_tag tag f name text differ named is differs holds =
    ap (λ t. pointwise nat_eq t (tag_text tag)) named ∙ ap (pointwise nat_eq name) (sym is) ∙ not_true (pointwise nat_eq name text) (sym differs ∙ holds)

-- which definition says the fault of a field
pub control_step : (nall : ℕ) (type : RecordType) (before : List Field) (f : Field) (tag : ControlTag) → control_in type f ≡ Some tag
    → update_field_fault nall type before f ≡ control_fault tag before f
control_step nall type before f tag is = rw is refl

pub common_step : (nall : ℕ) (type : RecordType) (before : List Field) (f : Field) → control_in type f ≡ None
    → update_field_fault nall type before f ≡ field_fault nall type before f
common_step nall type before f is = rw is refl

-- what is known of a result, after one step more
pub if_ok : {X E : Type 0} (P Q : X → Type 0) (r : Result X E) → IfOk r P → ((x : X) → P x → Q x) → IfOk r Q
if_ok P Q (Ok x) is next = next x is
if_ok P Q (Err e) is next = tt

pub on_ok : {T E P Q : Type 0} (r : Result T E) → OnOk r P → (P → Q) → OnOk r Q
on_ok (Ok x) p next = next p
on_ok (Err e) p next = tt
