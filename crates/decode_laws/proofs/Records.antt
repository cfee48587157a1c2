-- What is known of a record that was read.
use Rattle.std.proofs.Common.{◌≡◌, ℕ, ◌==◌, ◌&&◌, Bool, true, false, not, List, [], ◌∷◌, ◌++◌, length, nat_le, nat_lt, find, filter, Option, Some, None}
use Rattle.std.proofs.Common.{Result, Ok, Err, refl, subst, ◌∙◌}
use Rattle.std.specs.List.{list_all, list_any, flat_map}
use Rattle.std.specs.Option.{ok_or}
use Rattle.std.specs.Result.{result_ok, result_unwrap_or}
use Rattle.std.proofs.lemmas.List.Folds.{list_all-append}
use Rattle.frame_spec.specs.RecordFrame.{Field}
use Rattle.s57_types.specs.Subfield.{Subfield, is_plain}
use Rattle.s57_types.specs.FieldRows.{attribute_row, partner_row}
use Rattle.s57_types.specs.RecordFields.{written_length, length_limit}
use Rattle.s57_types.specs.Fitness.{attribute_texts, has_good_names, has_good_texts}
use Rattle.s57_types.specs.declared.field.Frid.{Frid}
use Rattle.s57_types.specs.declared.field.Vrid.{Vrid}
use Rattle.s57_types.specs.declared.name.Lnam.{Lnam}
use Rattle.s57_types.specs.declared.record.Rec.{Rec}
use Rattle.s57_types.specs.declared.cell.Cell.{Cell}
use Rattle.field_spec.specs.Contents.{frid_content, foid_content, attribute_content, partner_content, place_content, vrid_content, end_content}
use Rattle.field_spec.specs.declared.fault.FieldFault.{FieldFault}
use Rattle.field_spec.proofs.CutBack.{bound_back}
use Rattle.cell_spec.specs.Lookup.{all_records, name_of, is_named}
use Rattle.cell_spec.specs.Writable.{record_limit}
use Rattle.file_spec.specs.DecodedCell.{vector_of, vector_record, feature_of, feature_record, record_values, record_behind}
use Rattle.file_spec.specs.FieldTags.{is_tagged}
use Rattle.file_spec.specs.RecordFaults.{◌>>=◌, ◌>>◌, demand}
use Rattle.file_spec.specs.RecordReading.{record_type, fields_fault, required, value_of, rows_of}
use Rattle.file_spec.specs.declared.fault.RecordFault.{RecordFault}
use Rattle.file_spec.specs.declared.fault.RecordFault.TheVariants.{MissingField, NotBase, TwiceName, TooLong, TooMany}
use Rattle.file_spec.specs.declared.tag.FieldTag.{FieldTag}
use Rattle.file_spec.specs.declared.tag.FieldTag.TheVariants as tags
use Rattle.file_spec.specs.declared.tag.RecordType.{RecordType}
use Rattle.file_spec.specs.declared.tag.RecordType.TheVariants as types
use Rattle.decode_laws.proofs.Contents.{and_true, attribute_is_plain, attributes_are_plain, partner_is_plain, partners_are_plain, end_names_vector}
use Rattle.decode_laws.proofs.Contents.{ends_name_vectors, place_names_vector, places_name_vectors, vrid_names_vector}

-- ---- what steps came from
pub step : {E A B : Type 0} (r : Result A E) (f : A → Result B E) (y : B) → (r >>= f) ≡ Ok y → (a : A) × (r ≡ Ok a) × (f a ≡ Ok y)
step (Ok a) f y is = (a, refl, is)
step (Err e) f y is = absurd cc

pub passed : {E B : Type 0} (o : Option E) (r : Result B E) (y : B) → (o >> r) ≡ Ok y → (o ≡ None) × (r ≡ Ok y)
passed None r y is = (refl, is)
passed (Some e) r y is = absurd cc

pub demanded : {E B : Type 0} (b : Bool) (e : E) (r : Result B E) (y : B) → (demand b e >> r) ≡ Ok y → (b ≡ true) × (r ≡ Ok y)
demanded true e r y is = (refl, is)
demanded false e r y is = absurd cc

ok_found : {X E : Type 0} (o : Option X) (e : E) (x : X) → ok_or o e ≡ Ok x → o ≡ Some x
ok_found None e x is = absurd cc
ok_found (Some y) e x is = cc

ok_kept : {X E : Type 0} (r : Result X E) (x : X) → result_ok r ≡ Some x → r ≡ Ok x
ok_kept (Ok y) x is = cc
ok_kept (Err e) x is = absurd cc

pub required_is : {X : Type 0} (tag : FieldTag) (content : List ℕ → Result X FieldFault) (fields : List Field) (x : X)
    → required tag content fields ≡ Ok x → (b : List ℕ) × (content b ≡ Ok x)
required_is {X = X} tag content fields x is =
    bound_back (λ (f : Field). result_ok (content f.bytes)) ((b : List ℕ) × (content b ≡ Ok x)) (find (is_tagged tag) fields) x
    (ok_found (value_of tag content fields) MissingField x is)
    (λ f _ found. (f.bytes, ok_kept (content f.bytes) x found))

-- ---- rows that join
flat_pass : {A X : Type 0} (test : X → Bool) (g : A → List X) → ((a : A) → list_all test (g a) ≡ true) → (fs : List A) → list_all test (flat_map g fs) ≡ true
flat_pass test g each [] = refl
flat_pass test g each (a ∷ fs) = list_all-append test (g a) (flat_map g fs) ∙ and_true (list_all test (g a)) (list_all test (flat_map g fs))
    (each a) (flat_pass test g each fs)

pub rows_pass : {X : Type 0} (tag : FieldTag) (content : List ℕ → Result (List X) FieldFault) (test : X → Bool)
    → ((b : List ℕ) (xs : List X) → content b ≡ Ok xs → list_all test xs ≡ true)
    → (fields : List Field) → list_all test (rows_of tag content fields) ≡ true
rows_pass {X = X} tag content test each fields = flat_pass test (λ (f : Field). result_unwrap_or (content f.bytes) [])
    (λ f. by f (content f.bytes) refl) (filter (is_tagged tag) fields)
  where
    by : (f : Field) (r : Result (List X) FieldFault) → content f.bytes ≡ r → list_all test (result_unwrap_or r []) ≡ true
    by f (Ok xs) is = each f.bytes xs is
    by f (Err e) is = refl

pub texts_flat : {X : Type 0} (row : X → List Subfield) (xs : List X) → list_all (λ x. list_all is_plain (row x)) xs ≡ true
    → list_all is_plain (flat_map row xs) ≡ true
texts_flat row [] all = refl
texts_flat row (x ∷ xs) all = list_all-append is_plain (row x) (flat_map row xs) ∙ by (list_all is_plain (row x))
    (list_all (λ y. list_all is_plain (row y)) xs) all (texts_flat row xs)
  where
    by : (a b : Bool) → (a && b) ≡ true → (b ≡ true → list_all is_plain (flat_map row xs) ≡ true) → (a && list_all is_plain (flat_map row xs)) ≡ true
    by true b both more = more both
    by false b both more = absurd cc

joined : (xs ys : List Subfield) → list_all is_plain xs ≡ true → list_all is_plain ys ≡ true → list_all is_plain (xs ++ ys) ≡ true
joined xs ys a b = list_all-append is_plain xs ys ∙ and_true (list_all is_plain xs) (list_all is_plain ys) a b

-- ---- a record by itself
pub record IsGood (nall : ℕ) (r : Rec) : Type 0 where
  pub names : has_good_names r ≡ true
  pub texts : has_good_texts nall r ≡ true

abbrev vector_then : List Field → Vrid → Result Rec RecordFault
vector_then fields d = demand (d.ruin == 1) NotBase >> Ok (vector_of fields d)

-- the fields that a vector record was read from
pub record VectorSaid (fields : List Field) (r : Rec) : Type 0 where
  pub d : Vrid
  pub vrid : required tags.Vrid vrid_content fields ≡ Ok d
  pub same : vector_of fields d ≡ r

pub vector_said : (fields : List Field) (r : Rec) → vector_record fields ≡ Ok r → VectorSaid fields r
vector_said fields r is =
    let read = passed (fields_fault 0 types.Vector [] fields) (required tags.Vrid vrid_content fields >>= vector_then fields) r is in
    let d = step (required tags.Vrid vrid_content fields) (vector_then fields) r read.1 in
    let made = demanded (d.0.ruin == 1) NotBase (Ok (vector_of fields d.0)) r d.2 in
    let same : vector_of fields d.0 ≡ r = cc in
    record { d = d.0; vrid = d.1; same = same }

vector_is_good : (nall : ℕ) (fields : List Field) (r : Rec) → vector_record fields ≡ Ok r → IsGood nall r
vector_is_good nall fields r is =
    let said = vector_said fields r is in
    let vrid = required_is tags.Vrid vrid_content fields said.d said.vrid in
    subst (IsGood nall) said.same (record {
      names = and_true _ _ (vrid_names_vector vrid.0 said.d vrid.1) (rows_pass tags.Vrpt end_content end_names_vector ends_name_vectors fields);
      texts = texts_flat (attribute_row 0) (rows_of tags.Attv (attribute_content 0) fields)
          (rows_pass tags.Attv (attribute_content 0) (attribute_is_plain 0) (attributes_are_plain 0) fields);
    })

abbrev feature_then : ℕ → List Field → Frid → Lnam → Result Rec RecordFault
feature_then nall fields d l = demand (d.ruin == 1) NotBase >> Ok (feature_of nall fields d l)

abbrev identified_then : ℕ → List Field → Frid → Result Rec RecordFault
identified_then nall fields d = required tags.Foid foid_content fields >>= feature_then nall fields d

-- the fields that a feature record was read from
pub record FeatureSaid (nall : ℕ) (fields : List Field) (r : Rec) : Type 0 where
  pub d : Frid
  pub l : Lnam
  pub frid : required tags.Frid frid_content fields ≡ Ok d
  pub foid : required tags.Foid foid_content fields ≡ Ok l
  pub same : feature_of nall fields d l ≡ r

pub feature_said : (nall : ℕ) (fields : List Field) (r : Rec) → feature_record nall fields ≡ Ok r → FeatureSaid nall fields r
feature_said nall fields r is =
    let read = passed (fields_fault nall types.Feature [] fields) (required tags.Frid frid_content fields >>= identified_then nall fields) r is in
    let d = step (required tags.Frid frid_content fields) (identified_then nall fields) r read.1 in
    let l = step (required tags.Foid foid_content fields) (feature_then nall fields d.0) r d.2 in
    let made = demanded (d.0.ruin == 1) NotBase (Ok (feature_of nall fields d.0 l.0)) r l.2 in
    let same : feature_of nall fields d.0 l.0 ≡ r = cc in
    record { d = d.0; l = l.0; frid = d.1; foid = l.1; same = same }

feature_is_good : (nall : ℕ) (fields : List Field) (r : Rec) → feature_record nall fields ≡ Ok r → IsGood nall r
feature_is_good nall fields r is =
    let attf = rows_of tags.Attf (attribute_content 0) fields in
    let natf = rows_of tags.Natf (attribute_content nall) fields in
    let partners = rows_of tags.Ffpt partner_content fields in
    subst (IsGood nall) (feature_said nall fields r is).same (record {
      names = rows_pass tags.Fspt place_content place_names_vector places_name_vectors fields;
      texts = joined (attribute_texts 0 attf ++ attribute_texts nall natf) (flat_map partner_row partners)
          (joined (attribute_texts 0 attf) (attribute_texts nall natf)
          (texts_flat (attribute_row 0) attf (rows_pass tags.Attf (attribute_content 0) (attribute_is_plain 0) (attributes_are_plain 0) fields))
          (texts_flat (attribute_row nall) natf (rows_pass tags.Natf (attribute_content nall) (attribute_is_plain nall) (attributes_are_plain nall) fields)))
          (texts_flat partner_row partners (rows_pass tags.Ffpt partner_content partner_is_plain partners_are_plain fields));
    })

values_are_good : (nall : ℕ) (fields : List Field) (type : RecordType) (r : Rec) → record_values nall fields type ≡ Ok r → IsGood nall r
values_are_good nall fields types.GeneralInformation r is = absurd cc
values_are_good nall fields types.GeographicReference r is = absurd cc
values_are_good nall fields types.Vector r is = vector_is_good nall fields r is
values_are_good nall fields types.Feature r is = feature_is_good nall fields r is

-- ---- a record behind those of a cell
pub record Follows (c : Cell) (r : Rec) : Type 0 where
  pub good : IsGood c.head.nall r
  pub new : list_any (is_named (name_of r)) (all_records c) ≡ false
  pub short : nat_le (written_length c.head.nall r) length_limit ≡ true
  pub room : nat_lt (length (all_records c)) record_limit ≡ true

abbrev third : Cell → Rec → Result Rec RecordFault
third c r = demand (nat_lt (length (all_records c)) record_limit) TooMany >> Ok r

abbrev second : Cell → Rec → Result Rec RecordFault
second c r = demand (nat_le (written_length c.head.nall r) length_limit) TooLong >> third c r

abbrev first : Cell → Rec → Result Rec RecordFault
first c r = demand (not (list_any (is_named (name_of r)) (all_records c))) TwiceName >> second c r

not_true : (b : Bool) → not b ≡ true → b ≡ false
not_true true is = absurd cc
not_true false is = refl

-- what was found of a record behind those of a cell
pub record BehindSaid (c : Cell) (fields : List Field) (r : Rec) : Type 0 where
  pub type : RecordType
  pub values : record_values c.head.nall fields type ≡ Ok r
  pub new : list_any (is_named (name_of r)) (all_records c) ≡ false
  pub short : nat_le (written_length c.head.nall r) length_limit ≡ true
  pub room : nat_lt (length (all_records c)) record_limit ≡ true

pub behind_said : (c : Cell) (fields : List Field) (r : Rec) → record_behind c fields ≡ Ok r → BehindSaid c fields r
unfolding record_behind
behind_said c fields r is =
    let type = step (record_type fields) (λ (t : RecordType). record_values c.head.nall fields t >>= first c) r is in
    let read = step (record_values c.head.nall fields type.0) (first c) r type.2 in
    let new = demanded (not (list_any (is_named (name_of read.0)) (all_records c))) TwiceName (second c read.0) r read.2 in
    let short = demanded (nat_le (written_length c.head.nall read.0) length_limit) TooLong (third c read.0) r new.1 in
    let room = demanded (nat_lt (length (all_records c)) record_limit) TooMany (Ok read.0) r short.1 in
    let same : read.0 ≡ r = cc in
    subst (BehindSaid c fields) same (record {
      type = type.0;
      values = read.1;
      new = not_true (list_any (is_named (name_of read.0)) (all_records c)) new.0;
      short = short.0;
      room = room.0;
    })

pub behind_follows : (c : Cell) (fields : List Field) (r : Rec) → record_behind c fields ≡ Ok r → Follows c r
behind_follows c fields r is =
    let said = behind_said c fields r is in
    record { good = values_are_good c.head.nall fields said.type r said.values; new = said.new; short = said.short; room = said.room }
