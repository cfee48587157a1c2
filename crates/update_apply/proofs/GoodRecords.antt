-- The names and texts of what an update makes: they were read, or are those of the cell, so they can be written.
use Rattle.std.proofs.Common.{◌≡◌, inl, inr, ℕ, zero, suc, ◌+◌, ◌-◌, ◌==◌, ◌&&◌, ◌||◌, Bool, true, false, cond, not, List, [], ◌∷◌, ◌++◌, length, take}
use Rattle.std.proofs.Common.{drop, filter, nat_le, nat_lt, Option, None, Some, Result, Ok, refl, sym, ap, subst, ◌∙◌}
use Rattle.std.specs.Prelude.{if◌then◌else◌, slice_set}
use Rattle.std.specs.List.{list_all, list_any, flat_map}
use Rattle.std.specs.Option.{option_and_then}
use Rattle.std.specs.Result.{result_unwrap_or}
use Rattle.std.proofs.lemmas.Bool.{le-ltb, leb-true}
use Rattle.std.proofs.lemmas.List.Elements.{recursion_from_All}
use Rattle.std.proofs.lemmas.List.Folds.{list_all-append}
use Rattle.frame_spec.specs.RecordFrame.{Field}
use Rattle.frame_spec.specs.WrittenRecord.{record_length, field_lengths}
use Rattle.s57_types.specs.Subfield.{Subfield, unsigned_of, text_of, wide_text_of, fixed_of, is_plain}
use Rattle.s57_types.specs.FieldRows.{attribute_row, partner_row, dsid_row, dspm_row}
use Rattle.s57_types.specs.RecordFields.{written_length, length_limit, identification_length, parameter_fields, dsid_of_head, dspm_of_head}
use Rattle.s57_types.specs.Fitness.{attribute_texts, has_good_names, has_good_texts, is_feature_kind, is_fit_head, is_vector_kind, unfitness}
use Rattle.s57_types.specs.Heads.{has_plain_texts}
use Rattle.s57_types.specs.declared.cell.Cell.{Cell}
use Rattle.s57_types.specs.declared.fault.Unfit.TheVariants.{BadName, BadText, TooLong}
use Rattle.s57_types.specs.declared.field.Dsid.{Dsid}
use Rattle.s57_types.specs.declared.field.Dssi.{Dssi}
use Rattle.s57_types.specs.declared.head.Head.{Head}
use Rattle.s57_types.specs.declared.name.RecName.{RecName}
use Rattle.s57_types.specs.declared.record.Attr.{Attr}
use Rattle.s57_types.specs.declared.record.Feature.{Feature}
use Rattle.s57_types.specs.declared.record.Rec.{Rec}
use Rattle.s57_types.specs.declared.record.Rec.TheVariants.{V, F, H}
use Rattle.s57_types.specs.declared.record.Vector.{Vector}
use Rattle.field_spec.specs.Contents.{attribute_content}
use Rattle.field_spec.specs.declared.fault.FieldFault.{FieldFault}
use Rattle.field_spec.proofs.Written.{both_parts}
use Rattle.cell_spec.specs.Lookup.{all_records, head_and_records, is_named, lookup_record}
use Rattle.cell_spec.specs.Readable.{IsReadable}
use Rattle.file_spec.specs.FieldTags.{is_tagged}
use Rattle.file_spec.specs.RecordReading.{rows_of}
use Rattle.file_spec.specs.declared.tag.FieldTag.{FieldTag}
use Rattle.file_spec.specs.declared.tag.FieldTag.TheVariants as tags
use Rattle.decode_laws.proofs.Contents.{and_true, attribute_is_plain, attributes_are_plain, end_names_vector, partner_is_plain, place_names_vector}
use Rattle.decode_laws.proofs.Records.{IsGood, demanded, rows_pass}
use Rattle.answer_laws.proofs.Among.{Among, found, known_of}
use Rattle.update_spec.specs.ControlFields.{instruction_of}
use Rattle.update_spec.specs.UpdatedAttributes.{is_delete_value, place_of_code, updated_attributes, with_given, with_place, without_place}
use Rattle.update_spec.specs.UpdatedRows.{changed_rows, has_place, rows_by_instruction, updated_rows}
use Rattle.update_spec.specs.UpdateHead.{head_update}
use Rattle.update_spec.specs.UpdateRecords.{are_mixed, feature_in, target_feature, target_vector, vector_in}
use Rattle.update_spec.specs.declared.control.Control.{Control}
use Rattle.update_spec.specs.declared.control.Instruction.{Instruction}
use Rattle.update_spec.specs.declared.control.Instruction.TheVariants.{Insert, Delete, Modify}
use Rattle.update_spec.specs.declared.fault.UpdateFault.TheVariants.{BadControl}

-- ---- lists of which each item passes a test
module _ {X : Type 0} (test : X → Bool) where
  all_taken : (n : ℕ) (xs : List X) → list_all test xs ≡ true → list_all test (take n xs) ≡ true
  all_taken zero xs all = refl
  all_taken (suc n) [] all = refl
  all_taken (suc n) (x ∷ xs) all =
      let parts = both_parts (test x) (list_all test xs) all in
      and_true (test x) (list_all test (take n xs)) parts.0 (all_taken n xs parts.1)

  all_dropped : (n : ℕ) (xs : List X) → list_all test xs ≡ true → list_all test (drop n xs) ≡ true
  all_dropped zero xs all = all
  all_dropped (suc n) [] all = refl
  all_dropped (suc n) (x ∷ xs) all = all_dropped n xs (both_parts (test x) (list_all test xs) all).1

  all_joined : (xs ys : List X) → list_all test xs ≡ true → list_all test ys ≡ true → list_all test (xs ++ ys) ≡ true
  all_joined xs ys a b = list_all-append test xs ys ∙ and_true (list_all test xs) (list_all test ys) a b

  all_replaced : (x : X) (xs : List X) (k : ℕ) → test x ≡ true → list_all test xs ≡ true → list_all test (slice_set xs k x) ≡ true
  all_replaced x [] k t all = refl
  all_replaced x (y ∷ ys) zero t all = and_true (test x) (list_all test ys) t (both_parts (test y) (list_all test ys) all).1
  all_replaced x (y ∷ ys) (suc k) t all =
      let parts = both_parts (test y) (list_all test ys) all in
      and_true (test y) (list_all test (slice_set ys k x)) parts.0 (all_replaced x ys k t parts.1)

  -- ---- rows that a control field changes
  changed_pass : (removed wanted : ℕ) (control : Control) (given rows out : List X) → list_all test given ≡ true → list_all test rows ≡ true
      → changed_rows removed wanted control given rows ≡ Ok out → list_all test out ≡ true
  unfolding changed_rows
  changed_pass removed wanted control given rows out g r is =
      let front = take (control.index - 1) rows in
      let back = drop (control.index - 1 + removed) rows in
      let made = demanded (has_place removed wanted control (length given) (length rows)) BadControl (Ok (front ++ given ++ back)) out is in
      let same : front ++ given ++ back ≡ out = cc in
      subst (λ xs. list_all test xs ≡ true) same
      (all_joined (front ++ given) back (all_joined front given (all_taken (control.index - 1) rows r) g)
      (all_dropped (control.index - 1 + removed) rows r))

  pub updated_pass : (control : Option Control) (given rows out : List X) → list_all test given ≡ true → list_all test rows ≡ true
      → updated_rows control given rows ≡ Ok out → list_all test out ≡ true
  unfolding updated_rows
  updated_pass None given rows out g r is =
      let kept = demanded (length given == 0) BadControl (Ok rows) out is in
      let same : rows ≡ out = cc in
      subst (λ xs. list_all test xs ≡ true) same r
  updated_pass (Some control) given rows out g r is = by (instruction_of control.instruction) is
    where
      by : (i : Option Instruction) → rows_by_instruction i control given rows ≡ Ok out → list_all test out ≡ true
      by None is = absurd cc
      by (Some Insert) is = changed_pass 0 control.count control given rows out g r is
      by (Some Delete) is = changed_pass control.count 0 control given rows out g r is
      by (Some Modify) is = changed_pass control.count control.count control given rows out g r is

-- ---- attributes
taken_pass : (test : Attr → Bool) (level : ℕ) (attrs : List Attr) (given : Attr) → test given ≡ true → list_all test attrs ≡ true
    → list_all test (with_given level attrs given) ≡ true
unfolding with_given
taken_pass test level attrs given g all = by (is_delete_value level given.value) (place_of_code given.code attrs)
  where
    by : (gone : Bool) (place : Option ℕ) → list_all test (if gone then without_place place attrs else with_place place given attrs) ≡ true
    by true None = all
    by true (Some k) = all_joined test (take k attrs) (drop (suc k) attrs) (all_taken test k attrs all) (all_dropped test (suc k) attrs all)
    by false None = all_joined test attrs (given ∷ []) all (and_true (test given) true g refl)
    by false (Some k) = all_replaced test given attrs k g all

pub attributes_pass : (test : Attr → Bool) (level : ℕ) (given attrs : List Attr) → list_all test given ≡ true → list_all test attrs ≡ true
    → list_all test (updated_attributes level given attrs) ≡ true
unfolding updated_attributes
attributes_pass test level [] attrs g all = all
attributes_pass test level (x ∷ given) attrs g all =
    let parts = both_parts (test x) (list_all test given) g in
    attributes_pass test level given (with_given level attrs x) parts.1 (taken_pass test level attrs x parts.0 all)

-- ---- texts of rows, one after the other
texts_each : {X : Type 0} (row : X → List Subfield) (xs : List X) → list_all is_plain (flat_map row xs) ≡ true
    → list_all (λ x. list_all is_plain (row x)) xs ≡ true
texts_each row [] all = refl
texts_each row (x ∷ xs) all =
    let parts = both_parts (list_all is_plain (row x)) (list_all is_plain (flat_map row xs)) (sym (list_all-append is_plain (row x) (flat_map row xs)) ∙ all) in
    and_true (list_all is_plain (row x)) (list_all (λ y. list_all is_plain (row y)) xs) parts.0 (texts_each row xs parts.1)

pub texts_joined : (xs ys : List Subfield) → list_all is_plain xs ≡ true → list_all is_plain ys ≡ true → list_all is_plain (xs ++ ys) ≡ true
texts_joined = all_joined is_plain

-- ---- national attributes, read at the update's level and written at the cell's
abbrev plain_at : Bool → Attr → Bool
plain_at wide a = list_all is_plain (unsigned_of 2 a.code ∷ (if wide then wide_text_of a.value else text_of a.value) ∷ [])

alike_levels : (a b : Bool) → (if a then not b else b) ≡ false → a ≡ b
alike_levels true true is = refl
alike_levels true false is = absurd cc
alike_levels false true is = absurd cc
alike_levels false false is = refl

plain_at_level : (level nall : ℕ) → are_mixed level nall ≡ false → (b : List ℕ) (xs : List Attr) → attribute_content level b ≡ Ok xs
    → list_all (attribute_is_plain nall) xs ≡ true
plain_at_level level nall unmixed b xs is = subst (λ wide. list_all (plain_at wide) xs ≡ true) (alike_levels (level == 2) (nall == 2) unmixed)
    (attributes_are_plain level b xs is)

none_kept : {X : Type 0} (p : X → Bool) (xs : List X) → list_any p xs ≡ false → filter p xs ≡ []
none_kept p [] none = refl
none_kept {X = X} p (x ∷ xs) none = by (p x) none (none_kept p xs)
  where
    by : (b : Bool) → (b || list_any p xs) ≡ false → (list_any p xs ≡ false → filter p xs ≡ []) → cond b (x ∷ filter p xs) (filter p xs) ≡ []
    by true none rest = absurd cc
    by false none rest = rest none

no_rows : {X : Type 0} (tag : FieldTag) (content : List ℕ → Result (List X) FieldFault) (test : X → Bool) (fields : List Field)
    → list_any (is_tagged tag) fields ≡ false → list_all test (rows_of tag content fields) ≡ true
no_rows tag content test fields none =
    ap (λ (fs : List Field). list_all test (flat_map (λ (f : Field). result_unwrap_or (content f.bytes) []) fs)) (none_kept (is_tagged tag) fields none)

pub nationals_are_plain : (level nall : ℕ) (fields : List Field) → not (list_any (is_tagged tags.Natf) fields && are_mixed level nall) ≡ true
    → list_all (attribute_is_plain nall) (rows_of tags.Natf (attribute_content level) fields) ≡ true
nationals_are_plain level nall fields unmixed = by (list_any (is_tagged tags.Natf) fields) (are_mixed level nall) refl refl unmixed
  where
    by : (some mixed : Bool) → list_any (is_tagged tags.Natf) fields ≡ some → are_mixed level nall ≡ mixed → not (some && mixed) ≡ true
        → list_all (attribute_is_plain nall) (rows_of tags.Natf (attribute_content level) fields) ≡ true
    by true true s m is = absurd cc
    by true false s m is = rows_pass tags.Natf (attribute_content level) (attribute_is_plain nall) (plain_at_level level nall m) fields
    by false mixed s m is = no_rows tags.Natf (attribute_content level) (attribute_is_plain nall) fields s

-- ---- records of the cell
good_of : (nall : ℕ) (r : Rec) → unfitness nall r ≡ None → IsGood nall r
unfolding unfitness
good_of nall r fit = by (has_good_names r) (has_good_texts nall r) refl refl fit
  where
    by : (names texts : Bool) → has_good_names r ≡ names → has_good_texts nall r ≡ texts
        → cond (not names) (Some BadName) (cond (not texts) (Some BadText) (cond (nat_lt length_limit (written_length nall r)) (Some TooLong) None)) ≡ None
        → IsGood nall r
    by true true n t is = record { names = n; texts = t }
    by true false n t is = absurd cc
    by false texts n t is = absurd cc

-- what is good and short can be written
pub fits_when_short : (nall : ℕ) (r : Rec) → IsGood nall r → nat_le (written_length nall r) length_limit ≡ true → unfitness nall r ≡ None
unfolding unfitness
fits_when_short nall r good short = rw (good.names, good.texts, le-ltb length_limit (written_length nall r) (leb-true _ _ short)) refl

listed_is_good : (c : Cell) → IsReadable c → (r : Rec) → Among r (all_records c) → IsGood c.head.nall r
listed_is_good c readable r at =
    good_of c.head.nall r
    (known_of (λ s. unfitness c.head.nall s ≡ None) r (all_records c)
    (recursion_from_All (λ s. unfitness c.head.nall s ≡ None) (all_records c) readable.fit) at)

vector_found : (c : Cell) → IsReadable c → (n : RecName) (v : Vector) → lookup_record c n ≡ Some (V v) → IsGood c.head.nall (V v)
vector_found c readable n v is = elim (found (is_named n) (head_and_records c) (V v) is).among [
  | inl head ↦ absurd cc
  | inr there ↦ listed_is_good c readable (V v) there
]

feature_found : (c : Cell) → IsReadable c → (n : RecName) (f : Feature) → lookup_record c n ≡ Some (F f) → IsGood c.head.nall (F f)
feature_found c readable n f is = elim (found (is_named n) (head_and_records c) (F f) is).among [
  | inl head ↦ absurd cc
  | inr there ↦ listed_is_good c readable (F f) there
]

pub target_vector_is_good : (c : Cell) → IsReadable c → (n : RecName) (target : Vector) → target_vector c n ≡ Some target
    → IsGood c.head.nall (V target)
target_vector_is_good c readable n target is = by (lookup_record c n) refl is
  where
    by : (o : Option Rec) → lookup_record c n ≡ o → option_and_then vector_in o ≡ Some target → IsGood c.head.nall (V target)
    by None found is = absurd cc
    by (Some (V v)) found is = let same : v ≡ target = cc in
        subst (λ (t : Vector). IsGood c.head.nall (V t)) same (vector_found c readable n v found)
    by (Some (F f)) found is = absurd cc
    by (Some (H h)) found is = absurd cc

pub target_feature_is_good : (c : Cell) → IsReadable c → (n : RecName) (target : Feature) → target_feature c n ≡ Some target
    → IsGood c.head.nall (F target)
target_feature_is_good c readable n target is = by (lookup_record c n) refl is
  where
    by : (o : Option Rec) → lookup_record c n ≡ o → option_and_then feature_in o ≡ Some target → IsGood c.head.nall (F target)
    by (Some (V v)) found is = absurd cc
    by None found is = absurd cc
    by (Some (F f)) found is = let same : f ≡ target = cc in
        subst (λ (t : Feature). IsGood c.head.nall (F t)) same (feature_found c readable n f found)
    by (Some (H h)) found is = absurd cc

-- the rows of a good record, each by itself
pub record VectorRows (v : Vector) : Type 0 where
  pub ends : list_all end_names_vector v.ends ≡ true
  pub attrs : list_all (attribute_is_plain 0) v.attrs ≡ true

pub vector_rows : (nall : ℕ) (v : Vector) → IsGood nall (V v) → VectorRows v
vector_rows nall v good = record {
  ends = (both_parts (is_vector_kind v.name.kind) (list_all end_names_vector v.ends) good.names).1;
  attrs = texts_each (attribute_row 0) v.attrs good.texts;
}

pub record FeatureRows (nall : ℕ) (f : Feature) : Type 0 where
  pub places : list_all place_names_vector f.places ≡ true
  pub attf : list_all (attribute_is_plain 0) f.attf ≡ true
  pub natf : list_all (attribute_is_plain nall) f.natf ≡ true
  pub partners : list_all partner_is_plain f.partners ≡ true

pub feature_rows : (nall : ℕ) (f : Feature) → IsGood nall (F f) → FeatureRows nall f
feature_rows nall f good =
    let attf = attribute_texts 0 f.attf in
    let natf = attribute_texts nall f.natf in
    let partners = flat_map partner_row f.partners in
    let both = both_parts (list_all is_plain (attf ++ natf)) (list_all is_plain partners) (sym (list_all-append is_plain (attf ++ natf)
    partners) ∙ good.texts) in
    let two = both_parts (list_all is_plain attf) (list_all is_plain natf) (sym (list_all-append is_plain attf natf) ∙ both.0) in
    record {
      places = (both_parts (is_feature_kind f.name.kind) (list_all place_names_vector f.places) good.names).1;
      attf = texts_each (attribute_row 0) f.attf two.0;
      natf = texts_each (attribute_row nall) f.natf two.1;
      partners = texts_each partner_row f.partners both.1;
    }

-- ---- the texts of a head
five_of : (dsnm edtn updn uadt isdt sted psdn pred comt : Bool)
    → (dsnm && (edtn && (updn && (uadt && (isdt && (sted && (psdn && (pred && (comt && true))))))))) ≡ true
    → (edtn ≡ true) × (updn ≡ true) × (uadt ≡ true) × (isdt ≡ true) × (comt ≡ true)
five_of false edtn updn uadt isdt sted psdn pred comt all = absurd cc
five_of true false updn uadt isdt sted psdn pred comt all = absurd cc
five_of true true false uadt isdt sted psdn pred comt all = absurd cc
five_of true true true false isdt sted psdn pred comt all = absurd cc
five_of true true true true false sted psdn pred comt all = absurd cc
five_of true true true true true false psdn pred comt all = absurd cc
five_of true true true true true true false pred comt all = absurd cc
five_of true true true true true true true false comt all = absurd cc
five_of true true true true true true true true false all = absurd cc
five_of true true true true true true true true true all = (refl, refl, refl, refl, refl)

dsid_texts : (d : Dsid) → list_all is_plain (dsid_row d) ≡ true
    → (is_plain (text_of d.edtn) ≡ true) × (is_plain (text_of d.updn) ≡ true) × (is_plain (fixed_of d.uadt) ≡ true)
    × (is_plain (fixed_of d.isdt) ≡ true) × (is_plain (text_of d.comt) ≡ true)
dsid_texts d all =
    five_of (is_plain (text_of d.dsnm)) (is_plain (text_of d.edtn)) (is_plain (text_of d.updn)) (is_plain (fixed_of d.uadt)) (is_plain (fixed_of d.isdt))
    (is_plain (fixed_of d.sted)) (is_plain (text_of d.psdn)) (is_plain (text_of d.pred)) (is_plain (text_of d.comt)) all

-- the texts of the head that an update leaves were read, or are those of a head that can be written
pub head_texts : (h : Head) (d : Dsid) (s : Dssi) → list_all is_plain (dsid_row (dsid_of_head h)) ≡ true → list_all is_plain (dsid_row d) ≡ true
    → has_plain_texts (head_update h d s) ≡ true
head_texts h d s old new =
    let kept = dsid_texts (dsid_of_head h) old in
    let told = dsid_texts d new in
    and_true _ _ kept.0 (and_true _ _ told.1 (and_true _ _ kept.2 (and_true _ _ told.3 (and_true _ true kept.4 refl))))

third_of : (a b texts d e f : Bool) → (a && b && texts && d && e && f) ≡ true → texts ≡ true
third_of a b texts d e f all =
    let five = both_parts (a && b && texts && d && e) f all in
    let four = both_parts (a && b && texts && d) e five.0 in
    let three = both_parts (a && b && texts) d four.0 in
    (both_parts (a && b) texts three.0).1

pub head_row_is_plain : (h : Head) → is_fit_head h ≡ true → list_all is_plain (dsid_row (dsid_of_head h)) ≡ true
unfolding is_fit_head
head_row_is_plain h fit =
    third_of (nat_le h.aall 1) (nat_le h.nall 2) (list_all is_plain (dsid_row (dsid_of_head h))) (list_all is_plain (dspm_row (dspm_of_head h)))
    (nat_le (identification_length h) length_limit) (nat_le (record_length (field_lengths (parameter_fields 0 h))) length_limit) fit
