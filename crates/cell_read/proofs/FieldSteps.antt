-- The fault of the fields of a record from a place on.
use Rattle.std.proofs.Common.{◌≡◌, ℕ, ◌+◌, ◌≤◌, ◌&&◌, ◌||◌, Bool, true, false, cond, not, List, [], ◌∷◌, ◌++◌, length, take, drop, Option, Some, None}
use Rattle.std.proofs.Common.{Result, Ok, Err, refl, sym, ap, ◌∙◌}
use Rattle.std.specs.Prelude.{slice_get, find, nat_eq, OnOk, IfErr}
use Rattle.std.specs.Cmp.Lexicographic.{pointwise}
use Rattle.std.specs.List.{list_any}
use Rattle.std.specs.Option.{option_map, option_or, ok_or}
use Rattle.std.proofs.lemmas.List.{drop_more, take_more, drop_all}
use Rattle.std.proofs.lemmas.List.Folds.{list_any-append}
use Rattle.std.proofs.Math.Bool.{or-false}
use Rattle.std.proofs.lemmas.Option.{slice_get_within, get_or_from_slice_get}
use borrow.Author.Tests.{eqb-true}
use Rattle.frame_spec.specs.RecordFrame.{Field}
use Rattle.file_spec.specs.FieldTags.{is_tagged, tag_in, tags_of, tag_text, may_repeat}
use Rattle.file_spec.specs.RecordReading.{fault_of_content, field_fault, fields_fault, record_type, type_of_leading}
use Rattle.file_spec.specs.declared.fault.RecordFault.{RecordFault}
use Rattle.file_spec.specs.declared.fault.RecordFault.TheVariants.{ForeignTag, RepeatedField, MissingField}
use Rattle.file_spec.specs.declared.tag.FieldTag.{FieldTag}
use Rattle.file_spec.specs.declared.tag.FieldTag.TheVariants as tags
use Rattle.file_spec.specs.declared.tag.RecordType.{RecordType}
use Rattle.cell_read.specs.Gives.{IsFault}
use Rattle.cell_read.specs.ValuesOf.{fault_from}
use Rattle.cell_read.specs.declared.refusal.RecordRefusal.{RecordRefusal}
use Rattle.cell_read.specs.declared.refusal.RecordRefusal.TheVariants.{Fault, NoMemory}

-- the item at a place, the items before it and those after it
pub drop_at : {X : Type 0} (xs : List X) (k : ℕ) (x : X) → slice_get xs k ≡ Some x → drop k xs ≡ x ∷ drop (k + 1) xs
drop_at xs k x is =
    drop_more xs k x (slice_get_within xs k x is) ∙ ap (λ y. y ∷ drop (k + 1) xs) (get_or_from_slice_get xs k x x is)

pub take_at : {X : Type 0} (xs : List X) (k : ℕ) (x : X) → slice_get xs k ≡ Some x → take (k + 1) xs ≡ take k xs ++ (x ∷ [])
take_at xs k x is =
    take_more xs k x (slice_get_within xs k x is) ∙ ap (λ y. take k xs ++ (y ∷ [])) (get_or_from_slice_get xs k x x is)

-- the first item that passes a test, from a place on
pub find_here : {X : Type 0} (p : X → Bool) (xs : List X) (k : ℕ) (x : X) → slice_get xs k ≡ Some x → p x ≡ true → find p (drop k xs) ≡ Some x
find_here p xs k x is holds = ap (find p) (drop_at xs k x is) ∙ ap (λ b. cond b (Some x) (find p (drop (k + 1) xs))) holds

pub find_later : {X : Type 0} (p : X → Bool) (xs : List X) (k : ℕ) (x : X) → slice_get xs k ≡ Some x → p x ≡ false
    → find p (drop k xs) ≡ find p (drop (k + 1) xs)
find_later p xs k x is fails = ap (find p) (drop_at xs k x is) ∙ ap (λ b. cond b (Some x) (find p (drop (k + 1) xs))) fails

pub any_more : {X : Type 0} (p : X → Bool) (xs : List X) (k : ℕ) (x : X) → slice_get xs k ≡ Some x
    → list_any p (take (k + 1) xs) ≡ (list_any p (take k xs) || p x)
any_more p xs k x is = ap (list_any p) (take_at xs k x is) ∙ list_any-append p (take k xs) (x ∷ []) ∙ ap (λ b. list_any p (take k xs) || b) (or-false (p x))

-- the tag of the field at a place, of which no more is known
pub at_tag : {P : Type 0} (fields : List Field) (k : ℕ) (name : List ℕ) → option_map (λ (f : Field). f.tag) (slice_get fields k) ≡ Some name
    → ((f : Field) → slice_get fields k ≡ Some f → f.tag ≡ name → P) → P
at_tag {P} fields k name is then = by (slice_get fields k) refl is
  where
    by : (found : Option Field) → slice_get fields k ≡ found → option_map (λ (f : Field). f.tag) found ≡ Some name → P
    by None e tagged = absurd cc
    by (Some f) e tagged = then f e cc

-- whether a test of the tag holds of one of the fields, with one field more
pub named_more : (p : List ℕ → Bool) (fields : List Field) (k : ℕ) (name : List ℕ) → option_map (λ (f : Field). f.tag) (slice_get fields k) ≡ Some name
    → list_any (λ (f : Field). p f.tag) (take (k + 1) fields) ≡ (list_any (λ (f : Field). p f.tag) (take k fields) || p name)
named_more p fields k name is = at_tag fields k name is
    (λ f here tagged. any_more (λ (x : Field). p x.tag) fields k f here ∙ ap (λ t. list_any (λ (x : Field). p x.tag) (take k fields) || p t) tagged)

-- the name of the first field but the record identifier, from a place on
pub named_here : (fields : List Field) (k : ℕ) (name : List ℕ) → option_map (λ (f : Field). f.tag) (slice_get fields k) ≡ Some name
    → pointwise nat_eq name (tag_text tags.RecordNumber) ≡ false
    → option_map (λ (f : Field). f.tag) (find (λ field. not (is_tagged tags.RecordNumber field)) (drop k fields)) ≡ Some name
named_here fields k name is other = at_tag fields k name is
    (λ f here tagged. let fails : not (is_tagged tags.RecordNumber f) ≡ true = ap (λ t. not (pointwise nat_eq t (tag_text tags.RecordNumber))) tagged
    ∙ ap not other in
    ap (option_map (λ (f : Field). f.tag)) (find_here (λ field. not (is_tagged tags.RecordNumber field)) fields k f here fails) ∙ ap Some tagged)

pub named_later : (fields : List Field) (k : ℕ) (name : List ℕ) → option_map (λ (f : Field). f.tag) (slice_get fields k) ≡ Some name
    → pointwise nat_eq name (tag_text tags.RecordNumber) ≡ true
    → find (λ field. not (is_tagged tags.RecordNumber field)) (drop k fields) ≡ find (λ field. not (is_tagged tags.RecordNumber field)) (drop (k + 1) fields)
named_later fields k name is same = at_tag fields k name is
    (λ f here tagged. let holds : not (is_tagged tags.RecordNumber f) ≡ false = ap (λ t. not (pointwise nat_eq t (tag_text tags.RecordNumber))) tagged
    ∙ ap not same in
    find_later (λ field. not (is_tagged tags.RecordNumber field)) fields k f here holds)

-- what was found passes the test
find_holds : {X : Type 0} (p : X → Bool) (xs : List X) (x : X) → find p xs ≡ Some x → p x ≡ true
find_holds p [] x is = absurd cc
find_holds p (y ∷ ys) x is = by (p y) refl is (find_holds p ys x)
  where
    by : (b : Bool) → p y ≡ b → cond b (Some y) (find p ys) ≡ Some x → (find p ys ≡ Some x → p x ≡ true) → p x ≡ true
    by true holds e later = let same : y ≡ x = cc in ap p (sym same) ∙ holds
    by false fails e later = later e

and_both : (a b : Bool) → (a && b) ≡ true → (a ≡ true) × (b ≡ true)
and_both true b e = (refl, e)
and_both false b e = absurd cc

same_text : (a b : List ℕ) → pointwise nat_eq a b ≡ true → a ≡ b
same_text [] [] is = refl
same_text [] (y ∷ ys) is = absurd cc
same_text (x ∷ xs) [] is = absurd cc
same_text (x ∷ xs) (y ∷ ys) is =
    let both = and_both (nat_eq x y) (pointwise nat_eq xs ys) is in
    ap (λ h. h ∷ xs) (eqb-true x y both.0) ∙ ap (λ t. y ∷ t) (same_text xs ys both.1)

-- the name of a field of a tag is the tag's
pub tag_is : (type : RecordType) (f : Field) (tag : FieldTag) → tag_in type f ≡ Some tag → f.tag ≡ tag_text tag
tag_is type f tag is = same_text f.tag (tag_text tag) (find_holds (λ t. is_tagged t f) (tags_of type) tag is)

-- the type of a record by the field that leads it
pub type_by_leading : (fields : List Field) (name : List ℕ) (kind : Option RecordType)
    → option_map (λ (f : Field). f.tag) (find (λ field. not (is_tagged tags.RecordNumber field)) fields) ≡ Some name
    → ((bytes : List ℕ) → kind ≡ type_of_leading (record { tag = name; bytes = bytes })) → record_type fields ≡ ok_or kind ForeignTag
type_by_leading fields name kind leads is = by (find (λ field. not (is_tagged tags.RecordNumber field)) fields) refl leads
  where
    by : (found : Option Field) → find (λ field. not (is_tagged tags.RecordNumber field)) fields ≡ found
        → option_map (λ (f : Field). f.tag) found ≡ Some name → record_type fields ≡ ok_or kind ForeignTag
    by None e leads = absurd cc
    by (Some f) e leads =
        let named : f.tag ≡ name = cc in
        let same : type_of_leading f ≡ kind = ap (λ t. type_of_leading (record { tag = t; bytes = f.bytes })) named ∙ sym (is f.bytes) in
        rw e (ap (λ k. ok_or k ForeignTag) same)

pub type_missing : (fields : List Field) → option_map (λ (f : Field). f.tag) (find (λ field. not (is_tagged tags.RecordNumber field)) fields) ≡
    None → record_type fields ≡ Err MissingField
type_missing fields none = by (find (λ field. not (is_tagged tags.RecordNumber field)) fields) refl none
  where
    by : (found : Option Field) → find (λ field. not (is_tagged tags.RecordNumber field)) fields ≡ found
        → option_map (λ (f : Field). f.tag) found ≡ None → record_type fields ≡ Err MissingField
    by None e none = rw e refl
    by (Some f) e none = absurd cc

-- the fault of a field, or that of the fields after it
pub fault_step : (nall : ℕ) (type : RecordType) (fields : List Field) (k : ℕ) (f : Field) → slice_get fields k ≡ Some f
    → fault_from nall type fields k ≡ option_or (field_fault nall type (take k fields) f) (fault_from nall type fields (k + 1))
unfolding fields_fault
fault_step nall type fields k f is =
    ap (fields_fault nall type (take k fields)) (drop_at fields k f is)
    ∙ ap (λ before. option_or (field_fault nall type (take k fields) f) (fields_fault nall type before (drop (k + 1) fields))) (sym (take_at fields k f is))

pub foreign : (nall : ℕ) (type : RecordType) (before : List Field) (f : Field) → tag_in type f ≡ None → field_fault nall type before f ≡ Some ForeignTag
foreign nall type before f is = rw is refl

pub repeated : (nall : ℕ) (type : RecordType) (before : List Field) (f : Field) (tag : FieldTag) → tag_in type f ≡ Some tag
    → (list_any (is_tagged tag) before && not (may_repeat tag)) ≡ true
    → field_fault nall type before f ≡ Some RepeatedField
repeated nall type before f tag is twice = rw (is, twice) refl

pub content : (nall : ℕ) (type : RecordType) (before : List Field) (f : Field) (tag : FieldTag) → tag_in type f ≡ Some tag
    → (list_any (is_tagged tag) before && not (may_repeat tag)) ≡ false
    → field_fault nall type before f ≡ fault_of_content nall tag f.bytes
content nall type before f tag is once = rw (is, once) refl

-- a fault of this field is the first from here on
pub fault_here : (nall : ℕ) (type : RecordType) (fields : List Field) (k : ℕ) (f : Field) (fault : RecordFault) → slice_get fields k ≡ Some f
    → field_fault nall type (take k fields) f ≡ Some fault → fault_from nall type fields k ≡ Some fault
fault_here nall type fields k f fault is here = fault_step nall type fields k f is ∙ ap (λ x. option_or x (fault_from nall type fields (k + 1))) here

pub fault_after : (nall : ℕ) (type : RecordType) (fields : List Field) (k : ℕ) (f : Field) → slice_get fields k ≡ Some f
    → field_fault nall type (take k fields) f ≡ None → fault_from nall type fields k ≡ fault_from nall type fields (k + 1)
fault_after nall type fields k f is none = fault_step nall type fields k f is ∙ ap (λ x. option_or x (fault_from nall type fields (k + 1))) none

-- what is known of a result, after one step more
pub ok_then : {T E P Q : Type 0} (r : Result T E) → OnOk r P → (P → Q) → OnOk r Q
ok_then (Ok x) p f = f p
ok_then (Err e) p f = tt

pub fault_then : {T : Type 0} (r : Result T RecordRefusal) (found there : Option RecordFault) → IfErr r (λ e. IsFault e found)
    → ((fault : RecordFault) → found ≡ Some fault → there ≡ Some fault) → IfErr r (λ e. IsFault e there)
fault_then (Ok x) found there h f = tt
fault_then (Err (Fault fault)) found there h f = f fault h
fault_then (Err NoMemory) found there h f = tt

-- behind the last field there is no fault
pub fault_end : (nall : ℕ) (type : RecordType) (fields : List Field) (k : ℕ) → length fields ≤ k → fault_from nall type fields k ≡ None
unfolding fields_fault
fault_end nall type fields k past = ap (fields_fault nall type (take k fields)) (drop_all k fields past)
