-- What is known of the values of fields that have no fault: plain texts, levels in range and names of vector records.
use Rattle.std.proofs.Common.{◌≡◌, ℕ, zero, suc, ◌&&◌, ◌||◌, ◌==◌, Bool, true, false, not, List, [], ◌∷◌, ◌++◌, map, length, nat_le, Option, Some, None}
use Rattle.std.proofs.Common.{Result, Ok, Err, refl, subst}
use Rattle.std.specs.Prelude.{if◌then◌else◌}
use Rattle.std.specs.List.{list_all}
use Rattle.std.specs.Option.{option_map}
use Rattle.std.specs.Result.{result_map_both}
use Rattle.s57_types.specs.Subfield.{Form, Subfield, unsigned, signed, text, wide_text, fixed, unsigned_of, signed_of, text_of, wide_text_of, fixed_of}
use Rattle.s57_types.specs.Subfield.{is_plain, row_bytes, field_terminator}
use Rattle.s57_types.specs.FieldRows.{attribute_forms, attribute_row, partner_forms, partner_row, dsid_forms, dsid_row, dssi_forms, dssi_row, dspm_forms}
use Rattle.s57_types.specs.FieldRows.{dspm_row, vrid_forms, end_forms, place_forms}
use Rattle.s57_types.specs.Fitness.{is_vector_kind}
use Rattle.s57_types.specs.declared.name.Kind.TheVariants.{Vi, Vc, Ve, Fe}
use Rattle.s57_types.specs.declared.field.Dsid.{Dsid}
use Rattle.s57_types.specs.declared.field.Dssi.{Dssi}
use Rattle.s57_types.specs.declared.field.Dspm.{Dspm}
use Rattle.s57_types.specs.declared.field.Vrid.{Vrid}
use Rattle.s57_types.specs.declared.record.Attr.{Attr}
use Rattle.s57_types.specs.declared.record.End.{End}
use Rattle.s57_types.specs.declared.record.Spot.{Spot}
use Rattle.s57_types.specs.declared.record.Partner.{Partner}
use Rattle.field_spec.specs.Contents.{text_value, text_in, number_in, name_in, judged, judged_row, row_as, rows_as, any_row, names_a_vector, has_good_levels}
use Rattle.field_spec.specs.Contents.{dsid_value, dsid_content, dssi_value, dssi_content, dspm_value, dspm_content, vrid_value, vrid_content}
use Rattle.field_spec.specs.Contents.{attribute_value, attribute_content, partner_value, partner_content, place_value, place_content, end_value, end_content}
use Rattle.field_spec.specs.Cutting.{front, split, split_units, cut_row, cut_rows, field_row, field_rows, whole, before_terminator, body_at_level}
use Rattle.field_spec.specs.declared.fault.FieldFault.TheVariants.{BadField, BadText}
use Rattle.field_spec.proofs.CutBack.{mapped_back, bound_back}
use Rattle.field_spec.proofs.Written.{both_parts}

pub and_true : (a b : Bool) → a ≡ true → b ≡ true → (a && b) ≡ true
and_true true b p q = q
and_true false b p q = absurd cc

pub mapped_ok : {A B E : Type 0} (f : A → B) (r : Result A E) (x : B) → result_map_both f (λ e. e) r ≡ Ok x → (a : A) × (r ≡ Ok a) × (f a ≡ x)
mapped_ok f (Ok a) x is = (a, refl, cc)
mapped_ok f (Err e) x is = absurd cc

-- ---- texts of one width
abbrev fits : Bool → Subfield → Bool
fits wide (unsigned_of w n) = true
fits wide (signed_of z) = true
fits wide (text_of t) = not wide
fits wide (wide_text_of t) = wide
fits wide (fixed_of t) = not wide

abbrev form_fits : Bool → Form → Bool
form_fits wide (unsigned w) = true
form_fits wide signed = true
form_fits wide text = not wide
form_fits wide wide_text = wide
form_fits wide (fixed n) = not wide

front_fits : (wide : Bool) (form : Form) (b : List ℕ) (x : Subfield × List ℕ) → form_fits wide form ≡ true → front form b ≡ Some x → fits wide x.0 ≡ true
front_fits wide (unsigned w) b x ok is = mapped_back _ (λ (y : Subfield × List ℕ). fits wide y.0 ≡ true) (split w b) x is (λ y _. refl)
front_fits wide signed b x ok is = mapped_back _ (λ (y : Subfield × List ℕ). fits wide y.0 ≡ true) (split 4 b) x is (λ y _. refl)
front_fits wide text b x ok is = mapped_back _ (λ (y : Subfield × List ℕ). fits wide y.0 ≡ true) _ x is (λ y _. ok)
front_fits wide wide_text b x ok is = mapped_back _ (λ (y : Subfield × List ℕ). fits wide y.0 ≡ true) (split_units b) x is (λ y _. ok)
front_fits wide (fixed n) b x ok is = mapped_back _ (λ (y : Subfield × List ℕ). fits wide y.0 ≡ true) (split n b) x is (λ y _. ok)

row_fits : (wide : Bool) (forms : List Form) (b : List ℕ) (x : List Subfield × List ℕ) → list_all (form_fits wide) forms ≡ true
    → cut_row forms b ≡ Some x → list_all (fits wide) x.0 ≡ true
row_fits wide [] b x ok is = let same : ([], b) ≡ x = cc in subst (λ (y : List Subfield × List ℕ). list_all (fits wide) y.0 ≡ true) same refl
row_fits wide (form ∷ forms) b x ok is =
    let parts = both_parts (form_fits wide form) (list_all (form_fits wide) forms) ok in
    bound_back (λ (f : Subfield × List ℕ). option_map (λ (y : List Subfield × List ℕ). (f.0 ∷ y.0, y.1)) (cut_row forms f.1))
    (list_all (fits wide) x.0 ≡ true) (front form b) x is (λ f found more.
    mapped_back (λ (y : List Subfield × List ℕ). (f.0 ∷ y.0, y.1)) (λ (z : List Subfield × List ℕ). list_all (fits wide) z.0 ≡ true)
    (cut_row forms f.1) x more (λ y cut.
    and_true (fits wide f.0) (list_all (fits wide) y.0) (front_fits wide form b f parts.0 found) (row_fits wide forms f.1 y parts.1 cut)))

rows_fit : (wide : Bool) (n : ℕ) (forms : List Form) (b : List ℕ) (rows : List (List Subfield)) → list_all (form_fits wide) forms ≡ true
    → cut_rows n forms b ≡ Some rows → list_all (list_all (fits wide)) rows ≡ true
rows_fit wide zero forms [] rows ok is = let same : [] ≡ rows = cc in subst (λ (y : List (List Subfield)). list_all (list_all (fits wide)) y ≡ true) same refl
rows_fit wide (suc n) forms [] rows ok is = let same : [] ≡ rows = cc in
    subst (λ (y : List (List Subfield)). list_all (list_all (fits wide)) y ≡ true) same refl
rows_fit wide zero forms (c ∷ b) rows ok is = absurd cc
rows_fit wide (suc n) forms (c ∷ b) rows ok is =
    bound_back (λ (x : List Subfield × List ℕ). option_map (λ (more : List (List Subfield)). x.0 ∷ more) (cut_rows n forms x.1))
    (list_all (list_all (fits wide)) rows ≡ true) (cut_row forms (c ∷ b)) rows is (λ x cut more.
    mapped_back (λ (others : List (List Subfield)). x.0 ∷ others) (λ (all : List (List Subfield)). list_all (list_all (fits wide)) all ≡ true)
    (cut_rows n forms x.1) rows more (λ others is.
    and_true (list_all (fits wide) x.0) (list_all (list_all (fits wide)) others) (row_fits wide forms (c ∷ b) x ok cut)
    (rows_fit wide n forms x.1 others ok is)))

whole_fits : (wide : Bool) (forms : List Form) (b : List ℕ) (row : List Subfield) → list_all (form_fits wide) forms ≡ true
    → field_row forms b ≡ Some row → list_all (fits wide) row ≡ true
whole_fits wide forms b row ok is =
    bound_back (λ (body : List ℕ). whole (cut_row forms body)) (list_all (fits wide) row ≡ true) (before_terminator b) row is (λ body _ cut.
    bound_back (λ (x : List Subfield × List ℕ). if length x.1 == 0 then Some x.0 else None) (list_all (fits wide) row ≡ true)
    (cut_row forms body) row cut (λ x found ends.
    by (length x.1 == 0) x ends (row_fits wide forms body x ok found)))
  where
    by : (b : Bool) (x : List Subfield × List ℕ) → (if b then Some x.0 else None) ≡ Some row → list_all (fits wide) x.0 ≡ true → list_all (fits wide) row ≡ true
    by true x ends all = let same : x.0 ≡ row = cc in subst (λ (y : List Subfield). list_all (fits wide) y ≡ true) same all
    by false x ends all = absurd cc

all_fit : (wide : Bool) (level : ℕ) (forms : List Form) (b : List ℕ) (rows : List (List Subfield)) → list_all (form_fits wide) forms ≡ true
    → field_rows level forms b ≡ Some rows → list_all (list_all (fits wide)) rows ≡ true
all_fit wide level forms b rows ok is =
    bound_back (λ (body : List ℕ). cut_rows (length body) forms body) (list_all (list_all (fits wide)) rows ≡ true)
    (body_at_level level b) rows is (λ body _ cut. rows_fit wide (length body) forms body rows ok cut)

-- ---- what a judged field has
pub record Row (forms : List Form) (good : List Subfield → Bool) (row : List Subfield) : Type 0 where
  pub is_good : good row ≡ true
  pub plain : list_all is_plain row ≡ true
  pub fit : (wide : Bool) → list_all (form_fits wide) forms ≡ true → list_all (fits wide) row ≡ true

abbrev as_text : Bool → List ℕ → Subfield
as_text wide t = if wide then wide_text_of t else text_of t

plain_text : (wide : Bool) (s : Subfield) → fits wide s ≡ true → is_plain s ≡ true → is_plain (as_text wide (text_value (Some s))) ≡ true
plain_text true (unsigned_of w n) f p = refl
plain_text true (signed_of z) f p = refl
plain_text true (text_of t) f p = absurd cc
plain_text true (wide_text_of t) f p = p
plain_text true (fixed_of t) f p = absurd cc
plain_text false (unsigned_of w n) f p = refl
plain_text false (signed_of z) f p = refl
plain_text false (text_of t) f p = p
plain_text false (wide_text_of t) f p = absurd cc
plain_text false (fixed_of t) f p = p

no_text : (wide : Bool) → is_plain (as_text wide []) ≡ true
no_text true = refl
no_text false = refl

text_is_plain : (wide : Bool) (row : List Subfield) (k : ℕ) → list_all (fits wide) row ≡ true → list_all is_plain row ≡ true
    → is_plain (as_text wide (text_in row k)) ≡ true
text_is_plain wide [] k f p = no_text wide
text_is_plain wide (s ∷ row) zero f p = plain_text wide s (both_parts (fits wide s) (list_all (fits wide) row) f).0
    (both_parts (is_plain s) (list_all is_plain row) p).0
text_is_plain wide (s ∷ row) (suc k) f p = text_is_plain wide row k (both_parts (fits wide s) (list_all (fits wide) row) f).1
    (both_parts (is_plain s) (list_all is_plain row) p).1

judged_row_is : (forms : List Form) (good : List Subfield → Bool) (b : List ℕ) (row : List Subfield)
    → judged_row good (field_row forms b) ≡ Ok row → Row forms good row
judged_row_is forms good b row is = by (field_row forms b) refl is
  where
    told : (r : List Subfield) → field_row forms b ≡ Some r → (g p : Bool) → good r ≡ g → list_all is_plain r ≡ p
        → (if not g then Err BadField else (if not p then Err BadText else Ok r)) ≡ Ok row → Row forms good row
    told r found true true g p is = let same : r ≡ row = cc in
        subst (λ (y : List Subfield). Row forms good y) same (record { is_good = g; plain = p; fit = λ wide ok. whole_fits wide forms b r ok found })
    told r found true false g p is = absurd cc
    told r found false p g q is = absurd cc

    by : (o : Option (List Subfield)) → field_row forms b ≡ o → judged_row good o ≡ Ok row → Row forms good row
    by None found is = absurd cc
    by (Some r) found is = told r found (good r) (list_all is_plain r) refl refl is

pub row_value : {X : Type 0} (value : List Subfield → X) (forms : List Form) (good : List Subfield → Bool) (b : List ℕ) (x : X)
    → row_as value forms good b ≡ Ok x → (row : List Subfield) × Row forms good row × (value row ≡ x)
row_value value forms good b x is = let m = mapped_ok value (judged_row good (field_row forms b)) x is in (m.0, judged_row_is forms good b m.0 m.1, m.2)

-- every row of a field of rows
pub record Rows (forms : List Form) (good : List Subfield → Bool) (rows : List (List Subfield)) : Type 0 where
  pub are_good : list_all good rows ≡ true
  pub plain : list_all (list_all is_plain) rows ≡ true
  pub fit : (wide : Bool) → list_all (form_fits wide) forms ≡ true → list_all (list_all (fits wide)) rows ≡ true

judged_are : (level : ℕ) (forms : List Form) (good : List Subfield → Bool) (b : List ℕ) (rows : List (List Subfield))
    → judged good (field_rows level forms b) ≡ Ok rows → Rows forms good rows
judged_are level forms good b rows is = by (field_rows level forms b) refl is
  where
    told : (r : List (List Subfield)) → field_rows level forms b ≡ Some r → (g p : Bool) → list_all good r ≡ g → list_all (list_all is_plain) r ≡ p
        → (if not g then Err BadField else (if not p then Err BadText else Ok r)) ≡ Ok rows → Rows forms good rows
    told r found true true g p is = let same : r ≡ rows = cc in
        subst (λ (y : List (List Subfield)). Rows forms good y) same
        (record { are_good = g; plain = p; fit = λ wide ok. all_fit wide level forms b r ok found })
    told r found true false g p is = absurd cc
    told r found false p g q is = absurd cc

    by : (o : Option (List (List Subfield))) → field_rows level forms b ≡ o → judged good o ≡ Ok rows → Rows forms good rows
    by None found is = absurd cc
    by (Some r) found is = told r found (list_all good r) (list_all (list_all is_plain) r) refl refl is

pub rows_value : {X : Type 0} (value : List Subfield → X) (level : ℕ) (forms : List Form) (good : List Subfield → Bool) (b : List ℕ)
    (xs : List X) → rows_as value level forms good b ≡ Ok xs
    → (rows : List (List Subfield)) × Rows forms good rows × (map value rows ≡ xs)
rows_value value level forms good b xs is = let m = mapped_ok (map value) (judged good (field_rows level forms b)) xs is in
    (m.0, judged_are level forms good b m.0 m.1, m.2)

-- ---- the head fields
pub dsid_is_plain : (b : List ℕ) (d : Dsid) → dsid_content b ≡ Ok d → list_all is_plain (dsid_row d) ≡ true
unfolding dsid_content
dsid_is_plain b d is =
    let v = row_value dsid_value dsid_forms (λ row. number_in row 0 == 10) b d is in let row = v.0 in
    let f = v.1.fit false refl in let p = v.1.plain in
    subst (λ (x : Dsid). list_all is_plain (dsid_row x) ≡ true) v.2
    (and_true _ _ (text_is_plain false row 4 f p) (and_true _ _ (text_is_plain false row 5 f p) (and_true _ _ (text_is_plain false row 6 f p)
    (and_true _ _ (text_is_plain false row 7 f p) (and_true _ _ (text_is_plain false row 8 f p) (and_true _ _ (text_is_plain false row 9 f p)
    (and_true _ _ (text_is_plain false row 11 f p) (and_true _ _ (text_is_plain false row 12 f p)
    (and_true _ true (text_is_plain false row 15 f p) refl)))))))))

pub dspm_is_plain : (b : List ℕ) (d : Dspm) → dspm_content b ≡ Ok d → list_all is_plain (dspm_row d) ≡ true
unfolding dspm_content
dspm_is_plain b d is =
    let v = row_value dspm_value dspm_forms (λ row. number_in row 0 == 20) b d is in
    subst (λ (x : Dspm). list_all is_plain (dspm_row x) ≡ true) v.2 (and_true _ true (text_is_plain false v.0 12 (v.1.fit false refl) v.1.plain) refl)

pub record Levels (s : Dssi) : Type 0 where
  pub attributes : nat_le s.aall 1 ≡ true
  pub nationals : nat_le s.nall 2 ≡ true
  pub length_is : length (row_bytes (dssi_row s) ++ (field_terminator ∷ [])) ≡ 36

pub dssi_has_levels : (b : List ℕ) (s : Dssi) → dssi_content b ≡ Ok s → Levels s
unfolding dssi_content
dssi_has_levels b s is =
    let v = row_value dssi_value dssi_forms has_good_levels b s is in
    let parts = both_parts (nat_le (number_in v.0 1) 1) (nat_le (number_in v.0 2) 2) v.1.is_good in
    subst Levels v.2 (record { attributes = parts.0; nationals = parts.1; length_is = refl })

-- ---- names of vector records
vector_by : (a b c : Bool) → (a || b || c) ≡ true → is_vector_kind (if a then Vi else (if b then Vc else (if c then Ve else Fe))) ≡ true
vector_by true b c is = refl
vector_by false true c is = refl
vector_by false false true is = refl
vector_by false false false is = absurd cc

names_vector : (row : List Subfield) → names_a_vector row ≡ true → is_vector_kind (name_in row).kind ≡ true
names_vector row is = vector_by (number_in row 0 == 110) (number_in row 0 == 120) (number_in row 0 == 130) is

pub vrid_names_vector : (b : List ℕ) (d : Vrid) → vrid_content b ≡ Ok d → is_vector_kind d.name.kind ≡ true
unfolding vrid_content
vrid_names_vector b d is =
    let v = row_value vrid_value vrid_forms names_a_vector b d is in
    subst (λ (x : Vrid). is_vector_kind x.name.kind ≡ true) v.2 (names_vector v.0 v.1.is_good)

-- ---- rows
module _ {X : Type 0} (value : List Subfield → X) (forms : List Form) (good : List Subfield → Bool) (wide : Bool) (test : X → Bool)
    (each : (row : List Subfield) → good row ≡ true → list_all (fits wide) row ≡ true → list_all is_plain row ≡ true → test (value row) ≡ true) where
  rows_pass : (rows : List (List Subfield)) → list_all good rows ≡ true → list_all (list_all (fits wide)) rows ≡ true
      → list_all (list_all is_plain) rows ≡ true → list_all test (map value rows) ≡ true
  rows_pass [] g f p = refl
  rows_pass (row ∷ rows) g f p =
      let gs = both_parts (good row) (list_all good rows) g in
      let fs = both_parts (list_all (fits wide) row) (list_all (list_all (fits wide)) rows) f in
      let ps = both_parts (list_all is_plain row) (list_all (list_all is_plain) rows) p in
      and_true (test (value row)) (list_all test (map value rows)) (each row gs.0 fs.0 ps.0) (rows_pass rows gs.1 fs.1 ps.1)

  pub values_pass : (level : ℕ) (b : List ℕ) (xs : List X) → list_all (form_fits wide) forms ≡ true → rows_as value level forms good b ≡ Ok xs
      → list_all test xs ≡ true
  values_pass level b xs ok is =
      let v = rows_value value level forms good b xs is in
      subst (λ (ys : List X). list_all test ys ≡ true) v.2 (rows_pass v.0 v.1.are_good (v.1.fit wide ok) v.1.plain)

level_fits : (wide : Bool) → (form_fits wide (if wide then wide_text else text) && true) ≡ true
level_fits true = refl
level_fits false = refl

abbrev pub attribute_is_plain : ℕ → Attr → Bool
attribute_is_plain level a = list_all is_plain (attribute_row level a)

pub attributes_are_plain : (level : ℕ) (b : List ℕ) (xs : List Attr) → attribute_content level b ≡ Ok xs → list_all (attribute_is_plain level) xs ≡ true
unfolding attribute_content
attributes_are_plain level b xs is =
    values_pass attribute_value (attribute_forms level) any_row (level == 2) (attribute_is_plain level)
    (λ row g f p. and_true _ true (text_is_plain (level == 2) row 1 f p) refl) level b xs (level_fits (level == 2)) is

abbrev pub partner_is_plain : Partner → Bool
partner_is_plain p = list_all is_plain (partner_row p)

pub partners_are_plain : (b : List ℕ) (xs : List Partner) → partner_content b ≡ Ok xs → list_all partner_is_plain xs ≡ true
unfolding partner_content
partners_are_plain b xs is =
    values_pass partner_value partner_forms any_row false partner_is_plain (λ row g f p. and_true _ true (text_is_plain false row 4 f p) refl) 0 b xs refl is

abbrev pub end_names_vector : End → Bool
end_names_vector e = is_vector_kind e.to.kind

pub ends_name_vectors : (b : List ℕ) (xs : List End) → end_content b ≡ Ok xs → list_all end_names_vector xs ≡ true
unfolding end_content
ends_name_vectors b xs is = values_pass end_value end_forms names_a_vector false end_names_vector (λ row g f p. names_vector row g) 0 b xs refl is

abbrev pub place_names_vector : Spot → Bool
place_names_vector s = is_vector_kind s.to.kind

pub places_name_vectors : (b : List ℕ) (xs : List Spot) → place_content b ≡ Ok xs → list_all place_names_vector xs ≡ true
unfolding place_content
places_name_vectors b xs is = values_pass place_value place_forms names_a_vector false place_names_vector (λ row g f p. names_vector row g) 0 b xs refl is
