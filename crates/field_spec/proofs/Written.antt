-- Fields that were written are read as their values.
use Rattle.std.proofs.Common.{◌≡◌, ◌⊎◌, inl, ℕ, ◌==◌, ◌&&◌, Bool, true, false, not, cond, slice_get, List, [], ◌∷◌, ◌++◌, length, map, Ok, Err, refl, sym}
use Rattle.std.proofs.Common.{ap, ◌∙◌, arith}
use Rattle.std.specs.Bool.{MatchBool}
use Rattle.std.proofs.lemmas.List.{length-map}
use Rattle.std.specs.List.{flat_map, list_all, AllByRecursion}
use Rattle.std.specs.Result.{result_map_both}
use Rattle.s57_types.specs.Subfield.{Form, Subfield, form_of, row_bytes, field_terminator, is_plain, text, wide_text, unsigned, unsigned_of, text_of}
use Rattle.s57_types.specs.Subfield.{wide_text_of}
use Rattle.s57_types.specs.FieldRows.{dssi_forms, dssi_row, rcnm_of, attribute_forms, attribute_row, place_forms, place_row, end_forms, end_row}
use Rattle.s57_types.specs.FieldRows.{vrid_forms, vrid_row}
use Rattle.s57_types.specs.RecordFields.{terminator_of}
use Rattle.s57_types.specs.Fitness.{is_vector_kind}
use Rattle.s57_types.specs.declared.name.Kind.{Kind}
use Rattle.s57_types.specs.declared.name.Kind.TheVariants.{Vi, Vc, Ve, Fe, Head}
use Rattle.s57_types.specs.declared.record.Attr.{Attr}
use Rattle.s57_types.specs.declared.record.End.{End}
use Rattle.s57_types.specs.declared.record.Spot.{Spot}
use Rattle.s57_types.specs.declared.field.Dssi.{Dssi}
use Rattle.s57_types.specs.declared.field.Vrid.{Vrid}
use Rattle.field_spec.specs.FieldContent.{IsRow, IsField, IsFieldOfRows}
use Rattle.field_spec.specs.FieldBytes.{field_bytes, rows_bytes}
use Rattle.field_spec.specs.FieldFit.{CanRepeat, IsFit, is_even}
use Rattle.field_spec.specs.Contents.{judged, judged_row, row_as, rows_as, kind_of_rcnm, is_vector_rcnm, attribute_value, dssi_value, number_value}
use Rattle.field_spec.specs.Contents.{names_a_vector, place_value, end_value, vrid_value}
use Rattle.field_spec.specs.declared.fault.FieldFault.TheVariants.{BadField, BadText}
use Rattle.field_spec.proofs.FieldsSpelled.{row_of_field, rows_of_field}

-- a row that its field may have, and that has this value
pub record HasValue {X : Type 0} (value : List Subfield → X) (forms : List Form) (good : List Subfield → Bool) (row : List Subfield) (x : X) : Type 0 where
  pub fit : IsFit forms row
  pub is_good : good row ≡ true
  pub value_is : value row ≡ x

judged_good : {X : Type 0} (value : List Subfield → X) (g p : Bool) (row : List Subfield) → g ≡ true → p ≡ true
    → result_map_both value (λ e. e) (cond (not g) (Err BadField) (cond (not p) (Err BadText) (Ok row))) ≡ Ok (value row)
judged_good value true true row e f = refl
judged_good value true false row e f = absurd cc
judged_good value false p row e f = absurd cc

pub row_spelled : {X : Type 0} (value : List Subfield → X) (forms : List Form) (good : List Subfield → Bool) (row : List Subfield)
    (x : X) (bytes : List ℕ) → HasValue value forms good row x
    → IsField forms bytes row → row_as value forms good bytes ≡ Ok x
row_spelled value forms good row x bytes has field =
    ap (λ r. result_map_both value (λ e. e) (judged_row good r)) (row_of_field forms bytes row field)
    ∙ judged_good value (good row) (list_all is_plain row) row has.is_good has.fit.has_plain_texts
    ∙ ap Ok has.value_is

pub row_written : {X : Type 0} (value : List Subfield → X) (forms : List Form) (good : List Subfield → Bool) (row : List Subfield) (x : X)
    → HasValue value forms good row x
    → row_as value forms good (field_bytes row) ≡ Ok x
row_written value forms good row x has = row_spelled value forms good row x (field_bytes row) has (record { is_row = has.fit.is_row; bytes_are = refl })

-- each row of a list of values
abbrev pub HaveValues : {X : Type 0} → (List Subfield → X) → List Form → (List Subfield → Bool) → (X → List Subfield) → List X → Type 0
HaveValues value forms good row = AllByRecursion (λ x. HasValue value forms good (row x) x)

both : (a b : Bool) → a ≡ true → b ≡ true → (a && b) ≡ true
both a b p q = rw (p, q) refl

bytes_of_rows : {X : Type 0} (row : X → List Subfield) (xs : List X) → flat_map (λ y. row_bytes (row y)) xs ≡ flat_map row_bytes (map row xs)
bytes_of_rows row [] = refl
bytes_of_rows row (x ∷ xs) = ap (λ t. row_bytes (row x) ++ t) (bytes_of_rows row xs)

rows_good : {X : Type 0} (value : List Subfield → X) (forms : List Form) (good : List Subfield → Bool) (row : X → List Subfield) (xs : List X)
    → HaveValues value forms good row xs → list_all good (map row xs) ≡ true
rows_good value forms good row [] have = refl
rows_good value forms good row (x ∷ xs) have = both (good (row x)) (list_all good (map row xs)) have.0.is_good (rows_good value forms good row xs have.1)

rows_plain : {X : Type 0} (value : List Subfield → X) (forms : List Form) (good : List Subfield → Bool) (row : X → List Subfield) (xs : List X)
    → HaveValues value forms good row xs
    → list_all (list_all is_plain) (map row xs) ≡ true
rows_plain value forms good row [] have = refl
rows_plain value forms good row (x ∷ xs) have = both (list_all is_plain (row x))
    (list_all (list_all is_plain) (map row xs)) have.0.fit.has_plain_texts (rows_plain value forms good row xs have.1)

rows_valued : {X : Type 0} (value : List Subfield → X) (forms : List Form) (good : List Subfield → Bool) (row : X → List Subfield) (xs : List X)
    → HaveValues value forms good row xs → map value (map row xs) ≡ xs
rows_valued value forms good row [] have = refl
rows_valued value forms good row (x ∷ xs) have = rw (have.0.value_is, rows_valued value forms good row xs have.1) refl

rows_formed : {X : Type 0} (value : List Subfield → X) (forms : List Form) (good : List Subfield → Bool) (row : X → List Subfield) (xs : List X)
    → HaveValues value forms good row xs
    → AllByRecursion (IsRow forms) (map row xs)
rows_formed value forms good row [] have = tt
rows_formed value forms good row (x ∷ xs) have = (have.0.fit.is_row, rows_formed value forms good row xs have.1)

terminated : (wide : Bool) (bytes body : List ℕ) → bytes ≡ body ++ cond wide (field_terminator ∷ 0 ∷ []) (field_terminator ∷ [])
    → MatchBool wide ((bytes ≡ body ++ (field_terminator ∷ 0 ∷ [])) ⊎ (bytes ≡ body ++ (field_terminator ∷ []))) (bytes ≡ body ++ (field_terminator ∷ []))
terminated true bytes body e = inl e
terminated false bytes body e = e

pub rows_spelled : {X : Type 0} (value : List Subfield → X) (level : ℕ) (forms : List Form) (good : List Subfield → Bool)
    (row : X → List Subfield) (xs : List X) (bytes : List ℕ) → CanRepeat level forms
    → HaveValues value forms good row xs → IsFieldOfRows level forms bytes (map row xs) → rows_as value level forms good bytes ≡ Ok xs
rows_spelled value level forms good row xs bytes can have field =
    let rows = map row xs in
    ap (λ r. result_map_both (map value) (λ e. e) (judged good r)) (rows_of_field level forms bytes rows can.takes can.fits field)
    ∙ judged_rows (list_all good rows) (list_all (list_all is_plain) rows) rows (rows_good value forms good row xs have)
    (rows_plain value forms good row xs have)
    ∙ ap Ok (rows_valued value forms good row xs have)
  where
    judged_rows : (g p : Bool) (rows : List (List Subfield)) → g ≡ true → p ≡ true
        → result_map_both (map value) (λ e. e) (cond (not g) (Err BadField) (cond (not p) (Err BadText) (Ok rows))) ≡ Ok (map value rows)
    judged_rows true true rows e f = refl
    judged_rows true false rows e f = absurd cc
    judged_rows false p rows e f = absurd cc

pub rows_written : {X : Type 0} (value : List Subfield → X) (level : ℕ) (forms : List Form) (good : List Subfield → Bool)
    (row : X → List Subfield) (xs : List X) → CanRepeat level forms
    → HaveValues value forms good row xs → rows_as value level forms good (rows_bytes level row xs) ≡ Ok xs
rows_written value level forms good row xs can have = rows_spelled value level forms good row xs (rows_bytes level row xs) can have (record {
  each = rows_formed value forms good row xs have;
  bytes_are = terminated (level == 2) (rows_bytes level row xs) (flat_map row_bytes (map row xs)) (ap (λ t. t ++ terminator_of level) (bytes_of_rows row xs));
})

-- the record name of a vector record tells its kind
pub kind_of_rcnm-rcnm_of : (kind : Kind) → is_vector_kind kind ≡ true → kind_of_rcnm (rcnm_of kind) ≡ kind
kind_of_rcnm-rcnm_of Vi e = refl
kind_of_rcnm-rcnm_of Vc e = refl
kind_of_rcnm-rcnm_of Ve e = refl
kind_of_rcnm-rcnm_of Fe e = absurd cc
kind_of_rcnm-rcnm_of Head e = absurd cc

pub vector_rcnm : (kind : Kind) → is_vector_kind kind ≡ true → is_vector_rcnm (rcnm_of kind) ≡ true
vector_rcnm Vi e = refl
vector_rcnm Vc e = refl
vector_rcnm Ve e = refl
vector_rcnm Fe e = absurd cc
vector_rcnm Head e = absurd cc

-- values with names of vector records
pub place_has_value : (x : Spot) → IsFit place_forms (place_row x) → is_vector_kind x.to.kind ≡ true
    → HasValue place_value place_forms names_a_vector (place_row x) x
place_has_value x fit vector = let same = kind_of_rcnm-rcnm_of x.to.kind vector in
    record { fit = fit; is_good = vector_rcnm x.to.kind vector; value_is = ap (λ (k : Kind). record x { to = record { kind = k; id = x.to.id } }) same }

pub end_has_value : (x : End) → IsFit end_forms (end_row x) → is_vector_kind x.to.kind ≡ true
    → HasValue end_value end_forms names_a_vector (end_row x) x
end_has_value x fit vector = let same = kind_of_rcnm-rcnm_of x.to.kind vector in
    record { fit = fit; is_good = vector_rcnm x.to.kind vector; value_is = ap (λ (k : Kind). record x { to = record { kind = k; id = x.to.id } }) same }

pub vrid_has_value : (x : Vrid) → IsFit vrid_forms (vrid_row x) → is_vector_kind x.name.kind ≡ true
    → HasValue vrid_value vrid_forms names_a_vector (vrid_row x) x
vrid_has_value x fit vector = let same = kind_of_rcnm-rcnm_of x.name.kind vector in
    record { fit = fit; is_good = vector_rcnm x.name.kind vector; value_is = ap (λ (k : Kind). record x { name = record { kind = k; id = x.name.id } }) same }

pub both_parts : (a b : Bool) → (a && b) ≡ true → (a ≡ true) × (b ≡ true)
both_parts true b e = (refl, e)
both_parts false b e = absurd cc

pub attribute_value-row : (level : ℕ) (a : Attr) → attribute_value (attribute_row level a) ≡ a
attribute_value-row level a = by_level (level == 2) a
  where
    by_level : (wide : Bool) (a : Attr) → attribute_value (unsigned_of 2 a.code ∷ cond wide (wide_text_of a.value) (text_of a.value) ∷ []) ≡ a
    by_level true a = refl
    by_level false a = refl

-- values whose rows fit, and pass a test
pub have_values : {X : Type 0} (value : List Subfield → X) (forms : List Form) (good : List Subfield → Bool) (row : X → List Subfield)
    → ((x : X) → IsFit forms (row x) → HasValue value forms good (row x) x)
    → (xs : List X) → AllByRecursion (λ x. IsFit forms (row x)) xs → HaveValues value forms good row xs
have_values value forms good row each [] fit = tt
have_values value forms good row each (x ∷ xs) fit = (each x fit.0, have_values value forms good row each xs fit.1)

pub have_tested_values : {X : Type 0} (value : List Subfield → X) (forms : List Form) (good : List Subfield → Bool) (row : X → List Subfield) (test : X → Bool)
    → ((x : X) → IsFit forms (row x) → test x ≡ true → HasValue value forms good (row x) x)
    → (xs : List X) → AllByRecursion (λ x. IsFit forms (row x)) xs → list_all test xs ≡ true → HaveValues value forms good row xs
have_tested_values value forms good row test each [] fit passes = tt
have_tested_values value forms good row test each (x ∷ xs) fit passes =
    let parts = both_parts (test x) (list_all test xs) passes in
    (each x fit.0 parts.0, have_tested_values value forms good row test each xs fit.1 parts.1)

-- the count at a place of eight counts' subfields
abbrev count_at : List ℕ → ℕ → ℕ
count_at counts k = number_value (slice_get (map (unsigned_of 4) counts) k)

eight : (counts : List ℕ) → length counts ≡ 8
    → count_at counts 0 ∷ count_at counts 1 ∷ count_at counts 2 ∷ count_at counts 3 ∷ count_at counts 4 ∷ count_at counts
    5 ∷ count_at counts 6 ∷ count_at counts 7 ∷ [] ≡ counts
eight [] size = absurd (omega arith)
eight (a ∷ []) size = absurd (omega arith)
eight (a ∷ b ∷ []) size = absurd (omega arith)
eight (a ∷ b ∷ c ∷ []) size = absurd (omega arith)
eight (a ∷ b ∷ c ∷ d ∷ []) size = absurd (omega arith)
eight (a ∷ b ∷ c ∷ d ∷ e ∷ []) size = absurd (omega arith)
eight (a ∷ b ∷ c ∷ d ∷ e ∷ f ∷ []) size = absurd (omega arith)
eight (a ∷ b ∷ c ∷ d ∷ e ∷ f ∷ g ∷ []) size = absurd (omega arith)
eight (a ∷ b ∷ c ∷ d ∷ e ∷ f ∷ g ∷ h ∷ []) size = refl
eight (a ∷ b ∷ c ∷ d ∷ e ∷ f ∷ g ∷ h ∷ i ∷ more) size = absurd (omega arith)

pub dssi_value-row : (d : Dssi) → IsRow dssi_forms (dssi_row d) → dssi_value (dssi_row d) ≡ d
dssi_value-row d is =
    let total : length (dssi_row d) ≡ 11 = sym (length-map (dssi_row d) form_of) ∙ ap length is.forms_are in
    let counted = length-map d.counts (unsigned_of 4) in
    let size : length d.counts ≡ 8 = omega (arith, total, counted) in
    ap (λ (cs : List ℕ). record d { counts = cs }) (eight d.counts size)

-- rows of attributes are told apart at each level
pub attribute_rows_told : (level : ℕ) → CanRepeat level (attribute_forms level)
attribute_rows_told level = record { takes = refl; fits = by_level (level == 2) }
  where
    by_level : (wide : Bool) → cond wide (list_all is_even (unsigned 2 ∷ cond wide wide_text text ∷ [])) true ≡ true
    by_level true = refl
    by_level false = refl
