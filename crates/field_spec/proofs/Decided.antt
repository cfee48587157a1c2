-- A field is read as a value exactly where its bytes spell the value.
use Rattle.std.proofs.Common.{◌≡◌, ◌↔◌, ℕ, ◌<◌, Bool, true, false, not, cond, List, [], ◌∷◌, map, Option, Some, None, Ok, Err, All, refl, sym, ap, ◌∙◌, subst}
use Rattle.std.specs.List.{list_all, AllByRecursion}
use Rattle.std.specs.Result.{result_map_both}
use Rattle.s57_types.specs.Subfield.{Form, Subfield, is_plain}
use Rattle.field_spec.specs.Contents.{judged, judged_row, row_as, rows_as}
use Rattle.field_spec.specs.Cutting.{field_row, field_rows}
use Rattle.field_spec.specs.FieldContent.{IsRow}
use Rattle.field_spec.specs.FieldFit.{CanRepeat, IsFit}
use Rattle.field_spec.specs.Spelling.{SpellsRow, SpellsRows}
use Rattle.field_spec.specs.declared.fault.FieldFault.TheVariants.{BadField, BadText}
use Rattle.field_spec.proofs.FieldsBack.{field_is_decided_lem, rows_are_decided_lem}
use Rattle.field_spec.proofs.Written.{HasValue, HaveValues, row_spelled, rows_spelled, both_parts}

-- a row that passes the test of its field, and whose value is this
record IsValued {X : Type 0} (value : List Subfield → X) (good : List Subfield → Bool) (row : List Subfield) (x : X) : Type 0 where
  is_good : good row ≡ true
  plain : list_all is_plain row ≡ true
  value_is : value row ≡ x

row_judged : {X : Type 0} (value : List Subfield → X) (good : List Subfield → Bool) (cut : Option (List Subfield)) (x : X)
    → result_map_both value (λ e. e) (judged_row good cut) ≡ Ok x
    → (row : List Subfield) × (cut ≡ Some row) × IsValued value good row x
row_judged value good None x is = absurd cc
row_judged {X} value good (Some row) x is = by (good row) (list_all is_plain row) refl refl is
  where
    by : (g p : Bool) → good row ≡ g → list_all is_plain row ≡ p
        → result_map_both value (λ e. e) (cond (not g) (Err BadField) (cond (not p) (Err BadText) (Ok row))) ≡ Ok x
        → (found : List Subfield) × (Some row ≡ Some found) × IsValued value good found x
    by true true g p is = (row, refl, record { is_good = g; plain = p; value_is = cc })
    by true false g p is = absurd cc
    by false p g q is = absurd cc

record AreValued {X : Type 0} (value : List Subfield → X) (good : List Subfield → Bool) (rows : List (List Subfield)) (xs : List X) : Type 0 where
  are_good : list_all good rows ≡ true
  plain : list_all (list_all is_plain) rows ≡ true
  values_are : map value rows ≡ xs

rows_judged : {X : Type 0} (value : List Subfield → X) (good : List Subfield → Bool) (cut : Option (List (List Subfield))) (xs : List X)
    → result_map_both (map value) (λ e. e) (judged good cut) ≡ Ok xs
    → (rows : List (List Subfield)) × (cut ≡ Some rows) × AreValued value good rows xs
rows_judged value good None xs is = absurd cc
rows_judged {X} value good (Some rows) xs is = by (list_all good rows) (list_all (list_all is_plain) rows) refl refl is
  where
    by : (g p : Bool) → list_all good rows ≡ g → list_all (list_all is_plain) rows ≡ p
        → result_map_both (map value) (λ e. e) (cond (not g) (Err BadField) (cond (not p) (Err BadText) (Ok rows))) ≡ Ok xs
        → (found : List (List Subfield)) × (Some rows ≡ Some found) × AreValued value good found xs
    by true true g p is = (rows, refl, record { are_good = g; plain = p; values_are = cc })
    by true false g p is = absurd cc
    by false p g q is = absurd cc

-- a field's rows tell their values, which pass a test, and each value that passes it has its row
pub record Tells {X : Type 0} (row : X → List Subfield) (value : List Subfield → X) (forms : List Form) (good : List Subfield → Bool)
    (Passes : X → Type 0) : Type 0 where
  pub respelled : (cut : List Subfield) → IsRow forms cut → good cut ≡ true → row (value cut) ≡ cut
  pub passes : (cut : List Subfield) → good cut ≡ true → Passes (value cut)
  pub valued : (x : X) → IsFit forms (row x) → Passes x → HasValue value forms good (row x) x

module _ {X : Type 0} (row : X → List Subfield) (value : List Subfield → X) (forms : List Form) (good : List Subfield → Bool)
    (Passes : X → Type 0) (tells : Tells row value forms good Passes) where
  pub row_decided : (b : List ℕ) (x : X) → All (λ c. c < 256) b → (row_as value forms good b ≡ Ok x ↔ (SpellsRow forms (row x) b × Passes x))
  row_decided b x bytes = (
    read,
    λ spelled. row_spelled value forms good (row x) x b
        (tells.valued x (record { is_row = spelled.0.is_field.is_row; has_plain_texts = spelled.0.has_plain_texts }) spelled.1) spelled.0.is_field,
  )
    where
      read : row_as value forms good b ≡ Ok x → SpellsRow forms (row x) b × Passes x
      read is =
          let found = row_judged value good (field_row forms b) x is in
          let cut = found.0 in
          let field = (field_is_decided_lem forms b cut bytes).1 found.1 in
          let same : row x ≡ cut = ap row (sym found.2.value_is) ∙ tells.respelled cut field.is_row found.2.is_good in (
            subst (λ (r : List Subfield). SpellsRow forms r b) (sym same) (record { is_field = field; has_plain_texts = found.2.plain }),
            subst Passes found.2.value_is (tells.passes cut found.2.is_good),
          )

  rows_respelled : (rows : List (List Subfield)) → AllByRecursion (IsRow forms) rows → list_all good rows ≡ true
      → (map row (map value rows) ≡ rows) × AllByRecursion Passes (map value rows)
  rows_respelled [] are all = (refl, tt)
  rows_respelled (cut ∷ rows) are all =
      let parts = both_parts (good cut) (list_all good rows) all in
      let later = rows_respelled rows are.1 parts.1 in
      ((λ i. tells.respelled cut are.0 parts.0 i ∷ later.0 i), (tells.passes cut parts.0, later.1))

  have_values_of : (xs : List X) → AllByRecursion (IsRow forms) (map row xs) → list_all (list_all is_plain) (map row xs) ≡ true
      → AllByRecursion Passes xs → HaveValues value forms good row xs
  have_values_of [] are plain pass = tt
  have_values_of (x ∷ xs) are plain pass =
      let parts = both_parts (list_all is_plain (row x)) (list_all (list_all is_plain) (map row xs)) plain in
      (tells.valued x (record { is_row = are.0; has_plain_texts = parts.0 }) pass.0, have_values_of xs are.1 parts.1 pass.1)

  pub rows_decided : (level : ℕ) → CanRepeat level forms → (b : List ℕ) (xs : List X) → All (λ c. c < 256) b
      → (rows_as value level forms good b ≡ Ok xs ↔ (SpellsRows level forms (map row xs) b × AllByRecursion Passes xs))
  rows_decided level can b xs bytes = (
    read,
    λ spelled. rows_spelled value level forms good row xs b can
        (have_values_of xs spelled.0.is_field.each spelled.0.has_plain_texts spelled.1) spelled.0.is_field,
  )
    where
      read : rows_as value level forms good b ≡ Ok xs → SpellsRows level forms (map row xs) b × AllByRecursion Passes xs
      read is =
          let found = rows_judged value good (field_rows level forms b) xs is in
          let rows = found.0 in
          let field = (rows_are_decided_lem level forms b rows can.takes can.fits bytes).1 found.1 in
          let told = rows_respelled rows field.each found.2.are_good in
          let same : map row xs ≡ rows = ap (map row) (sym found.2.values_are) ∙ told.0 in (
            subst (λ (rs : List (List Subfield)). SpellsRows level forms rs b) (sym same) (record { is_field = field; has_plain_texts = found.2.plain }),
            subst (AllByRecursion Passes) found.2.values_are told.1,
          )

-- any value passes
abbrev pub Any : {X : Type 0} → X → Type 0
Any x = Unit {0}

pub any_of : {X : Type 0} (xs : List X) → AllByRecursion Any xs
any_of [] = tt
any_of (x ∷ xs) = (tt, any_of xs)

-- a field of one row, and a field of rows, whose values need pass no test
pub row_told : {X : Type 0} (row : X → List Subfield) (value : List Subfield → X) (forms : List Form) (good : List Subfield → Bool)
    → ((cut : List Subfield) → IsRow forms cut → good cut ≡ true → row (value cut) ≡ cut)
    → ((x : X) → IsFit forms (row x) → HasValue value forms good (row x) x) → (b : List ℕ) (x : X) → All (λ c. c < 256) b
    → (row_as value forms good b ≡ Ok x ↔ SpellsRow forms (row x) b)
row_told row value forms good respelled valued b x bytes =
    let decided = row_decided row value forms good Any (record {
      respelled = respelled;
      passes = λ cut good. tt;
      valued =
          λ x is any. valued x is;
    }) b x bytes in
    ((λ is. (decided.0 is).0), (λ spelled. decided.1 (spelled, tt)))

pub rows_told : {X : Type 0} (row : X → List Subfield) (value : List Subfield → X) (level : ℕ) (forms : List Form) (good : List Subfield → Bool)
    → CanRepeat level forms
    → ((cut : List Subfield) → IsRow forms cut → good cut ≡ true → row (value cut) ≡ cut)
    → ((x : X) → IsFit forms (row x) → HasValue value forms good (row x) x)
    → (b : List ℕ) (xs : List X) → All (λ c. c < 256) b → (rows_as value level forms good b ≡ Ok xs ↔ SpellsRows level forms (map row xs) b)
rows_told row value level forms good can respelled valued b xs bytes =
    let decided = rows_decided row value forms good Any (record {
      respelled = respelled;
      passes = λ cut good. tt;
      valued =
          λ x is any. valued x is;
    }) level can b xs bytes in
    ((λ is. (decided.0 is).0), (λ spelled. decided.1 (spelled, any_of xs)))
