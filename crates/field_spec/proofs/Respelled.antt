-- A row that a field was cut into is the row of the value that was read of it.
use Rattle.std.proofs.Common.{◌≡◌, ℕ, suc, ◌==◌, Bool, true, false, cond, List, [], ◌∷◌, map, slice_get, Option, Some, refl, sym, ap, ◌∙◌}
use Rattle.std.proofs.lemmas.Bool.Decides.{nat_tests}
use Rattle.std.proofs.Common.{arith}
use Rattle.s57_types.specs.Subfield.{Form, Subfield, unsigned, signed, text, wide_text, fixed, b11, b12, unsigned_of, signed_of, text_of, wide_text_of}
use Rattle.s57_types.specs.Subfield.{fixed_of, form_of}
use Rattle.s57_types.specs.FieldRows.{rcnm_of, dsid_forms, dsid_row, dssi_forms, dssi_row, dspm_forms, dspm_row, frid_forms, frid_row, foid_forms, foid_row}
use Rattle.s57_types.specs.FieldRows.{attribute_forms, attribute_row, partner_forms, partner_row, place_forms, place_row, vrid_forms, vrid_row, end_forms}
use Rattle.s57_types.specs.FieldRows.{end_row, plane_forms, plane_row, deep_forms, deep_row, number_forms, number_row}
use Rattle.s57_types.specs.Fitness.{is_vector_kind}
use Rattle.field_spec.specs.Contents.{number_value, signed_value, text_value, number_in, text_in, kind_of_rcnm, is_vector_rcnm, names_a_vector, dsid_value}
use Rattle.field_spec.specs.Contents.{dssi_value, dspm_value, frid_value, lnam_in, attribute_value, partner_value, place_value, vrid_value, end_value}
use Rattle.field_spec.specs.Contents.{plane_value, deep_value}
use Rattle.field_spec.specs.FieldContent.{IsRow}

-- the subfield of a form that has the value of a subfield
abbrev as_form : Form → Option Subfield → Subfield
as_form (unsigned w) s = unsigned_of w (number_value s)
as_form signed s = signed_of (signed_value s)
as_form text s = text_of (text_value s)
as_form wide_text s = wide_text_of (text_value s)
as_form (fixed n) s = fixed_of (text_value s)

-- the row of these forms that has the values of subfields by their places
abbrev retold : List Form → (ℕ → Option Subfield) → List Subfield
retold [] at = []
retold (form ∷ forms) at = as_form form (at 0) ∷ retold forms (λ k. at (suc k))

as_its_form : (s : Subfield) → as_form (form_of s) (Some s) ≡ s
as_its_form (unsigned_of w n) = refl
as_its_form (signed_of z) = refl
as_its_form (text_of t) = refl
as_its_form (wide_text_of t) = refl
as_its_form (fixed_of t) = refl

retold_itself : (row : List Subfield) → retold (map form_of row) (slice_get row) ≡ row
retold_itself [] = refl
retold_itself (s ∷ row) = λ i. as_its_form s i ∷ retold_itself row i

pub row_retold : (forms : List Form) (row : List Subfield) → IsRow forms row → retold forms (slice_get row) ≡ row
row_retold forms row is = ap (λ fs. retold fs (slice_get row)) (sym is.forms_are) ∙ retold_itself row

-- the same where the first number is given
first_given : (n : ℕ) (forms : List Form) (row : List Subfield) → IsRow (b11 ∷ forms) row → number_in row 0 ≡ n
    → unsigned_of 1 n ∷ retold forms (λ k. slice_get row (suc k)) ≡ row
first_given n forms row is given = ap (λ m. unsigned_of 1 m ∷ retold forms (λ k. slice_get row (suc k))) (sym given) ∙ row_retold (b11 ∷ forms) row is

pub number_respelled : (row : List Subfield) → IsRow number_forms row → number_row (number_in row 0) ≡ row
number_respelled row is = row_retold number_forms row is

pub dsid_respelled : (row : List Subfield) → IsRow dsid_forms row → (number_in row 0 == 10) ≡ true → dsid_row (dsid_value row) ≡ row
dsid_respelled row is good = first_given 10 _ row is (grind (arith, nat_tests))

pub dssi_respelled : (row : List Subfield) → IsRow dssi_forms row → dssi_row (dssi_value row) ≡ row
dssi_respelled row is = row_retold dssi_forms row is

pub dspm_respelled : (row : List Subfield) → IsRow dspm_forms row → (number_in row 0 == 20) ≡ true → dspm_row (dspm_value row) ≡ row
dspm_respelled row is good = first_given 20 _ row is (grind (arith, nat_tests))

pub frid_respelled : (row : List Subfield) → IsRow frid_forms row → (number_in row 0 == 100) ≡ true → frid_row (frid_value row) ≡ row
frid_respelled row is good = first_given 100 _ row is (grind (arith, nat_tests))

pub foid_respelled : (row : List Subfield) → IsRow foid_forms row → foid_row (lnam_in row) ≡ row
foid_respelled row is = row_retold foid_forms row is

-- the record name of a vector record is that of its kind
rcnm_of_known : (n : ℕ) → is_vector_rcnm n ≡ true → (n ≡ rcnm_of (kind_of_rcnm n)) × (is_vector_kind (kind_of_rcnm n) ≡ true)
rcnm_of_known n known = isolated (n == 110) refl
  where
    edge : (b : Bool) → (n == 130) ≡ b → (n == 110) ≡ false → (n == 120) ≡ false → (n ≡ rcnm_of (kind_of_rcnm n)) × (is_vector_kind (kind_of_rcnm n) ≡ true)
    edge true is not_isolated not_connected = (rw (not_isolated, not_connected, is) (grind (arith, nat_tests)), rw (not_isolated, not_connected, is) refl)
    edge false is not_isolated not_connected = absurd (let none : is_vector_rcnm n ≡ false = rw (not_isolated, not_connected, is) refl in
        let both : true ≡ false = sym known ∙ none in cc both)

    connected : (b : Bool) → (n == 120) ≡ b → (n == 110) ≡ false → (n ≡ rcnm_of (kind_of_rcnm n)) × (is_vector_kind (kind_of_rcnm n) ≡ true)
    connected true is not_isolated = (rw (not_isolated, is) (grind (arith, nat_tests)), rw (not_isolated, is) refl)
    connected false is not_isolated = edge (n == 130) refl not_isolated is

    isolated : (b : Bool) → (n == 110) ≡ b → (n ≡ rcnm_of (kind_of_rcnm n)) × (is_vector_kind (kind_of_rcnm n) ≡ true)
    isolated true is = (rw is (grind (arith, nat_tests)), rw is refl)
    isolated false is = connected (n == 120) refl is

pub vector_named : (row : List Subfield) → names_a_vector row ≡ true → is_vector_kind (kind_of_rcnm (number_in row 0)) ≡ true
vector_named row good = (rcnm_of_known (number_in row 0) good).1

pub vrid_respelled : (row : List Subfield) → IsRow vrid_forms row → names_a_vector row ≡ true → vrid_row (vrid_value row) ≡ row
vrid_respelled row is good = first_given _ _ row is (rcnm_of_known (number_in row 0) good).0

pub attribute_respelled : (level : ℕ) (row : List Subfield) → IsRow (attribute_forms level) row → attribute_row level (attribute_value row) ≡ row
attribute_respelled level row is = by_level (level == 2) (row_retold (attribute_forms level) row is)
  where
    by_level : (wide : Bool) → retold (b12 ∷ cond wide wide_text text ∷ []) (slice_get row) ≡ row
        → unsigned_of 2 (number_in row 0) ∷ cond wide (wide_text_of (text_in row 1)) (text_of (text_in row 1)) ∷ [] ≡ row
    by_level true told = told
    by_level false told = told

pub partner_respelled : (row : List Subfield) → IsRow partner_forms row → partner_row (partner_value row) ≡ row
partner_respelled row is = row_retold partner_forms row is

pub place_respelled : (row : List Subfield) → IsRow place_forms row → names_a_vector row ≡ true → place_row (place_value row) ≡ row
place_respelled row is good = first_given _ _ row is (rcnm_of_known (number_in row 0) good).0

pub end_respelled : (row : List Subfield) → IsRow end_forms row → names_a_vector row ≡ true → end_row (end_value row) ≡ row
end_respelled row is good = first_given _ _ row is (rcnm_of_known (number_in row 0) good).0

pub plane_respelled : (row : List Subfield) → IsRow plane_forms row → plane_row (plane_value row) ≡ row
plane_respelled row is = row_retold plane_forms row is

pub deep_respelled : (row : List Subfield) → IsRow deep_forms row → deep_row (deep_value row) ≡ row
deep_respelled row is = row_retold deep_forms row is
