-- A row cut in three groups of forms.
use Rattle.std.proofs.Common.{◌≡◌, ℕ, List, ◌++◌, Option, Some, None, refl, ap, sym, ◌∙◌}
use Rattle.std.specs.Option.{option_map, option_and_then}
use Rattle.s57_types.specs.Subfield.{Form, Subfield}
use Rattle.field_spec.specs.Cutting.{cut_row}
use Rattle.field_spec.proofs.CutRows.{with_row, then_cut, cut_row-append}
use Rattle.s57_fields.specs.HeadSubfields.{cut_groups}

third_group : (row : List Subfield) (third : Option (List Subfield × List ℕ)) → option_map (λ z. (row ++ z.0, z.1)) third ≡ with_row row third
third_group row None = refl
third_group row (Some z) = refl

second_group : (names : List Subfield) (third : List Form) (second : Option (List Subfield × List ℕ))
    → option_and_then (λ y. option_map (λ z. (names ++ y.0 ++ z.0, z.1)) (cut_row third y.1)) second ≡ then_cut third (with_row names second)
second_group names third None = refl
second_group names third (Some y) = third_group (names ++ y.0) (cut_row third y.1)

first_group : (second third : List Form) (first : Option (List Subfield × List ℕ))
    → option_and_then (λ x. option_and_then (λ y. option_map (λ z. (x.0 ++ y.0 ++ z.0, z.1)) (cut_row third y.1)) (cut_row second x.1)) first ≡
    then_cut third (then_cut second first)
first_group second third None = refl
first_group second third (Some x) = second_group x.0 third (cut_row second x.1)

-- the groups are the row of all forms
pub cut_groups-row : (first second third : List Form) (b : List ℕ) → cut_groups first second third b ≡ cut_row (first ++ second ++ third) b
cut_groups-row first second third b =
    first_group second third (cut_row first b)
    ∙ ap (then_cut third) (sym (cut_row-append first second b))
    ∙ sym (cut_row-append (first ++ second) third b)

-- the same of what stands before a terminator
pub groups_of_body : {X : Type 0} (first second third : List Form) (f : Option (List Subfield × List ℕ) → Option X) (body : Option (List ℕ))
    → option_and_then (λ b. f (cut_groups first second third b)) body ≡ option_and_then (λ b. f (cut_row (first ++ second ++ third) b)) body
groups_of_body first second third f None = refl
groups_of_body first second third f (Some b) = ap f (cut_groups-row first second third b)
