-- Rows cut in parts.
use Rattle.std.proofs.Common.{◌≡◌, ℕ, List, [], ◌∷◌, ◌++◌, Option, Some, None, refl, ap, ◌∙◌}
use Rattle.std.specs.Option.{option_map, option_and_then}
use Rattle.s57_types.specs.Subfield.{Form, Subfield}
use Rattle.field_spec.specs.Cutting.{front, cut_row}

-- a row with others in front
abbrev pub with_row : List Subfield → Option (List Subfield × List ℕ) → Option (List Subfield × List ℕ)
with_row row None = None
with_row row (Some y) = Some (row ++ y.0, y.1)

-- behind a row the row of more forms
abbrev pub then_cut : List Form → Option (List Subfield × List ℕ) → Option (List Subfield × List ℕ)
then_cut gs None = None
then_cut gs (Some x) = with_row x.0 (cut_row gs x.1)

-- behind a subfield the row of more forms
abbrev pub then_row : List Form → Option (Subfield × List ℕ) → Option (List Subfield × List ℕ)
then_row fs None = None
then_row fs (Some x) = with_row (x.0 ∷ []) (cut_row fs x.1)

with_row-nil : (cut : Option (List Subfield × List ℕ)) → cut ≡ with_row [] cut
with_row-nil None = refl
with_row-nil (Some y) = refl

with_row-with_row : (x : Subfield) (row : List Subfield) (cut : Option (List Subfield × List ℕ)) → with_row (x ∷ []) (with_row row cut) ≡ with_row (x ∷ row) cut
with_row-with_row x row None = refl
with_row-with_row x row (Some y) = refl

cut_row-cons : (f : Form) (fs : List Form) (b : List ℕ) → cut_row (f ∷ fs) b ≡ then_row fs (front f b)
cut_row-cons f fs b = taken (front f b)
  where
    mapped : (x : Subfield) (cut : Option (List Subfield × List ℕ)) → option_map (λ y. (x ∷ y.0, y.1)) cut ≡ with_row (x ∷ []) cut
    mapped x None = refl
    mapped x (Some y) = refl

    taken : (t : Option (Subfield × List ℕ)) → option_and_then (λ x. option_map (λ y. (x.0 ∷ y.0, y.1)) (cut_row fs x.1)) t ≡ then_row fs t
    taken None = refl
    taken (Some x) = mapped x.0 (cut_row fs x.1)

later : (x : Subfield) (gs : List Form) (cut : Option (List Subfield × List ℕ)) → with_row (x ∷ []) (then_cut gs cut) ≡ then_cut gs (with_row (x ∷ []) cut)
later x gs None = refl
later x gs (Some z) = with_row-with_row x z.0 (cut_row gs z.1)

after : (fs gs : List Form) → ((b : List ℕ) → cut_row (fs ++ gs) b ≡ then_cut gs (cut_row fs b)) → (taken : Option (Subfield × List ℕ))
    → then_row (fs ++ gs) taken ≡ then_cut gs (then_row fs taken)
after fs gs rest None = refl
after fs gs rest (Some x) = ap (with_row (x.0 ∷ [])) (rest x.1) ∙ later x.0 gs (cut_row fs x.1)

-- the forms of a row in two parts
pub cut_row-append : (fs gs : List Form) (b : List ℕ) → cut_row (fs ++ gs) b ≡ then_cut gs (cut_row fs b)
cut_row-append [] gs b = with_row-nil (cut_row gs b)
cut_row-append (f ∷ fs) gs b = rw (cut_row-cons f (fs ++ gs) b, cut_row-cons f fs b) (after fs gs (λ c. cut_row-append fs gs c) (front f b))
