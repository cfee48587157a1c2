-- Rows that are all cut first and judged then are the rows that are judged one by one.
use Rattle.std.proofs.Common.{◌≡◌, ℕ, zero, suc, ◌&&◌, Bool, true, false, not, cond, List, [], ◌∷◌, length, map, Option, Some, None, Ok, Err, refl, ap, ◌∙◌}
use Rattle.std.specs.Option.{option_map, option_and_then}
use Rattle.std.specs.List.{list_all}
use Rattle.std.specs.Result.{result_map_both}
use Rattle.s57_types.specs.Subfield.{Subfield, is_plain}
use Rattle.field_spec.specs.Cutting.{cut_row, cut_rows, body_at_level}
use Rattle.field_spec.specs.Contents.{judged}
use Rattle.field_spec.specs.declared.fault.FieldFault.TheVariants.{BadField, BadText}
use Rattle.s57_fields.specs.RowCutting.{with_front, rows_after, rows_from, content_of_rows, field_content}
use Rattle.s57_fields.specs.RowLayouts.{RowLayout}

-- the values of rows and whether their texts are plain
abbrev summary : {X : Type 0} → RowLayout X → Option (List (List Subfield)) → Option (List X × Bool)
summary layout None = None
summary layout (Some rows) = cond (list_all layout.good rows) (Some (map layout.value rows, list_all (list_all is_plain) rows)) None

summary_content : {X : Type 0} (layout : RowLayout X) (rows : Option (List (List Subfield)))
    → result_map_both (map layout.value) (λ e. e) (judged layout.good rows) ≡ content_of_rows (summary layout rows)
summary_content layout None = refl
summary_content layout (Some rows) = by_tests (list_all layout.good rows) (list_all (list_all is_plain) rows)
  where
    by_tests : (g p : Bool)
        → result_map_both (map layout.value) (λ e. e) (cond (not g) (Err BadField) (cond (not p) (Err BadText) (Ok rows))) ≡ content_of_rows
        (cond g (Some (map layout.value rows, p)) None)
    by_tests true true = refl
    by_tests true false = refl
    by_tests false p = refl

one_more : {X : Type 0} (g h : Bool) (x : X) (xs : List X) (p q : Bool)
    → cond (g && h) (Some (x ∷ xs, p && q)) None ≡ cond g (with_front (x ∷ []) p (cond h (Some (xs, q)) None)) None
one_more true true x xs p q = refl
one_more true false x xs p q = refl
one_more false h x xs p q = refl

summary-rows_from : {X : Type 0} (layout : RowLayout X) (n : ℕ) (b : List ℕ)
    → summary layout (cut_rows n layout.forms b) ≡ rows_from layout n b
unfolding rows_from
summary-rows_from layout n [] = refl
summary-rows_from layout zero (c ∷ b) = refl
summary-rows_from layout (suc n) (c ∷ b) = taken layout n (λ rest. summary-rows_from layout n rest) (cut_row layout.forms (c ∷ b))
  where
    choose : {X : Type 0} (g : Bool) (x : X) (p : Bool) (rest : List ℕ) (others : List ℕ → Option (List X × Bool))
        → cond g (with_front (x ∷ []) p (others rest)) None ≡ rows_after others (cond g (Some (x, p, rest)) None)
    choose true x p rest others = refl
    choose false x p rest others = refl

    failed : {X : Type 0} (g : Bool) (x : X) (p : Bool) → None ≡ cond g (with_front (x ∷ []) p None) None
    failed true x p = refl
    failed false x p = refl

    joined : {X : Type 0} (layout : RowLayout X) (row : List Subfield) (rows : Option (List (List Subfield)))
        → summary layout (option_map (λ others. row ∷ others) rows) ≡ cond (layout.good row)
        (with_front (layout.value row ∷ []) (list_all is_plain row) (summary layout rows)) None
    joined layout row None = failed (layout.good row) (layout.value row) (list_all is_plain row)
    joined layout row (Some rows) = one_more (layout.good row) (list_all layout.good rows) (layout.value row) (map layout.value rows) (list_all is_plain row)
        (list_all (list_all is_plain) rows)

    taken : {X : Type 0} (layout : RowLayout X) (n : ℕ)
        → ((rest : List ℕ) → summary layout (cut_rows n layout.forms rest) ≡ rows_from layout n rest)
        → (t : Option (List Subfield × List ℕ))
        → summary layout (option_and_then (λ x. option_map (λ rows. x.0 ∷ rows) (cut_rows n layout.forms x.1)) t)
        ≡ rows_after (rows_from layout n) (option_and_then (λ x. cond (layout.good x.0) (Some (layout.value x.0, list_all is_plain x.0, x.1)) None) t)
    taken layout n others None = refl
    taken layout n others (Some x) =
        joined layout x.0 (cut_rows n layout.forms x.1)
        ∙ ap (λ r. cond (layout.good x.0) (with_front (layout.value x.0 ∷ []) (list_all is_plain x.0) r) None) (others x.1)
        ∙ choose (layout.good x.0) (layout.value x.0) (list_all is_plain x.0) x.1 (rows_from layout n)

-- a field of rows, by its bytes before the terminator
pub field_content-body : {X : Type 0} (layout : RowLayout X) (level : ℕ) (bytes body : List ℕ) → body_at_level level bytes ≡ Some body
    → field_content layout level bytes ≡ content_of_rows (rows_from layout (length body) body)
field_content-body layout level bytes body is =
    ap (λ b. result_map_both (map layout.value) (λ e. e) (judged layout.good (option_and_then (λ c. cut_rows (length c) layout.forms c) b))) is
    ∙ summary_content layout (cut_rows (length body) layout.forms body)
    ∙ ap content_of_rows (summary-rows_from layout (length body) body)
