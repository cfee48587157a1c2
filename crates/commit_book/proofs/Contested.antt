-- The least name on which two commits meet.
use Rattle.std.proofs.Common.{◌≡◌, Bool, true, false, ◌&&◌, ◌||◌, List, [], ◌∷◌, ◌++◌, Option, Some, map, filter, cond, refl, sym, ap, ◌∙◌}
use Rattle.std.specs.Prelude.{find}
use Rattle.std.specs.List.{list_any}
use Rattle.std.specs.Ordering.{is_eq}
use Rattle.std.specs.declared.cmp.Ordering.{Ordering}
use Rattle.std.specs.declared.cmp.Ordering.TheVariants.{Less, Equal, Greater}
use Rattle.std.specs.Cmp.{IsTotalOrder}
use Rattle.std.proofs.lemmas.List.Kept.{IsStrictlySortedBy-filter}
use Rattle.std.proofs.lemmas.Map.Lookups.{CmpEqualImpliesEq}
use Rattle.s57_types.specs.declared.name.RecName.{RecName}
use Rattle.cell_spec.specs.Ascending.{ascending}
use Rattle.cell_spec.specs.Edits.{name_of_edit}
use Rattle.cell_spec.specs.Names.{name_order, same_name}
use Rattle.cell_spec.specs.declared.edit.Edit.{Edit}
use Rattle.cell_spec.proofs.Ascending.{holds, holds-ascending, same_when_sorted, sorted-ascending}
use Rattle.cell_spec.proofs.Orders.{exact_names, total_names}
use Rattle.history_spec.specs.Steps.{contested_names, first_of}

first_filtered_by : {X : Type 0} (x : X) (passes : Bool) (rest : List X) (later : Option X) → first_of rest ≡ later
    → first_of (cond passes (x ∷ rest) rest) ≡ cond passes (Some x) later
first_filtered_by x true rest later is = refl
first_filtered_by x false rest later is = is

-- the first that passes a test is the first of those that do
first_filtered : {X : Type 0} (p : X → Bool) (xs : List X) → first_of (filter p xs) ≡ find p xs
first_filtered p [] = refl
first_filtered p (x ∷ xs) = first_filtered_by x (p x) (filter p xs) (find p xs) (first_filtered p xs)

module _ {X : Type 0} (order : X → X → Ordering) (total : IsTotalOrder order) (exact : CmpEqualImpliesEq order) (p : X → Bool) where
  holds_by : (q x : X) (passes : Bool) (rest : List X) (tie : Ordering) (before : Bool) → order q x ≡ tie → p x ≡ passes → holds order q rest ≡ (p q && before)
      → holds order q (cond passes (x ∷ rest) rest) ≡ (p q && (is_eq tie || before))
  holds_by q x true rest Less before is passes h = ap (λ o. is_eq o || holds order q rest) is ∙ h
  holds_by q x true rest Equal before is passes h = ap (λ o. is_eq o || holds order q rest) is ∙ sym (ap (λ b. b && true) (ap p (exact q x is) ∙ passes))
  holds_by q x true rest Greater before is passes h = ap (λ o. is_eq o || holds order q rest) is ∙ h
  holds_by q x false rest Less before is passes h = h
  holds_by q x false rest Equal before is passes h =
      let fails : p q ≡ false = ap p (exact q x is) ∙ passes in
      h ∙ ap (λ b. b && before) fails ∙ sym (ap (λ b. b && true) fails)
  holds_by q x false rest Greater before is passes h = h

  holds_filtered : (q : X) (xs : List X) → holds order q (filter p xs) ≡ (p q && holds order q xs)
  holds_filtered q [] = none (p q)
    where
      none : (b : Bool) → false ≡ (b && false)
      none true = refl
      none false = refl
  holds_filtered q (x ∷ xs) = holds_by q x (p x) (filter p xs) (order q x) (holds order q xs) refl refl (holds_filtered q xs)

  -- what passes a test among the ascending is ascending
  filtered_ascending : (xs : List X) → filter p (ascending order xs) ≡ ascending order (filter p xs)
  filtered_ascending xs =
      same_when_sorted order total exact (filter p (ascending order xs)) (ascending order (filter p xs))
      (IsStrictlySortedBy-filter order p (ascending order xs) (sorted-ascending order total xs))
      (sorted-ascending order total (filter p xs))
      (λ q. holds_filtered q (ascending order xs)
      ∙ ap (λ b. p q && b) (holds-ascending order exact q xs)
      ∙ sym (holds_filtered q xs)
      ∙ sym (holds-ascending order exact q (filter p xs)))

-- the least name that is contested is the first of all names in order that is
pub least_contested : (edits : List Edit) (guards : List RecName) (others : List Edit)
    → find (λ n. list_any (λ other. same_name n (name_of_edit other)) others) (ascending name_order (map name_of_edit edits ++ guards)) ≡
    first_of (ascending name_order (contested_names edits guards others))
least_contested edits guards others =
    let p : RecName → Bool = λ n. list_any (λ other. same_name n (name_of_edit other)) others in
    let names : List RecName = map name_of_edit edits ++ guards in
    sym (first_filtered p (ascending name_order names)) ∙ ap first_of (filtered_ascending name_order total_names exact_names p names)
