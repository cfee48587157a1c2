-- What no edit is about, and what edits leave.
use Rattle.std.proofs.Common.{◌≡◌, ℕ, Bool, true, false, ◌||◌, List, [], ◌∷◌, ◌++◌, Option, None, Some, cond, find, is_some, map, refl, sym, ap, ◌∙◌}
use Rattle.std.specs.Prelude.{filter_map, not}
use Rattle.std.specs.List.{All, AllByRecursion, list_any}
use Rattle.std.specs.Borrow.{Bor}
use Rattle.std.specs.Cmp.{IsTotalOrder}
use Rattle.std.specs.Ordering.{is_eq}
use Rattle.std.specs.declared.cmp.Ordering.{Ordering}
use Rattle.std.proofs.lemmas.List.Elements.{All-from_recursion, recursion_from_All}
use Rattle.std.proofs.lemmas.List.Folds.{list_any-append}
use Rattle.std.proofs.lemmas.Map.Lookups.{CmpEqualImpliesEq}
use Rattle.s57_types.specs.Fitness.{unfitness}
use Rattle.s57_types.specs.declared.record.Rec.{Rec}
use Rattle.cell_spec.specs.declared.edit.Edit.{Edit}
use Rattle.cell_spec.specs.declared.edit.Edit.TheVariants.{Add, Set, Del, Head}
use Rattle.cell_spec.specs.Ascending.{ascending}
use Rattle.cell_spec.specs.Edits.{edit_of, left_by, name_of_edit}
use Rattle.cell_spec.specs.Names.{same_name}
use Rattle.s57_types.specs.declared.name.RecName.{RecName}
use Rattle.answer_laws.specs.EditedAnswers.{is_unedited}
use Rattle.std.specs.Option.{option_copied}
use Rattle.cell_spec.proofs.Ascending.{holds, holds-ascending, sorted-ascending, same_when_sorted}
use Rattle.edit_sets.specs.FormFault.{unfitness_of_edit}
use Rattle.chain_topo.specs.Listed.{HasFewPointers}
use Rattle.chain_topo.proofs.PointerCounts.{all_have_few_pointers}

found_by : {X : Type 0} (b : Bool) (x : X) (o : Option X) (rest : Bool) → is_some o ≡ rest → is_some (cond b (Some x) o) ≡ (b || rest)
found_by true x o rest e = refl
found_by false x o rest e = e

-- something is found where something passes
pub some_found : {X : Type 0} (p : X → Bool) (xs : List X) → is_some (find p xs) ≡ list_any p xs
some_found p [] = refl
some_found p (x ∷ xs) = found_by (p x) x (find p xs) (list_any p xs) (some_found p xs)

copied_by : (o : Option (Bor Edit)) → is_some (option_copied o) ≡ is_some o
copied_by None = refl
copied_by (Some e) = refl

flipped : (b x : Bool) → x ≡ not b → b ≡ not x
flipped true x e = ap not (sym e)
flipped false x e = ap not (sym e)

-- no edit is about a name where none is found
pub unedited_when : (b : Bool) (o : Option (Bor Edit)) (edits : List Edit) (n : RecName) → is_some o ≡ not b → option_copied o ≡ edit_of n edits
    → b ≡ is_unedited edits n
unedited_when b o edits n none is =
    flipped b (is_some o) none
    ∙ ap not (sym (copied_by o) ∙ ap is_some is ∙ some_found (λ edit. same_name (name_of_edit edit) n) edits)

module _ {X : Type 0} (order : X → X → Ordering) (total : IsTotalOrder order) (exact : CmpEqualImpliesEq order) where
  -- items that stand in order already are put among others as any
  pub ascending_again : (xs ys : List X) → ascending order (xs ++ ascending order ys) ≡ ascending order (xs ++ ys)
  ascending_again xs ys =
      same_when_sorted order total exact (ascending order (xs ++ ascending order ys)) (ascending order (xs ++ ys))
      (sorted-ascending order total (xs ++ ascending order ys)) (sorted-ascending order total (xs ++ ys))
      (λ q. holds-ascending order exact q (xs ++ ascending order ys)
      ∙ list_any-append (λ y. is_eq (order q y)) xs (ascending order ys)
      ∙ ap (λ rest. holds order q xs || rest) (holds-ascending order exact q ys)
      ∙ sym (list_any-append (λ y. is_eq (order q y)) xs ys)
      ∙ sym (holds-ascending order exact q (xs ++ ys)))

left_fit : (nall : ℕ) (edits : List Edit) → AllByRecursion (λ edit. unfitness_of_edit nall edit ≡ None) edits
    → AllByRecursion (λ r. unfitness nall r ≡ None) (filter_map left_by edits)
left_fit nall [] all = tt
left_fit nall (Add r ∷ edits) all = (all.0, left_fit nall edits all.1)
left_fit nall (Set r ∷ edits) all = (all.0, left_fit nall edits all.1)
left_fit nall (Del n ∷ edits) all = left_fit nall edits all.1
left_fit nall (Head e ∷ edits) all = left_fit nall edits all.1

-- what edits leave has few pointers where it can be written
pub left_have_few_pointers : (nall : ℕ) (edits : List Edit) (held : List (Bor Rec)) → map (λ (r : Bor Rec). r.now) held ≡ filter_map left_by edits
    → All (λ edit. unfitness_of_edit nall edit ≡ None) edits → All (λ (r : Bor Rec). HasFewPointers r.now) held
left_have_few_pointers nall edits held same fit =
    all_have_few_pointers nall (filter_map left_by edits) held same
    (All-from_recursion (λ r. unfitness nall r ≡ None) (filter_map left_by edits)
    (left_fit nall edits (recursion_from_All (λ edit. unfitness_of_edit nall edit ≡ None) edits fit)))
