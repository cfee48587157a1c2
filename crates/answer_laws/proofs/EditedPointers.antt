-- The pointers to a name after edits.
use Rattle.std.proofs.Common.{◌≡◌, ℕ, Bool, true, false, ◌||◌, ◌&&◌, List, [], ◌∷◌, ◌++◌, map, filter, refl, sym, ap, ◌∙◌}
use Rattle.std.specs.Prelude.{filter_map, flat_map}
use Rattle.std.specs.List.{list_any, enumerate_from}
use Rattle.std.specs.Ordering.{is_eq}
use Rattle.std.specs.Cmp.{Equal-is}
use Rattle.std.proofs.lemmas.List.Folds.{list_any-append}
use Rattle.std.proofs.lemmas.Map.Views.{any-filter_same}
use Rattle.s57_types.specs.declared.name.RecName.{RecName}
use Rattle.s57_types.specs.declared.record.Rec.{Rec}
use Rattle.s57_types.specs.declared.cell.Cell.{Cell}
use Rattle.cell_spec.specs.declared.edit.Edit.{Edit}
use Rattle.cell_spec.specs.declared.key.Ref.{Ref}
use Rattle.cell_spec.specs.Edits.{left_by, apply_edits}
use Rattle.cell_spec.specs.Lookup.{all_records, name_of, targets_of, pointers_in, lookup_pointers}
use Rattle.cell_spec.specs.Names.{ref_order, same_name}
use Rattle.cell_spec.proofs.Ascending.{holds, holds-ascending, sorted-ascending, same_when_sorted}
use Rattle.cell_spec.proofs.Orders.{total_refs, exact_refs}
use Rattle.answer_laws.specs.EditedAnswers.{FindTheirRecords, is_unedited, pointers_after}
use Rattle.answer_laws.proofs.EditedRecords.{any_after}
use Rattle.answer_laws.proofs.Tests.{any_flat, any_when}

-- whether a record has a pointer to a name
abbrev pub points : Ref → RecName → Rec → Bool
points q n r = holds ref_order q (pointers_in n r)

-- the pointer at a place of a record
abbrev pub pointer_at : RecName → ℕ × RecName → Ref
pointer_at from p = record { from = from; place = p.0 }

from_by : (q : Ref) (from : RecName) (p : ℕ × RecName) (more b : Bool) → is_eq (ref_order q (pointer_at from p)) ≡ b → (b || more) ≡ true
    → (more ≡ true → q.from ≡ from) → q.from ≡ from
from_by q from p more true is e later = ap (λ (r : Ref). r.from) (exact_refs q (pointer_at from p) ((Equal-is (ref_order q (pointer_at from p))).0 is))
from_by q from p more false is e later = later e

from_mapped : (q : Ref) (from : RecName) (ps : List (ℕ × RecName)) → holds ref_order q (map (pointer_at from) ps) ≡ true → q.from ≡ from
from_mapped q from [] e = cc
from_mapped q from (p ∷ ps) e =
    from_by q from p (holds ref_order q (map (pointer_at from) ps)) (is_eq (ref_order q (pointer_at from p))) refl e (from_mapped q from ps)

-- a pointer is of the record that has it
pub points_from : (q : Ref) (n : RecName) (r : Rec) → points q n r ≡ true → q.from ≡ name_of r
points_from q n r e = from_mapped q (name_of r) (filter (λ (p : ℕ × RecName). same_name n p.1) (enumerate_from 1 (targets_of r))) e

-- the pointers to a name that a cell answers are those of its records
pub held : (c : Cell) (n : RecName) (q : Ref) → holds ref_order q (lookup_pointers c n) ≡ list_any (points q n) (all_records c)
held c n q =
    holds-ascending ref_order exact_refs q (flat_map (pointers_in n) (all_records c)) ∙ any_flat (λ y. is_eq (ref_order q y)) (pointers_in n) (all_records c)

module _ (edits : List Edit) (c : Cell) (fit : FindTheirRecords edits c) (n : RecName) where
  abbrev d : Cell
  d = apply_edits edits c

  abbrev left : List Rec
  left = filter_map left_by edits

  -- what the edited cell's pointers hold
  pub held_after : (q : Ref) → holds ref_order q (lookup_pointers d n)
      ≡ ((is_unedited edits q.from && list_any (points q n) (all_records c)) || list_any (points q n) left)
  held_after q =
      held d n q
      ∙ any_after (points q n) edits c fit
      ∙ ap (λ b. b || list_any (points q n) left)
      (any_when (λ r. is_unedited edits (name_of r)) (is_unedited edits q.from) (points q n)
      (λ r e. ap (is_unedited edits) (sym (points_from q n r e))) (all_records c))

  held_before : (q : Ref) → holds ref_order q (pointers_after edits n (lookup_pointers c n))
      ≡ ((is_unedited edits q.from && list_any (points q n) (all_records c)) || list_any (points q n) left)
  held_before q =
      let tie : Ref → Bool = λ y. is_eq (ref_order q y) in
      let free : Ref → Bool = λ r. is_unedited edits r.from in
      let kept : list_any tie (filter free (lookup_pointers c n)) ≡ (free q && list_any (points q n) (all_records c)) =
      any-filter_same tie free (free q) (λ k e. ap free (sym (exact_refs q k ((Equal-is (ref_order q k)).0 e)))) (lookup_pointers c n)
      ∙ ap (λ b. free q && b) (held c n q) in
      holds-ascending ref_order exact_refs q (filter free (lookup_pointers c n) ++ flat_map (pointers_in n) left)
      ∙ list_any-append tie (filter free (lookup_pointers c n)) (flat_map (pointers_in n) left)
      ∙ (λ i. kept i || any_flat tie (pointers_in n) left i)

  pub pointers_are : lookup_pointers d n ≡ pointers_after edits n (lookup_pointers c n)
  pointers_are =
      same_when_sorted ref_order total_refs exact_refs (lookup_pointers d n) (pointers_after edits n (lookup_pointers c n))
      (sorted-ascending ref_order total_refs (flat_map (pointers_in n) (all_records d)))
      (sorted-ascending ref_order total_refs (filter (λ (r : Ref). is_unedited edits r.from) (lookup_pointers c n) ++ flat_map (pointers_in n) left))
      (λ q. held_after q ∙ sym (held_before q))
