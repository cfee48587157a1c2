-- The bearers of an identifier after edits.
use Rattle.std.proofs.Common.{◌≡◌, Bool, true, false, ◌||◌, ◌&&◌, List, [], ◌∷◌, ◌++◌, cond, map, filter, refl, sym, ap, ◌∙◌}
use Rattle.std.specs.Prelude.{filter_map}
use Rattle.std.specs.List.{list_any}
use Rattle.std.specs.Ordering.{is_eq}
use Rattle.std.specs.Cmp.{Equal-is}
use Rattle.std.proofs.lemmas.Bool.{and_parts}
use Rattle.std.proofs.lemmas.List.Folds.{list_any-append}
use Rattle.std.proofs.lemmas.Map.Views.{any-filter_same}
use Rattle.s57_types.specs.declared.name.RecName.{RecName}
use Rattle.s57_types.specs.declared.name.Lnam.{Lnam}
use Rattle.s57_types.specs.declared.record.Rec.{Rec}
use Rattle.s57_types.specs.declared.cell.Cell.{Cell}
use Rattle.cell_spec.specs.declared.edit.Edit.{Edit}
use Rattle.cell_spec.specs.Edits.{left_by, apply_edits}
use Rattle.cell_spec.specs.Lookup.{all_records, name_of, bears, lookup_identity}
use Rattle.cell_spec.specs.Names.{name_order}
use Rattle.cell_spec.proofs.Ascending.{holds, holds-ascending, sorted-ascending, same_when_sorted}
use Rattle.cell_spec.proofs.Orders.{total_names, exact_names}
use Rattle.answer_laws.specs.EditedAnswers.{FindTheirRecords, is_unedited, bearers_after}
use Rattle.answer_laws.proofs.EditedRecords.{any_after}
use Rattle.answer_laws.proofs.Tests.{any_when}

-- whether a record bears an identifier under a name
abbrev pub bears_as : RecName → Lnam → Rec → Bool
bears_as q l r = bears l r && is_eq (name_order q (name_of r))

kept_any : (q : RecName) (r : Rec) (b : Bool) (rs : List Rec)
    → holds name_order q (map name_of (cond b (r ∷ rs) rs)) ≡ ((b && is_eq (name_order q (name_of r))) || holds name_order q (map name_of rs))
kept_any q r true rs = refl
kept_any q r false rs = refl

any_named : (q : RecName) (l : Lnam) (rs : List Rec) → holds name_order q (map name_of (filter (bears l) rs)) ≡ list_any (bears_as q l) rs
any_named q l [] = refl
any_named q l (r ∷ rs) = kept_any q r (bears l r) (filter (bears l) rs) ∙ ap (λ b. bears_as q l r || b) (any_named q l rs)

-- a bearer is the record that bears
pub bears_under : (q : RecName) (l : Lnam) (r : Rec) → bears_as q l r ≡ true → q ≡ name_of r
bears_under q l r e = exact_names q (name_of r) ((Equal-is (name_order q (name_of r))).0 (and_parts (bears l r) (is_eq (name_order q (name_of r))) e).1)

-- the bearers of an identifier that a cell answers are its records that bear it
pub held : (c : Cell) (l : Lnam) (q : RecName) → holds name_order q (lookup_identity c l) ≡ list_any (bears_as q l) (all_records c)
held c l q = holds-ascending name_order exact_names q (map name_of (filter (bears l) (all_records c))) ∙ any_named q l (all_records c)

module _ (edits : List Edit) (c : Cell) (fit : FindTheirRecords edits c) (l : Lnam) where
  abbrev left : List Rec
  left = filter_map left_by edits

  abbrev d : Cell
  d = apply_edits edits c

  pub held_after : (q : RecName) → holds name_order q (lookup_identity d l)
      ≡ ((is_unedited edits q && list_any (bears_as q l) (all_records c)) || list_any (bears_as q l) left)
  held_after q =
      held d l q
      ∙ any_after (bears_as q l) edits c fit
      ∙ ap (λ b. b || list_any (bears_as q l) left)
      (any_when (λ r. is_unedited edits (name_of r)) (is_unedited edits q) (bears_as q l)
      (λ r e. ap (is_unedited edits) (sym (bears_under q l r e))) (all_records c))

  held_before : (q : RecName) → holds name_order q (bearers_after edits l (lookup_identity c l))
      ≡ ((is_unedited edits q && list_any (bears_as q l) (all_records c)) || list_any (bears_as q l) left)
  held_before q =
      let tie : RecName → Bool = λ y. is_eq (name_order q y) in
      let free : RecName → Bool = is_unedited edits in
      let kept : list_any tie (filter free (lookup_identity c l)) ≡ (free q && list_any (bears_as q l) (all_records c)) =
      any-filter_same tie free (free q) (λ k e. ap free (sym (exact_names q k ((Equal-is (name_order q k)).0 e)))) (lookup_identity c l)
      ∙ ap (λ b. free q && b) (held c l q) in
      holds-ascending name_order exact_names q (filter free (lookup_identity c l) ++ map name_of (filter (bears l) left))
      ∙ list_any-append tie (filter free (lookup_identity c l)) (map name_of (filter (bears l) left))
      ∙ (λ i. kept i || any_named q l left i)

  pub bearers_are : lookup_identity d l ≡ bearers_after edits l (lookup_identity c l)
  bearers_are =
      same_when_sorted name_order total_names exact_names (lookup_identity d l) (bearers_after edits l (lookup_identity c l))
      (sorted-ascending name_order total_names (map name_of (filter (bears l) (all_records d))))
      (sorted-ascending name_order total_names (filter (is_unedited edits) (lookup_identity c l) ++ map name_of (filter (bears l) left)))
      (λ q. held_after q ∙ sym (held_before q))
