-- Edits one after the other.
use Rattle.std.proofs.Common.{◌≡◌, ℕ, suc, ◌+◌, ◌<◌, List, [], ◌∷◌, ◌++◌, length, take, drop, drop-cons, get_or, refl, sym, ap, subst, ◌∙◌, append_assoc}
use Rattle.std.specs.Prelude.{filter_map}
use Rattle.std.proofs.lemmas.List.{take-append-drop, take_more}
use Rattle.s57_types.specs.declared.record.Rec.{Rec}
use Rattle.s57_types.specs.declared.cell.Cell.{Cell}
use Rattle.cell_spec.specs.declared.edit.Edit.{Edit}
use Rattle.cell_spec.specs.Edits.{apply_edits, edited_record}
use Rattle.answer_laws.specs.EditedAnswers.{FindTheirRecords}
use Rattle.answer_laws.specs.EditedCells.{EditsAddUp}

nothing_edited : (xs : List Rec) → filter_map (edited_record []) xs ++ [] ≡ xs
nothing_edited [] = refl
nothing_edited (x ∷ xs) = ap (λ rest. x ∷ rest) (nothing_edited xs)

-- no edits leave a cell as it is
pub no_edits : (c : Cell) → c ≡ apply_edits [] c
unfolding apply_edits
no_edits c = λ i. record {
  head = c.head;
  vi = sym (nothing_edited c.vi) i;
  vc = sym (nothing_edited c.vc) i;
  ve =
      sym (nothing_edited c.ve) i;
  fe = sym (nothing_edited c.fe) i;
}

module _ (add_up : EditsAddUp) (edits : List Edit) (k : ℕ) (e : Edit) (c : Cell) (lt : k < length edits) (at : e ≡ get_or edits k e)
    (fit : FindTheirRecords edits c) where
  abbrev rest : List Edit
  rest = drop (suc k) edits

  parts : edits ≡ take k edits ++ e ∷ rest
  parts = sym (take-append-drop k edits) ∙ ap (λ back. take k edits ++ back) (drop-cons edits k e lt ∙ ap (λ x. x ∷ rest) (sym at))

  -- the edit at a place finds what it needs after those before it
  pub step_fits : FindTheirRecords (e ∷ []) (apply_edits (take k edits) c)
  step_fits = (add_up (e ∷ []) rest (apply_edits (take k edits) c)
      (add_up (take k edits) (e ∷ rest) c (subst (λ es. FindTheirRecords es c) parts fit)).later).earlier

  -- and makes what the edits up to it make
  pub step_cell : apply_edits (e ∷ []) (apply_edits (take k edits) c) ≡ apply_edits (take (k + 1) edits) c
  step_cell =
      let regrouped : edits ≡ (take k edits ++ e ∷ []) ++ rest = parts ∙ sym (append_assoc (take k edits) (e ∷ []) rest) in
      let both = (add_up (take k edits ++ e ∷ []) rest c (subst (λ es. FindTheirRecords es c) regrouped fit)).earlier in
      let one_more : take (k + 1) edits ≡ take k edits ++ e ∷ [] = take_more edits k e lt ∙ ap (λ x. take k edits ++ x ∷ []) (sym at) in
      sym ((add_up (take k edits) (e ∷ []) c both).cells) ∙ ap (λ es. apply_edits es c) (sym one_more)
