-- Which subjects an edited cell has, by the edits, the read sets before them and the touched identifiers.
use Rattle.std.proofs.Common.{◌≡◌, ◌&&◌, Bool, true, false, List, Option, None, Some, cond, is_some, length, refl, sym, ap, ◌∙◌}
use Rattle.std.specs.Prelude.{nat_lt}
use Rattle.std.specs.List.{list_any}
use Rattle.std.proofs.lemmas.Option.{none-some, same_Some}
use Rattle.s57_types.specs.declared.name.RecName.{RecName}
use Rattle.s57_types.specs.declared.name.Lnam.{Lnam}
use Rattle.s57_types.specs.declared.record.Rec.{Rec as Record}
use Rattle.s57_types.specs.declared.cell.Cell.{Cell}
use Rattle.cell_spec.specs.declared.edit.Edit.{Edit}
use Rattle.cell_spec.specs.declared.edit.Edit.TheVariants.{Add, Set, Del, Head}
use Rattle.cell_spec.specs.declared.key.Key.{Key}
use Rattle.cell_spec.specs.declared.key.Key.TheVariants.{Foid}
use Rattle.cell_spec.specs.declared.key.Subject.{Subject}
use Rattle.cell_spec.specs.declared.key.Subject.TheVariants.{Rec, Ident}
use Rattle.cell_spec.specs.Edits.{apply_edits, edit_of, touched_keys}
use Rattle.cell_spec.specs.Lookup.{listed_record}
use Rattle.cell_spec.specs.Names.{identity_order, same_key, subject_order}
use Rattle.rule_spec.specs.Affected.{is_single}
use Rattle.rule_spec.specs.Findings.{is_subject}
use Rattle.rule_spec.specs.Reads.{read_set}
use Rattle.row_spec.specs.Rows.{value_of}
use Rattle.answer_laws.specs.EditedAnswers.{EditedAnswers, UntouchedKeysKeepAnswers}
use Rattle.edit_answers.specs.Named.{EditsLeaveTheirRecords, listed_by}
use Rattle.affected_subjects.specs.EditedCells.{IsEdited, is_borne_after, is_listed_after}

some_by : {X : Type 0} (b : Bool) (x : X) → is_some (cond b (Some x) None) ≡ b
some_by true x = refl
some_by false x = refl

listed_is : (old : Option Record) (o : Option Edit) → is_listed_after (is_some old) o ≡ is_some (listed_by old o)
listed_is old None = refl
listed_is old (Some (Add r)) = refl
listed_is old (Some (Set r)) = refl
listed_is old (Some (Del n)) = refl
listed_is old (Some (Head e)) = refl

module _ (c : Cell) (edits : List Edit) (rows : List (Subject × List Key)) (borne : List (Lnam × Bool)) (known : IsEdited c edits rows borne) where
  -- a record, a side or an identifier has a row where the cell had it
  kept_row : (s : Subject) → is_single s ≡ true → is_some (value_of subject_order rows s) ≡ is_subject c s
  kept_row s single =
      ap is_some (known.reads.exact s) ∙ some_by (is_single s && is_subject c s) (read_set c s) ∙ ap (λ b. b && is_subject c s) single

  -- a record, by the edit of its name
  pub record_is : EditsLeaveTheirRecords → (n : RecName)
      → is_listed_after (is_some (value_of subject_order rows (Rec n))) (edit_of n edits) ≡ is_subject (apply_edits edits c) (Rec n)
  record_is leave n =
      ap (λ was. is_listed_after was (edit_of n edits)) (kept_row (Rec n) refl)
      ∙ listed_is (listed_record c n) (edit_of n edits)
      ∙ ap is_some (sym ((leave edits c known.found).listed n))

  -- ---- identifiers
  module _ (l : Lnam) where
    noted_by : (touched was is : Bool) → Some was ≡ cond touched (Some is) None → was ≡ is
    noted_by true was is e = same_Some was is e
    noted_by false was is e = absurd (none-some was (sym e))

    clear_by : (touched is : Bool) → None ≡ cond touched (Some is) None → touched ≡ false
    clear_by true is e = absurd (none-some is e)
    clear_by false is e = refl

    -- a touched one
    pub noted : EditedAnswers → (is : Bool) → Some is ≡ value_of identity_order borne l → is ≡ is_subject (apply_edits edits c) (Ident l)
    noted answers is e =
        noted_by (list_any (same_key (Foid l)) (touched_keys edits c)) is (is_borne_after edits c l) (e ∙ known.bearers.bearers_are l)
        ∙ ap (λ (names : List RecName). nat_lt 0 (length names)) (sym ((answers edits c known.found).identities l))

    -- another one
    pub kept_ident : UntouchedKeysKeepAnswers → None ≡ value_of identity_order borne l
        → is_some (value_of subject_order rows (Ident l)) ≡ is_subject (apply_edits edits c) (Ident l)
    kept_ident untouched e =
        kept_row (Ident l) refl
        ∙ ap (λ (names : List RecName). nat_lt 0 (length names))
        (untouched edits c known.found (Foid l) (clear_by (list_any (same_key (Foid l)) (touched_keys edits c)) (is_borne_after edits c l)
        (e ∙ known.bearers.bearers_are l)))
