-- What the rounds over an edited cell come to, from what each step says of what it was handed.
use Rattle.std.proofs.Common.{◌≡◌, ◌++◌, List, filter, subst, sym, ◌∙◌}
use Rattle.std.specs.Prelude.{flat_map, not}
use Rattle.s57_types.specs.declared.name.RecName.{RecName}
use Rattle.s57_types.specs.declared.cell.Cell.{Cell}
use Rattle.cell_spec.specs.declared.edit.Edit.{Edit}
use Rattle.cell_spec.specs.declared.key.Key.{Key}
use Rattle.cell_spec.specs.declared.key.Subject.{Subject}
use Rattle.cell_spec.specs.Edits.{apply_edits, touched_keys}
use Rattle.rule_spec.specs.Affected.{affected_list, change_by, considered, each_once}
use Rattle.rule_spec.specs.Findings.{is_subject}
use Rattle.finding_laws.specs.Tables.{Covering, IsCoveringsOf, IsReadsOf}
use Rattle.answer_laws.specs.EditedAnswers.{FindTheirRecords}
use Rattle.tile_index.specs.Changes.{after_changes}
use Rattle.affected_subjects.specs.EditedCells.{changes_to}
use Rattle.affected_subjects.specs.Laws.{ChangesGiveTheTiles, RoundsAreConsidered}
use Rattle.affected_subjects.specs.NewPairs.{pairs_found}
use Rattle.affected_subjects.specs.Reached.{gone_list}
use Rattle.affected_subjects.specs.Rounds.{first_of}

module _ (edits : List Edit) (c d : Cell) (edited : d ≡ apply_edits edits c) (keys : List Key) (touched : keys ≡ touched_keys edits c)
    (reads : List (Subject × List Key)) (tiles after : List (RecName × Covering)) (are : IsReadsOf c reads) (covers : IsCoveringsOf c tiles)
    (planned : after ≡ after_changes tiles (flat_map (changes_to d) (first_of reads keys))) where
  pub tiles_are : ChangesGiveTheTiles → FindTheirRecords edits c → IsCoveringsOf (apply_edits edits c) after
  tiles_are changes found =
      subst (IsCoveringsOf (apply_edits edits c))
      (sym (planned ∙ (λ i. after_changes tiles (flat_map (changes_to (edited i)) (first_of reads (touched i))))))
      (changes edits c reads tiles found are covers)

  pub list_is : ChangesGiveTheTiles → RoundsAreConsidered → FindTheirRecords edits c → (list : List Subject)
      → list ≡ first_of reads keys ++ pairs_found tiles after (first_of reads keys) → list ≡ each_once (considered (change_by edits c))
  list_is changes rounds found list looked_at =
      looked_at
      ∙ (λ i. first_of reads (touched i) ++ pairs_found tiles after (first_of reads (touched i)))
      ∙ rounds edits c reads tiles after are covers (tiles_are changes found)

-- what is looked at is put apart by what the edited cell has
module _ (edits : List Edit) (c d : Cell) (edited : d ≡ apply_edits edits c) (list : List Subject)
    (is_considered : list ≡ each_once (considered (change_by edits c))) where
  pub judged_is : (judged : List Subject) → judged ≡ filter (is_subject d) list → judged ≡ affected_list (change_by edits c)
  unfolding affected_list
  judged_is judged is = is ∙ (λ i. filter (is_subject (edited i)) (is_considered i))

  pub gone_is : (gone : List Subject) → gone ≡ filter (λ s. not (is_subject d s)) list → gone ≡ gone_list (change_by edits c)
  gone_is gone is = is ∙ (λ i. filter (λ s. not (is_subject (edited i) s)) (is_considered i))
