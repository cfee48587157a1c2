-- What the two rounds and the changes of tiles come to. This project's own rules.
use Rattle.std.specs.Prelude.{◌≡◌, ◌++◌, List, flat_map}
use Rattle.s57_types.specs.declared.name.RecName.{RecName}
use Rattle.s57_types.specs.declared.cell.Cell.{Cell}
use Rattle.cell_spec.specs.declared.edit.Edit.{Edit}
use Rattle.cell_spec.specs.declared.key.Key.{Key}
use Rattle.cell_spec.specs.declared.key.Subject.{Subject}
use Rattle.cell_spec.specs.Edits.{apply_edits, touched_keys}
use Rattle.rule_spec.specs.Affected.{change_by, considered, each_once}
use Rattle.finding_laws.specs.Tables.{Covering, IsCoveringsOf, IsReadsOf}
use Rattle.answer_laws.specs.EditedAnswers.{FindTheirRecords}
use Rattle.tile_index.specs.Changes.{after_changes}
use Rattle.affected_subjects.specs.EditedCells.{changes_to}
use Rattle.affected_subjects.specs.NewPairs.{pairs_found}
use Rattle.affected_subjects.specs.Rounds.{first_of}

-- the changes of the nodes and edges of the first round make of a cell's tiles those of the edited cell
abbrev pub ChangesGiveTheTiles : Type 0
ChangesGiveTheTiles = (edits : List Edit) (c : Cell) (reads : List (Subject × List Key)) (tiles : List (RecName × Covering))
    → FindTheirRecords edits c → IsReadsOf c reads → IsCoveringsOf c tiles
    → IsCoveringsOf (apply_edits edits c) (after_changes tiles (flat_map (changes_to (apply_edits edits c)) (first_of reads (touched_keys edits c))))

-- what the two rounds look at by tables that are right is what is considered, each once at the place where it first comes
abbrev pub RoundsAreConsidered : Type 0
RoundsAreConsidered = (edits : List Edit) (c : Cell) (reads : List (Subject × List Key)) (before after : List (RecName × Covering))
    → IsReadsOf c reads → IsCoveringsOf c before → IsCoveringsOf (apply_edits edits c) after
    → first_of reads (touched_keys edits c) ++ pairs_found before after (first_of reads (touched_keys edits c))
    ≡ each_once (considered (change_by edits c))
