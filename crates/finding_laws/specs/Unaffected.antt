-- What edits leave as it is, and what is looked at after them. This project's own rules.
use Rattle.std.specs.List.{list_any}
use Rattle.std.specs.Prelude.{◌≡◌, ◌||◌, true, false, List, filter, IsPermutation}
use Rattle.s57_types.specs.declared.name.RecName.{RecName}
use Rattle.s57_types.specs.declared.cell.Cell.{Cell}
use Rattle.cell_spec.specs.declared.edit.Edit.{Edit}
use Rattle.cell_spec.specs.declared.finding.Row.{Row}
use Rattle.cell_spec.specs.declared.key.Key.{Key}
use Rattle.cell_spec.specs.declared.key.Subject.{Subject}
use Rattle.cell_spec.specs.declared.key.Subject.TheVariants.{Rec}
use Rattle.cell_spec.specs.AnswersAlike.{AnswerAlike}
use Rattle.cell_spec.specs.Edits.{apply_edits}
use Rattle.cell_spec.specs.Names.{same_key, same_subject}
use Rattle.rule_spec.specs.Affected.{affected_list, change_by, considered, exact_row, is_affected, is_single, is_still_valid}
use Rattle.rule_spec.specs.Candidates.{segments_named}
use Rattle.rule_spec.specs.Findings.{findings_of_subject, is_subject, subjects}
use Rattle.rule_spec.specs.Reads.{read_set}
use Rattle.answer_laws.specs.EditedAnswers.{FindTheirRecords}

-- what a cell has as a subject is in the list of its subjects, and what is listed is one
abbrev pub SubjectsAreListed : Type 0
SubjectsAreListed = (c : Cell) (s : Subject) → list_any (same_subject s) (subjects c) ≡ is_subject c s

-- a subject that isn't affected has the same findings before and after
abbrev pub UnaffectedSubjectsKeepFindings : Type 0
UnaffectedSubjectsKeepFindings = (edits : List Edit) (c : Cell) → FindTheirRecords edits c → (s : Subject) → is_affected (change_by edits c) s ≡ false
    → findings_of_subject (apply_edits edits c) s ≡ findings_of_subject c s

-- a record, a side or an identifier of the cell before or after that isn't affected has the same read set before and after
abbrev pub UnaffectedSinglesKeepReads : Type 0
UnaffectedSinglesKeepReads = (edits : List Edit) (c : Cell) → FindTheirRecords edits c → (s : Subject) → is_single s ≡ true
    → (is_subject c s || is_subject (apply_edits edits c) s) ≡ true → is_affected (change_by edits c) s ≡ false
    → read_set (apply_edits edits c) s ≡ read_set c s

-- a record that isn't affected has the same segments before and after
abbrev pub UnaffectedRecordsKeepSegments : Type 0
UnaffectedRecordsKeepSegments = (edits : List Edit) (c : Cell) → FindTheirRecords edits c → (n : RecName) → is_affected (change_by edits c) (Rec n) ≡ false
    → segments_named (apply_edits edits c) n ≡ segments_named c n

-- each affected subject is looked at
abbrev pub AffectedAreConsidered : Type 0
AffectedAreConsidered = (edits : List Edit) (c : Cell) → FindTheirRecords edits c → (s : Subject) → is_affected (change_by edits c) s ≡ true
    → list_any (same_subject s) (considered (change_by edits c)) ≡ true

-- the affected list holds the affected subjects of the edited cell, each once
abbrev pub AffectedListIsSet : Type 0
AffectedListIsSet = (edits : List Edit) (c : Cell) → FindTheirRecords edits c
    → IsPermutation (affected_list (change_by edits c)) (filter (is_affected (change_by edits c)) (subjects (apply_edits edits c)))

-- a row that is exact for edits on a cell, and that holds no invalidated key, is exact for them on a newer cell, where the keys that aren't
-- invalidated have kept their answers and both cells have the records that the edits need
abbrev pub ValidRowsStayExact : Type 0
ValidRowsStayExact = (edits : List Edit) (c d : Cell) → FindTheirRecords edits c → FindTheirRecords edits d → (stale : List Key)
    → ((k : Key) → list_any (same_key k) stale ≡ false → AnswerAlike c d k)
    → (row : Row) → row ≡ exact_row (apply_edits edits c) row.subject → is_still_valid stale row ≡ true → row ≡ exact_row (apply_edits edits d) row.subject
