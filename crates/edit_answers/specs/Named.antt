-- What has a name after edits, by the edit of that name. This project's own rules.
use Rattle.std.specs.Prelude.{◌≡◌, List, Option, None, Some}
use Rattle.s57_types.specs.declared.name.RecName.{RecName}
use Rattle.s57_types.specs.declared.record.Rec.{Rec}
use Rattle.s57_types.specs.declared.record.Rec.TheVariants.{H}
use Rattle.s57_types.specs.declared.cell.Cell.{Cell}
use Rattle.s57_types.specs.declared.head.Head.{Head as CellHead}
use Rattle.s57_types.specs.Heads.{edited_head}
use Rattle.cell_spec.specs.declared.edit.Edit.{Edit}
use Rattle.cell_spec.specs.declared.edit.Edit.TheVariants.{Add, Set, Del, Head}
use Rattle.cell_spec.specs.Edits.{apply_edits, edit_of}
use Rattle.cell_spec.specs.Lookup.{listed_record, lookup_record}
use Rattle.answer_laws.specs.EditedAnswers.{FindTheirRecords}

-- the record of a name that the edit of it leaves, where there was this one
abbrev pub listed_by : Option Rec → Option Edit → Option Rec
listed_by old None = old
listed_by old (Some (Add r)) = Some r
listed_by old (Some (Set r)) = Some r
listed_by old (Some (Del n)) = None
listed_by old (Some (Head e)) = old

-- the same, or the head with the values that the edit of it gives
abbrev pub answered_by : CellHead → Option Rec → Option Edit → Option Rec
answered_by h old None = old
answered_by h old (Some (Add r)) = Some r
answered_by h old (Some (Set r)) = Some r
answered_by h old (Some (Del n)) = None
answered_by h old (Some (Head e)) = Some (H (edited_head e h))

-- what an edited cell has under each name
pub record NamesAfter (edits : List Edit) (c : Cell) : Type 0 where
  pub listed : (n : RecName) → listed_record (apply_edits edits c) n ≡ listed_by (listed_record c n) (edit_of n edits)
  pub answered : (n : RecName) → lookup_record (apply_edits edits c) n ≡ answered_by c.head (lookup_record c n) (edit_of n edits)

abbrev pub EditsLeaveTheirRecords : Type 0
EditsLeaveTheirRecords = (edits : List Edit) (c : Cell) → FindTheirRecords edits c → NamesAfter edits c
