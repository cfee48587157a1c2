-- What edits make of a cell as a whole. This project's own rules.
use Rattle.std.specs.Prelude.{◌≡◌, ◌+◌, ◌≤◌, true, false, Bool, List, ◌++◌, None, length, count_by}
use Rattle.s57_types.specs.declared.name.RecName.{RecName}
use Rattle.s57_types.specs.declared.cell.Cell.{Cell}
use Rattle.cell_spec.specs.declared.edit.Edit.{Edit}
use Rattle.cell_spec.specs.declared.edit.Edit.TheVariants.{Add, Set, Del, Head}
use Rattle.cell_spec.specs.Edits.{apply_edits, find_their_records, is_applicable}
use Rattle.cell_spec.specs.Lookup.{all_records}
use Rattle.cell_spec.specs.Readable.{IsReadable}
use Rattle.cell_spec.specs.Writable.{IsWritable, record_limit}
use Rattle.edit_sets.specs.FormFault.{form_fault, IsFormed}
use Rattle.answer_laws.specs.EditedAnswers.{FindTheirRecords}

-- the edits of an edit set at the level of a readable cell, each of which has its record there, find their records
abbrev pub FormedEditsFindTheirRecords : Type 0
FormedEditsFindTheirRecords = (c : Cell) (edits : List Edit) (guards : List RecName) → IsReadable c → IsFormed c.head.nall edits guards
    → find_their_records edits c ≡ true → FindTheirRecords edits c

-- edits that follow each other are those of both lists at once, and each list finds its records where its turn is
pub record AddUp (xs ys : List Edit) (c : Cell) : Type 0 where
  pub earlier : FindTheirRecords xs c
  pub later : FindTheirRecords ys (apply_edits xs c)
  pub cells : apply_edits (xs ++ ys) c ≡ apply_edits ys (apply_edits xs c)

abbrev pub EditsAddUp : Type 0
EditsAddUp = (xs ys : List Edit) (c : Cell) → FindTheirRecords (xs ++ ys) c → AddUp xs ys c

abbrev pub is_addition : Edit → Bool
is_addition (Add r) = true
is_addition (Set r) = false
is_addition (Del n) = false
is_addition (Head e) = false

abbrev pub is_deletion : Edit → Bool
is_deletion (Add r) = false
is_deletion (Set r) = false
is_deletion (Del n) = true
is_deletion (Head e) = false

-- how many records the edited cell has: one more for each addition, one less for each deletion
abbrev pub CountsAfter : Type 0
CountsAfter = (edits : List Edit) (c : Cell) → FindTheirRecords edits c
    → length (all_records (apply_edits edits c)) + count_by is_deletion edits ≡ length (all_records c) + count_by is_addition edits

-- a readable cell that isn't over the limit of records is readable after the edits of an edit set at its level that find their records
abbrev pub EditedCellsAreReadable : Type 0
EditedCellsAreReadable = (c : Cell) (edits : List Edit) (guards : List RecName) → IsReadable c → length (all_records c) ≤ record_limit
    → IsFormed c.head.nall edits guards → find_their_records edits c ≡ true → IsReadable (apply_edits edits c)

-- edits that are an edit set with some guards at the level of a writable cell, and that the cell takes, leave a writable cell
abbrev pub EditsKeepWritable : Type 0
EditsKeepWritable = (c : Cell) (edits : List Edit) (guards : List RecName) → IsWritable c → form_fault c.head.nall edits guards ≡ None
    → is_applicable edits c ≡ true → IsWritable (apply_edits edits c)
