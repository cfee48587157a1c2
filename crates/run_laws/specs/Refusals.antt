-- What a cell's refusal tells of edits. This project's own rules.
use Rattle.std.specs.Prelude.{◌≡◌, ℕ, ◌<◌, ◌≤◌, true, false, List, length, take, slice_get, All, Some}
use Rattle.s57_types.specs.RecordFields.{identification_length}
use Rattle.s57_types.specs.declared.cell.Cell.{Cell}
use Rattle.s57_types.specs.declared.name.RecName.{RecName}
use Rattle.s57_types.specs.declared.record.Rec.{Rec}
use Rattle.cell_spec.specs.Edits.{apply_edits, has_its_record, head_after, leave_a_long_head}
use Rattle.cell_spec.specs.Lookup.{all_records, name_of}
use Rattle.cell_spec.specs.Writable.{record_limit}
use Rattle.cell_spec.specs.declared.edit.Edit.{Edit}
use Rattle.cell_spec.specs.declared.edit.Edit.TheVariants.{Add, Set, Del}
use Rattle.rule_spec.specs.Findings.{finding_total}
use Rattle.history_spec.specs.Steps.{finding_limit}
use Rattle.history_spec.specs.declared.refusal.StateRefusal.{StateRefusal}
use Rattle.history_spec.specs.declared.refusal.StateRefusal.TheVariants.{AddExists, SetMissing, DelMissing, CellFull, FindingsFull, HeadTooLong}

-- each edit finds what it needs: no record of its name where it adds one, else the record
abbrev pub EachFinds : Cell → List Edit → Type 0
EachFinds c edits = All (λ edit. has_its_record c edit ≡ true) edits

-- the first of the edits that doesn't, by its place from 0
pub record IsFirstWithout (c : Cell) (edits : List Edit) (edit : Edit) : Type 0 where
  pub place : ℕ
  pub there : slice_get edits place ≡ Some edit
  pub without : has_its_record c edit ≡ false
  pub before : EachFinds c (take place edits)

-- the first one is an addition, or a replacement, of a name
pub record IsAddedTwice (c : Cell) (edits : List Edit) (name : RecName) : Type 0 where
  pub item : Rec
  pub first : IsFirstWithout c edits (Add item)
  pub named : name_of item ≡ name

pub record IsSetWithout (c : Cell) (edits : List Edit) (name : RecName) : Type 0 where
  pub item : Rec
  pub first : IsFirstWithout c edits (Set item)
  pub named : name_of item ≡ name

-- each finds what it needs, but the edited cell has too many records
pub record IsTooFull (c : Cell) (edits : List Edit) (count : ℕ) : Type 0 where
  pub found : EachFinds c edits
  pub count_is : count ≡ length (all_records (apply_edits edits c))
  pub over : record_limit < count

-- each finds what it needs, and the records of the edited cell are not too many
pub record HaveRoom (c : Cell) (edits : List Edit) : Type 0 where
  pub found : EachFinds c edits
  pub room : length (all_records (apply_edits edits c)) ≤ record_limit

-- but the head that they edit is too long
pub record IsLongHead (c : Cell) (edits : List Edit) (bytes : ℕ) : Type 0 where
  pub room : HaveRoom c edits
  pub long : leave_a_long_head edits c ≡ true
  pub bytes_are : bytes ≡ identification_length (head_after edits c.head)

-- nor is the head that they edit, but the findings of the edited cell are too many
pub record AreTooManyFindings (c : Cell) (edits : List Edit) : Type 0 where
  pub room : HaveRoom c edits
  pub short : leave_a_long_head edits c ≡ false
  pub over : finding_limit < finding_total (apply_edits edits c)

-- nothing of all this
pub record AreTaken (c : Cell) (edits : List Edit) : Type 0 where
  pub room : HaveRoom c edits
  pub short : leave_a_long_head edits c ≡ false
  pub within : finding_total (apply_edits edits c) ≤ finding_limit

abbrev pub ShowsRefusal : Cell → List Edit → StateRefusal → Type 0
ShowsRefusal c edits (AddExists name) = IsAddedTwice c edits name
ShowsRefusal c edits (SetMissing name) = IsSetWithout c edits name
ShowsRefusal c edits (DelMissing name) = IsFirstWithout c edits (Del name)
ShowsRefusal c edits (CellFull count) = IsTooFull c edits count
ShowsRefusal c edits (HeadTooLong bytes) = IsLongHead c edits bytes
ShowsRefusal c edits FindingsFull = AreTooManyFindings c edits
