-- The first data record of an update, and what it makes of the cell's head (S-57 Part 3, 7.3.1 and 8.4.1; which values the head takes over is
-- this project's own).
use Rattle.std.specs.Prelude.{ℕ, ◌+◌, ◌==◌, ◌&&◌, ◌||◌, Bool, false, not, nat_le, nat_lt, nat_eq, List, length, Option, Some, None, Result, Ok, if◌then◌else◌}
use Rattle.std.specs.Cmp.Lexicographic.{pointwise}
use Rattle.std.specs.List.{list_all}
use Rattle.frame_spec.specs.FrameDecision.{is_digit}
use Rattle.frame_spec.specs.RecordFrame.{Field, decimal_value}
use Rattle.s57_types.specs.declared.field.Dsid.{Dsid}
use Rattle.s57_types.specs.declared.field.Dssi.{Dssi}
use Rattle.s57_types.specs.declared.head.Head.{Head}
use Rattle.s57_types.specs.declared.head.HeadEdit.{HeadEdit}
use Rattle.s57_types.specs.declared.head.Level.{Level}
use Rattle.s57_types.specs.declared.head.Level.TheVariants.{Zero, One}
use Rattle.field_spec.specs.Contents.{dsid_content, dssi_content}
use Rattle.file_spec.specs.DecodedCell.{is_general_information}
use Rattle.file_spec.specs.RecordFaults.{◌>>=◌, ◌>>◌, demand}
use Rattle.file_spec.specs.RecordReading.{record_type, required}
use Rattle.file_spec.specs.declared.fault.RecordFault.{RecordFault}
use Rattle.file_spec.specs.declared.fault.RecordFault.TheVariants.{NotBase, HeadOrder}
use Rattle.file_spec.specs.declared.tag.FieldTag.TheVariants as tags
use Rattle.file_spec.specs.declared.tag.RecordType.TheVariants as types
use Rattle.update_spec.specs.UpdateFaults.{of_record}
use Rattle.update_spec.specs.UpdateFields.{checked_fields}
use Rattle.update_spec.specs.declared.fault.UpdateFault.{UpdateFault}
use Rattle.update_spec.specs.declared.fault.UpdateFault.TheVariants.{Record, WrongEdition, WrongUpdate}

-- the number of an update number UPDN, which has from 1 to 9 decimal digits
abbrev pub update_number : List ℕ → Option ℕ
update_number text = if nat_le 1 (length text) && nat_le (length text) 9 && list_all is_digit text then Some (decimal_value text) else None

abbrev pub is_successor : Option ℕ → Option ℕ → Bool
is_successor (Some before) (Some after) = after == before + 1
is_successor (Some before) None = false
is_successor None after = false

-- the update number is the next one behind the cell's
abbrev pub is_next_update : List ℕ → List ℕ → Bool
is_next_update before after = is_successor (update_number before) (update_number after)

-- the record is the data set general information
abbrev pub is_identification : List Field → Result (Unit {0}) RecordFault
is_identification fields = do
  type ← record_type fields
  demand (is_general_information type) HeadOrder
  Ok tt

-- the data set is an update, of the edition and behind the last update of the cell with this head
abbrev pub identification_fault : Head → Dsid → Option UpdateFault
identification_fault h d =
    if not (d.expp == 2) then Some (Record NotBase) else
    (if not (pointwise nat_eq d.edtn h.edtn) then Some WrongEdition else
    (if not (is_next_update h.updn d.updn) then Some WrongUpdate else None))

-- the greater of two lexical levels AALL, which are 0 or 1
abbrev pub greater_level : ℕ → ℕ → Level
greater_level a b = if nat_lt 0 a || nat_lt 0 b then One else Zero

-- the head takes over the update number and the issue date, and the greater level; the update's date of application has no effect
abbrev pub head_update : Head → Dsid → Dssi → HeadEdit
head_update h d s =
    record { edtn = h.edtn; updn = d.updn; uadt = h.uadt; isdt = d.isdt; aall = greater_level h.aall s.aall; comt = h.dsid_comt }

-- the edit of the head, and the level NALL of the update
abbrev pub told_by_values : Head → Dsid → Dssi → Result (HeadEdit × ℕ) UpdateFault
told_by_values h d s = do
  identification_fault h d
  Ok (head_update h d s, s.nall)

-- what the first data record of an update says to the cell with this head
unfoldable pub update_identification : Head → List Field → Result (HeadEdit × ℕ) UpdateFault
update_identification h fields = do
  first ← of_record (is_identification fields)
  good ← checked_fields 0 types.GeneralInformation fields
  s ← of_record (required tags.Dssi dssi_content fields)
  d ← of_record (required tags.Dsid dsid_content fields)
  told_by_values h d s
