-- Fields to write as fields of a record.
use Rattle.std.specs.Prelude.{ℕ, Bool, true, false, List, map}
use Rattle.frame_spec.specs.RecordFrame.{Field}
use Rattle.frame_spec.specs.WrittenRecord.{field_lengths}
use Rattle.frame_write.specs.declared.field.OutField.{OutField}
use Rattle.frame_write.specs.declared.field.LeaderKind.{LeaderKind}
use Rattle.frame_write.specs.declared.field.LeaderKind.TheVariants.{Ddr, Dr}

abbrev pub field_of : OutField → Field
field_of field = record { tag = field.tag; bytes = field.bytes.items }

abbrev pub fields_of : List OutField → List Field
fields_of = map field_of

abbrev pub lengths_of : List OutField → List ℕ
lengths_of fields = field_lengths (fields_of fields)

-- whether the record is the data descriptive record
abbrev pub is_first : LeaderKind → Bool
is_first Ddr = true
is_first Dr = false
