use Rattle.std.proofs.Common.{◌≡◌, ◌++◌, take}
use Rattle.frame_spec.specs.WrittenRecord.{field_area}
use Rattle.frame_write.specs.OutFields.{fields_of}
use Rattle.frame_write.proofs.write.push_field_area.Given as goal

abbrev pub invariant-loop-field : goal.invariant-loop-field
invariant-loop-field l = l.out.items ≡ l.initial.out.items ++ field_area (fields_of (take l.field-index l.fields))
