use Rattle.std.proofs.Common.{◌≡◌, ◌++◌, take, drop}
use Rattle.std.specs.Prelude.{sum}
use Rattle.frame_spec.specs.WrittenRecord.{directory_entries}
use Rattle.frame_write.specs.Appending.{KeepsFront}
use Rattle.frame_write.specs.OutFields.{fields_of, lengths_of}
use Rattle.frame_write.proofs.write.push_directory.Given as goal

abbrev pub invariant-loop-field : goal.invariant-loop-field
invariant-loop-field l = record {
  position : l.position ≡ sum (take l.field-index (lengths_of l.fields));
  front : KeepsFront l.initial.out.items l.out.items;
  rest : l.out.items ++ directory_entries l.layout.length_digits l.layout.position_digits l.position (drop l.field-index (fields_of l.fields))
      ≡ l.initial.out.items ++ directory_entries l.layout.length_digits l.layout.position_digits 0 (fields_of l.fields);
}
