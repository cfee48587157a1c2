-- What a call does once its input is read. This project's own.
use Rattle.std.specs.Prelude.{ℕ, List, Option, string_bytes}
use Rattle.std.specs.Option.{option_map}
use Rattle.call_files.specs.declared.work.Export.{Export}
use Rattle.call_files.specs.declared.work.Work.{Work}

-- the text that is put, and the file that is made then: its name and its bytes
pub record Task : Type 0 where
  pub text : List ℕ
  pub file : Option (List ℕ × List ℕ)

abbrev pub file_of : Export → List ℕ × List ℕ
file_of export = (string_bytes export.name, export.bytes.items)

abbrev pub task_of : Work → Task
task_of work = record { text = work.text.items; file = option_map file_of work.export }
