-- An accepted commit as bytes of a journal. This project's own format.
use Rattle.std.specs.Prelude.{ℕ, ◌<◌, ◌^◌, List, ◌∷◌, ◌++◌, length, All}
use Rattle.std.specs.Int.{w32, to_le_bytes}
use Rattle.std.specs.List.{flat_map}
use Rattle.cell_spec.specs.declared.edit.Edit.{Edit}
use Rattle.text_spec.specs.EditLine.{edit_line}
use Rattle.text_spec.specs.ScriptLines.{IsCommand}
use Rattle.text_spec.specs.declared.command.Command.TheVariants.{Push}
use Rattle.history_spec.specs.Steps.{AcceptedCommit}

-- a number in four bytes, the least significant first
unfoldable pub four_bytes : ℕ → List ℕ
four_bytes n = to_le_bytes w32 n

-- the text of edits: their lines
abbrev pub edit_lines : List Edit → List ℕ
edit_lines = flat_map edit_line

-- each edit has a line that is read as that edit
abbrev pub HaveLines : List Edit → Type 0
HaveLines = All (λ (edit : Edit). IsCommand (Push edit))

-- what stands behind the mark of an entry: the desk, the length of the text, and the text
abbrev pub entry_part : ℕ → List ℕ → List ℕ
entry_part desk text = four_bytes desk ++ four_bytes (length text) ++ text

-- an entry: the mark 01, and what stands behind it
abbrev pub marked : ℕ → List ℕ → List ℕ
marked desk text = 1 ∷ entry_part desk text

abbrev pub entry_bytes : AcceptedCommit → List ℕ
entry_bytes accepted = marked accepted.desk (edit_lines accepted.edits)

-- entries one after the other
abbrev pub list_bytes : List AcceptedCommit → List ℕ
list_bytes = flat_map entry_bytes

-- a commit that an entry can hold: its desk and the length of its text fit four bytes, and its edits have lines
pub record HasEntry (accepted : AcceptedCommit) : Type 0 where
  pub desk : accepted.desk < 2 ^ 32
  pub text : length (edit_lines accepted.edits) < 2 ^ 32
  pub lines : HaveLines accepted.edits

-- the longest text that a journal takes
abbrev pub text_limit : ℕ
text_limit = 16777216
