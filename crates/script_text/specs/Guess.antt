-- The words of a command's line. This project's own.
use Rattle.std.specs.Prelude.{◌≡◌, ℕ, Bool, true, nat_le, List, [], ◌∷◌, ◌++◌, codes, Option, Some, IfSome}
use Rattle.std.specs.Fmt.{decimal}
use Rattle.cell_spec.specs.declared.edit.Edit.TheVariants.{Add, Set, Del, Head}
use Rattle.text_spec.specs.Lines.{spaced_words}
use Rattle.text_spec.specs.CellText.{name_words}
use Rattle.text_spec.specs.EditLine.{record_words, head_words, has_line, guard_has_line}
use Rattle.text_spec.specs.ScriptLines.{IsCommand, command_line, shown_limit}
use Rattle.text_spec.specs.declared.command.Command.{Command}
use Rattle.text_spec.specs.declared.command.Command.TheVariants.{View, Commit, Drop, List as Findings, Push, Guard}

abbrev pub first_word : Command → List ℕ
first_word View = codes "view"
first_word Commit = codes "commit"
first_word Drop = codes "drop"
first_word (Findings shown) = codes "list"
first_word (Push (Add r)) = codes "add"
first_word (Push (Set r)) = codes "set"
first_word (Push (Del n)) = codes "del"
first_word (Push (Head e)) = codes "set"
first_word (Guard n) = codes "guard"

abbrev pub other_words : Command → List (List ℕ)
other_words View = []
other_words Commit = []
other_words Drop = []
other_words (Findings shown) = decimal shown ∷ []
other_words (Push (Add r)) = record_words r
other_words (Push (Set r)) = record_words r
other_words (Push (Del n)) = name_words n
other_words (Push (Head e)) = codes "head" ∷ head_words e
other_words (Guard n) = name_words n

-- the line of a command without its line feed
abbrev pub command_text : Command → List ℕ
command_text c = first_word c ++ spaced_words (other_words c)

-- a command has a line where it shows no more findings than it may, and its edit or guard has one
abbrev pub can_stand : Command → Bool
can_stand View = true
can_stand Commit = true
can_stand Drop = true
can_stand (Findings shown) = nat_le shown shown_limit
can_stand (Push edit) = has_line edit
can_stand (Guard n) = guard_has_line n

-- the command may stand in a script, and the bytes are its line
abbrev pub HasLine : List ℕ → Command → Type 0
HasLine line c = (can_stand c ≡ true) × (command_line c ≡ line)

-- the command whose line the bytes are, if there is one
pub record IsReadOf (line : List ℕ) (read : Option Command) : Type 0 where
  pub spelled : IfSome read (λ c. IsCommand c × (command_line c ≡ line))
  pub found : (c : Command) → IsCommand c → command_line c ≡ line → read ≡ Some c
