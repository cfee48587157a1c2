-- Texts of edits, read as edit sets. This project's own.
use Rattle.std.specs.Prelude.{◌≡◌, ℕ, ◌≤◌, List, [], length, Option, None, Some, IfSome, IsSomeAnd}
use Rattle.cell_spec.specs.declared.edit.Edit.{Edit}
use Rattle.edit_sets.specs.FormFault.{GuardedEdits, form_fault}
use Rattle.text_spec.specs.ScriptLines.{IsScript, command_limit}
use Rattle.text_spec.specs.declared.command.Command.{Command}
use Rattle.book_journal.specs.Entries.{HaveLines, edit_lines}

-- a text is the lines of edits, no other line among them, and these are an edit set of a level without a fault of form
pub record AreEditsOf (level : ℕ) (text : List ℕ) (edits : List Edit) : Type 0 where
  pub lines : HaveLines edits
  pub form : form_fault level edits [] ≡ None
  pub text_is : text ≡ edit_lines edits

-- the set of such edits, without guards
pub record IsSetOfText (level : ℕ) (text : List ℕ) (set : GuardedEdits) : Type 0 where
  pub edits : AreEditsOf level text set.edits
  pub guards : set.guards ≡ []
  pub level_is : set.nall ≡ level

-- the edit set that a text is, if it is one
pub record IsSetRead (level : ℕ) (text : List ℕ) (read : Option GuardedEdits) : Type 0 where
  pub spelled : IfSome read (IsSetOfText level text)
  pub found : (edits : List Edit) → AreEditsOf level text edits → IsSomeAnd read (λ (set : GuardedEdits). set.edits ≡ edits)

-- the script that a text is, if it is one
pub record IsScriptRead (text : List ℕ) (read : Option (List Command)) : Type 0 where
  pub is : IfSome read (IsScript text)
  pub found : (commands : List Command) → IsScript text commands → read ≡ Some commands

-- a text is the lines of edits that a script has room for
pub record AreLinesOf (text : List ℕ) (edits : List Edit) : Type 0 where
  pub lines : HaveLines edits
  pub text_is : text ≡ edit_lines edits
  pub few : length edits ≤ command_limit

-- the edits whose lines a text is, if it is such lines
pub record AreEditsRead (text : List ℕ) (read : Option (List Edit)) : Type 0 where
  pub are : IfSome read (AreLinesOf text)
  pub found : (edits : List Edit) → AreLinesOf text edits → read ≡ Some edits
