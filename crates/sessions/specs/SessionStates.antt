-- What a session is seen as, and how it goes on. This project's own rules.
use mathlib.Core.List.{IsPrefix}
use Rattle.std.specs.Prelude.{◌≡◌, ℕ, ◌≤◌, ◌<◌, false, List, [], ◌∷◌, ◌++◌, All, Option, None, Some, length}
use Rattle.s57_types.specs.declared.cell.Cell.{Cell}
use Rattle.text_spec.specs.declared.command.Command.{Command}
use Rattle.text_spec.specs.declared.command.Command.TheVariants as command
use Rattle.text_spec.specs.ScriptLines.{command_limit, is_shared}
use Rattle.history_spec.specs.declared.entry.Entry.{Entry}
use Rattle.history_spec.specs.EntriesReport.{cell_told}
use Rattle.history_spec.specs.Served.{Draft, IsServed, draft_after, drafted, local_lines}
use Rattle.sessions.specs.declared.session.Shared.{Shared}
use Rattle.sessions.specs.declared.session.Shared.TheVariants as shared
use Rattle.sessions.specs.declared.session.Stop.{Stop}
use Rattle.sessions.specs.declared.session.Stop.TheVariants as stop

-- the script, the commands of it that are done, the draft after them, and their lines
pub record SessionState : Type 0 where
  pub script : List Command
  pub done : List Command
  pub draft : Draft
  pub lines : List ℕ

-- no more is in the draft than was done
pub record IsSession (script : List Command) (next : ℕ) (draft : Draft) : Type 0 where
  pub within : next ≤ length script
  pub few : length script ≤ command_limit
  pub edits : length draft.edits ≤ next
  pub guards : length draft.guards ≤ next

abbrev pub shared_command : Shared → Command
shared_command shared.View = command.View
shared_command shared.Commit = command.Commit

-- behind what is done stands this command
pub record StandsNext (s : SessionState) (c : Command) : Type 0 where
  pub rest : List Command
  pub script_is : s.script ≡ s.done ++ c ∷ rest

-- what stands next in a session's script: a command that all sessions see, or none
abbrev pub IsNext : SessionState → Option Shared → Type 0
IsNext s None = s.done ≡ s.script
IsNext s (Some shared) = StandsNext s (shared_command shared)

-- what was done of a session is served again with the commands that it did since, on the cell after its base
abbrev pub StaysServed : ℕ → Cell → SessionState → SessionState → Type 0
StaysServed base cell old new =
    (c : Cell) (seen entries : List Entry) → IsServed c seen entries base old.done old.draft old.lines
    → ((later : List Entry) → IsPrefix seen later → cell_told c later base ≡ cell) → IsServed c seen entries base new.done new.draft new.lines

-- the lines of commands that no other session sees, on a cell, each beside the draft before it
abbrev pub lines_beside : Cell → ℕ → Draft → List Command → List ℕ
lines_beside cell base draft [] = []
lines_beside cell base draft (command ∷ rest) = local_lines cell base draft command ++ lines_beside cell base (draft_after command draft) rest

-- some commands more are done, none of which another session sees: each once, with the draft and the lines after it
pub record DoesAlone (base : ℕ) (cell : Cell) (old new : SessionState) : Type 0 where
  pub commands : List Command
  pub alone : All (λ command. is_shared command ≡ false) commands
  pub done : new.done ≡ old.done ++ commands
  pub draft : new.draft ≡ drafted old.draft commands
  pub lines : new.lines ≡ old.lines ++ lines_beside cell base old.draft commands

-- more of the script is done
pub record IsFurther (old new : SessionState) : Type 0 where
  pub more : length old.done < length new.done
  pub within : length new.done ≤ length new.script

-- where a session stops: behind a command more, before one that all see, or at the end
abbrev pub Stops : SessionState → SessionState → Stop → Type 0
Stops old new stop.Local = IsFurther old new
Stops old new (stop.Shared shared) = IsNext new (Some shared)
Stops old new stop.End = IsNext new None

-- where it stands then
abbrev pub IsAt : SessionState → Stop → Type 0
IsAt s stop.Local = Unit {0}
IsAt s (stop.Shared shared) = IsNext s (Some shared)
IsAt s stop.End = IsNext s None
