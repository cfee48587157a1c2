-- A session alone over the commits of a journal: what it is answered, what it leaves, and its text. This project's own rules.
use mathlib.Core.List.{IsPrefix}
use Rattle.std.specs.Prelude.{ℕ, List, [], ◌∷◌, ◌++◌, length, map, codes}
use Rattle.std.specs.Fmt.{decimal}
use Rattle.s57_types.specs.declared.cell.Cell.{Cell}
use Rattle.text_spec.specs.CellText.{cell_text}
use Rattle.text_spec.specs.Lines.{line}
use Rattle.text_spec.specs.declared.command.Command.{Command}
use Rattle.history_spec.specs.declared.reply.Reply.{Reply}
use Rattle.history_spec.specs.ReportText.{transcript_from}
use Rattle.history_spec.specs.Served.{Draft, no_draft}
use Rattle.history_spec.specs.Sessions.{Request, history_after, replies_from, requests_from}
use Rattle.history_spec.specs.Steps.{AcceptedCommit, History, cell_after}
use Rattle.book_journal.specs.Journals.{IsJournalOf, state_after}

-- what commands ask behind a draft, each asked by desk 1
abbrev pub requests_behind : Draft → List Command → List (ℕ × Request)
requests_behind draft commands = map (λ (request : Request). (1, request)) (requests_from draft.edits draft.guards commands)

-- what they are answered
abbrev pub replies_behind : History → Draft → List Command → List Reply
replies_behind h draft commands = map (λ (told : ℕ × Reply). told.1) (replies_from h (requests_behind draft commands))

-- the state that they leave
abbrev pub left_behind : History → Draft → List Command → History
left_behind h draft commands = history_after h (requests_behind draft commands)

-- a script on the cell after the commits of a journal, with these as the accepted commits and the newest of them as the base
unfoldable pub kept_replies : Cell → List AcceptedCommit → List Command → List Reply
kept_replies c commits script = replies_behind (state_after c commits) no_draft script

unfoldable pub kept_history : Cell → List AcceptedCommit → List Command → History
kept_history c commits script = left_behind (state_after c commits) no_draft script

-- the cell after so many of the commits that are accepted at its end
abbrev pub kept_at : Cell → List AcceptedCommit → List Command → ℕ → Cell
kept_at c commits script n = cell_after n (kept_history c commits script).commits c

abbrev pub kept_lines : Cell → List AcceptedCommit → List Command → List ℕ
kept_lines c commits script = transcript_from (kept_at c commits script) (length commits) 0 script (kept_replies c commits script)

-- the text: how many commits the journal had, the lines of the session, and the cell that is left
abbrev pub text_of : ℕ → List ℕ → Cell → List ℕ
text_of count lines d = line (codes "kept") (decimal count ∷ []) ++ line (codes "session") (decimal 1 ∷ []) ++ lines ++ cell_text d

abbrev pub kept_text : Cell → List AcceptedCommit → List Command → List ℕ
kept_text c commits script = text_of (length commits) (kept_lines c commits script) (kept_history c commits script).cell

-- a file is the journal of the commits and of the first of those that the script has accepted
pub record IsKeptTo (c : Cell) (commits : List AcceptedCommit) (script : List Command) (file : List ℕ) : Type 0 where
  pub kept : List AcceptedCommit
  pub behind : IsPrefix commits kept
  pub among : IsPrefix kept (kept_history c commits script).commits
  pub journal : IsJournalOf c file kept
