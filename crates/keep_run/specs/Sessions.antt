-- How a session over a journal goes on, command by command. This project's own rules.
use mathlib.Core.List.{IsPrefix}
use Rattle.std.specs.Prelude.{◌≡◌, ◌⊎◌, ℕ, ◌+◌, ◌≤◌, List, ◌++◌, length, All}
use Rattle.std.specs.List.{flat_map}
use Rattle.s57_types.specs.declared.cell.Cell.{Cell}
use Rattle.text_spec.specs.ScriptLines.{IsCommand, command_limit, command_line}
use Rattle.text_spec.specs.declared.command.Command.{Command}
use Rattle.text_spec.specs.declared.command.Command.TheVariants.{View, Commit}
use Rattle.history_spec.specs.declared.entry.Asked.{Asked}
use Rattle.history_spec.specs.declared.reply.Reply.{Reply}
use Rattle.history_spec.specs.Entries.{event_asked}
use Rattle.history_spec.specs.ReportText.{reply_line, transcript_from}
use Rattle.history_spec.specs.Served.{Draft, draft_after, local_lines, no_draft}
use Rattle.history_spec.specs.Sessions.{event_of, offer}
use Rattle.history_spec.specs.Steps.{AcceptedCommit, Event, History, answer, left_after, view}
use Rattle.commit_book.specs.Books.{BookState, IsEntered as IsEnteredBy, entry_limit, history_of}
use Rattle.book_journal.specs.Entries.{HaveLines, edit_lines}
use Rattle.book_journal.specs.Journals.{IsJournalOf}
use Rattle.book_journal.specs.declared.journal.Journal.{Journal}
use Rattle.call_files.specs.Inputs.{script_limit}
use Rattle.keep_run.specs.Runs.{kept_at, kept_history, kept_lines, left_behind, replies_behind}
use Rattle.keep_run.specs.declared.session.Session.{Session}

abbrev pub draft_of : Session → Draft
draft_of s = record { edits = s.edits.items; guards = s.guards.items }

-- an event of desk 1 stands in a book with its answer
pub record IsEntered (old : BookState) (event : Event) (new : BookState) (reply : Reply) : Type 0 where
  pub asked : Asked
  pub event_is : event_asked asked ≡ event
  pub entered : IsEnteredBy old 1 asked new reply

-- the disk of a journal isn't asked
pub record IsUnasked {D : Type 0} (old new : Journal D) : Type 0 where
  pub same_reference : new.disk.ghost_name ≡ old.disk.ghost_name
  pub disk : new.disk.now ≡ old.disk.now
  pub broken : new.broken ≡ old.broken

-- what a session's commit asks, on the newest commit
abbrev pub offered : BookState → Session → Event
offered book s = event_of (history_of book).cell.head.nall (length (history_of book).commits) (offer s.edits.items s.guards.items)

-- the accepted commits once a book has answered an event of desk 1
abbrev pub commits_left : BookState → Event → List AcceptedCommit
commits_left book event = (left_after 1 event (answer (history_of book) event) (history_of book)).commits

-- a file has the commits from before an event, or those after it
abbrev pub IsAround : BookState → Event → List ℕ → Type 0
IsAround book event file = IsJournalOf book.opening file (history_of book).commits ⊎ IsJournalOf book.opening file (commits_left book event)

-- a view or a commit was answered
pub record IsAnswered (old : BookState) (s : Session) (event : Event) (draft : Draft) (new : BookState) (t : Session) : Type 0 where
  pub reply : Reply
  pub entered : IsEntered old event new reply
  pub draft_is : draft_of t ≡ draft
  pub lines_are : t.transcript ≡ s.transcript ++ reply_line reply

-- another command was done, on the newest cell
pub record IsDoneAlone (old : BookState) (s : Session) (command : Command) (new : BookState) (t : Session) : Type 0 where
  pub same : new ≡ old
  pub draft_is : draft_of t ≡ draft_after command (draft_of s)
  pub lines_are : t.transcript ≡ s.transcript ++ local_lines (history_of old).cell (length (history_of old).commits) (draft_of s) command

-- a command was done
abbrev pub IsDone : BookState → Session → Command → BookState → Session → Type 0
IsDone old s View new t = IsAnswered old s view (draft_of s) new t
IsDone old s Commit new t = IsAnswered old s (offered old s) no_draft new t
IsDone old s other new t = IsDoneAlone old s other new t

-- what a command asks of the book; one that asks nothing leaves what a view leaves
abbrev pub event_by : BookState → Session → Command → Event
event_by book s Commit = offered book s
event_by book s other = view

-- a draft and the commands behind it are those of a script: their lines are no longer than it is, and there are no more of them
pub record IsFit (draft : Draft) (rest : List Command) : Type 0 where
  pub lines : HaveLines draft.edits
  pub commands : All IsCommand rest
  pub short : length (edit_lines draft.edits) + length (flat_map command_line rest) ≤ script_limit
  pub few : length draft.edits + length rest ≤ command_limit
  pub few_guards : length draft.guards + length rest ≤ command_limit

-- a script is done up to its rest, over the commits of a journal: what is left of it leaves what all of it leaves, and its lines end those of all of it
pub record IsRunTo (c : Cell) (commits : List AcceptedCommit) (script rest : List Command) (book : BookState) (draft : Draft) (lines : List ℕ) : Type 0 where
  pub opening : book.opening ≡ c
  pub begun : IsPrefix commits (history_of book).commits
  pub room : length book.entries + length rest ≤ entry_limit
  pub fit : IsFit draft rest
  -- the state of the steps, which has another account of bases than the book has
  pub at : History
  pub cell_is : at.cell ≡ (history_of book).cell
  pub commits_are : at.commits ≡ (history_of book).commits
  pub base_is : at.bases 1 ≡ length at.commits
  pub left_is : left_behind at draft rest ≡ kept_history c commits script
  pub lines_are : kept_lines c commits script
      ≡ lines ++ transcript_from (kept_at c commits script) (length at.commits) (length draft.edits) rest (replies_behind at draft rest)

-- all of it is done
pub record IsRun (c : Cell) (commits : List AcceptedCommit) (script : List Command) (book : BookState) (lines : List ℕ) : Type 0 where
  pub opening : book.opening ≡ c
  pub cell_is : (history_of book).cell ≡ (kept_history c commits script).cell
  pub commits_are : (history_of book).commits ≡ (kept_history c commits script).commits
  pub lines_are : lines ≡ kept_lines c commits script
