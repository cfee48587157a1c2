-- Sessions that ask one log by one thread, in an order. This project's own rules.
use Rattle.std.specs.Prelude.{◌≡◌, ℕ, suc, ◌≤◌, ◌<◌, List, ◌∷◌, [], ◌++◌, length, map, slice_index_or, count_by, Result, Ok, Err}
use Rattle.s57_types.specs.declared.cell.Cell.{Cell}
use Rattle.text_spec.specs.declared.command.Command.{Command}
use Rattle.text_spec.specs.ScriptLines.{command_limit, is_shared}
use Rattle.commit_book.specs.Books.{BookState, IsEntered, history_of}
use Rattle.commit_book.specs.declared.refusal.BookRefusal.{BookRefusal}
use Rattle.commit_book.specs.declared.told.Answered.{Answered}
use Rattle.history_spec.specs.declared.entry.Asked.{Asked}
use Rattle.history_spec.specs.declared.entry.Entry.{Entry}
use Rattle.history_spec.specs.declared.reply.Reply.{Reply}
use Rattle.history_spec.specs.Entries.{AreAsked, AreInterleaved, entries_of, event_asked, order_of_entries, replayed}
use Rattle.history_spec.specs.EntriesReport.{AreTranscripts, IsTranscript, cell_told}
use Rattle.history_spec.specs.Served.{Draft, IsServed}
use Rattle.history_spec.specs.Sessions.{Request, event_of, requests_of, see, offer}
use Rattle.sessions.specs.declared.editor.Editor.{Editor}
use Rattle.sessions.specs.declared.run.Replayed.{Replayed}
use Rattle.sessions.specs.declared.session.Shared.{Shared}
use Rattle.sessions.specs.declared.session.Shared.TheVariants as shared

-- how many sessions may share a cell
abbrev pub session_limit : ℕ
session_limit = 16

-- a script of no more commands than scripts may have
abbrev pub IsShortScript : List Command → Type 0
IsShortScript script = length script ≤ command_limit

-- what a command that all sessions see asks beside a draft
abbrev pub request_of : Shared → Draft → Request
request_of shared.View draft = see
request_of shared.Commit draft = offer draft.edits draft.guards

-- a session's question, with a base and a draft, stands in the log with its answer
pub record IsAskedOf (old : BookState) (number base : ℕ) (draft : Draft) (what : Shared) (new : BookState) (reply : Reply) : Type 0 where
  pub asked : Asked
  pub event : event_asked asked ≡ event_of old.opening.head.nall base (request_of what draft)
  pub entered : IsEntered old number asked new reply

-- the answer of a log
abbrev pub IsReplyOf : Result Answered BookRefusal → Reply → Type 0
IsReplyOf (Ok answered) reply = reply ≡ answered.reply
IsReplyOf (Err why) reply = ⊥

-- an editor beside the entries of the log: what its session did is served, and its copy of the cell is that after its base
pub record IsEditor (c : Cell) (entries : List Entry) (number : ℕ) (e : Editor) : Type 0 where
  pub served : IsServed c entries (entries_of number entries) e.base e.session.done e.session.draft e.session.lines
  pub within : e.base ≤ length (replayed c entries).commits
  pub copy : e.bench ≡ cell_told c entries e.base

-- the base of an editor is one of the log's commits, and its copy of the cell is that after its base
pub record IsBeside (book : BookState) (e : Editor) : Type 0 where
  pub within : e.base ≤ length (history_of book).commits
  pub copy : e.bench ≡ cell_told book.opening book.entries e.base

-- one entry more, of this number, and the editor beside it
pub record IsServedOnce (old : BookState) (number : ℕ) (new : BookState) (e : Editor) : Type 0 where
  pub opening : new.opening ≡ old.opening
  pub entry : Entry
  pub desk : entry.desk ≡ number
  pub entries : new.entries ≡ old.entries ++ entry ∷ []
  pub editor : IsEditor old.opening new.entries number e

-- editors are numbered from 1 on
abbrev pub AreEditors : Cell → List Entry → List Editor → Type 0
AreEditors c entries editors = (i : ℕ) (d : Editor) → i < length editors → IsEditor c entries (suc i) (slice_index_or editors i d)

abbrev pub scripts_of : List Editor → List (List Command)
scripts_of = map (λ (e : Editor). e.session.script)

-- all views and commits of the editors stand in the log
pub record AreEnded (c : Cell) (entries : List Entry) (editors : List Editor) : Type 0 where
  pub each : AreEditors c entries editors
  pub all : (i : ℕ) (d : Editor) → i < length editors → length (entries_of (suc i) entries) ≡ count_by is_shared (slice_index_or editors i d).session.script

-- a session at its end: its entries ask what its script asks, and these are its lines
pub record IsEndedAs (c : Cell) (entries : List Entry) (number : ℕ) (script : List Command) (lines : List ℕ) : Type 0 where
  pub asked : AreAsked c.head.nall 0 (requests_of script) (entries_of number entries)
  pub transcript : IsTranscript c entries number script lines

-- sessions at their ends, by number from 1 on
pub record AreEndedAs (c : Cell) (entries : List Entry) (scripts : List (List Command)) (texts : List (List ℕ)) : Type 0 where
  pub asked : (i : ℕ) → i < length scripts → AreAsked c.head.nall 0 (requests_of (slice_index_or scripts i [])) (entries_of (suc i) entries)
  pub transcripts : AreTranscripts c entries 1 scripts texts

-- the editors of these scripts were served in this order, and no others
pub record AreServed (c : Cell) (scripts : List (List Command)) (order : List ℕ) (book : BookState) (editors : List Editor) : Type 0 where
  pub opening : book.opening ≡ c
  pub order_is : order_of_entries book.entries ≡ order
  pub scripts_are : scripts_of editors ≡ scripts
  pub each : AreEditors c book.entries editors

-- scripts that were run on a cell in an order: the log's entries are theirs, in that order, and so are the lines
pub record IsReplayed (c : Cell) (scripts : List (List Command)) (order : List ℕ) (run : Replayed) : Type 0 where
  pub opening : run.book.opening ≡ c
  pub entries : AreInterleaved c scripts run.book.entries
  pub order_is : order_of_entries run.book.entries ≡ order
  pub lines : AreTranscripts c run.book.entries 1 scripts run.transcripts.items
