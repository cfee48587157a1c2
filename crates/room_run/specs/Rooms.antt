-- Sessions in threads: before they begin, when they have ended, and what is left of them. This project's own rules.
use mathlib.Core.List.{IsPrefix}
use Rattle.std.specs.Prelude.{◌≡◌, ℕ, suc, ◌<◌, ◌≤◌, List, [], All, length, map, count_by, slice_index_or}
use Rattle.s57_types.specs.declared.cell.Cell.{Cell}
use Rattle.text_spec.specs.declared.command.Command.{Command}
use Rattle.text_spec.specs.ScriptLines.{is_shared}
use Rattle.history_spec.specs.declared.entry.Entry.{Entry}
use Rattle.history_spec.specs.Entries.{AreInterleaved, AreTold}
use Rattle.history_spec.specs.EntriesReport.{AreTranscripts}
use Rattle.history_spec.specs.Sessions.{script_of}
use Rattle.turn_gate.specs.Histories.{IsExact}
use Rattle.commit_book.specs.Books.{BookState}
use Rattle.workroom.specs.Desks.{DeskState, IsSameDesk, RoomId}
use Rattle.workroom.specs.Rooms.{RoomState}
use Rattle.workroom.specs.Turns.{desk_of}
use Rattle.room_run.specs.Compilers.{IsAtDesk, IsOver}
use Rattle.room_run.specs.declared.compiler.Compiler.{Compiler}
use Rattle.room_run.specs.declared.compiler.Ended.TheVariants as ended
use Rattle.room_run.specs.declared.gather.Outcome.{Outcome}
use Rattle.sessions.specs.declared.run.Replayed.{Replayed}
use Rattle.room_run.specs.declared.run.RunEnd.{RunEnd}
use Rattle.room_run.specs.declared.run.RunEnd.TheVariants as end

-- a session that has done nothing, at a desk of a room
pub record IsFresh (room : RoomId) (k : Compiler) : Type 0 where
  pub room_is : k.desk.room ≡ room
  pub at_desk : IsAtDesk k.desk k.session
  pub fresh : k.session.done ≡ []

-- the same, at the desk of a number
pub record IsOpened (room : RoomId) (number : ℕ) (k : Compiler) : Type 0 where
  pub fresh : IsFresh room k
  pub number_is : k.desk.number ≡ number

abbrev pub scripts_of : List Compiler → List (List Command)
scripts_of = map (λ (k : Compiler). k.session.script)

-- one for each script, by number from 1
pub record AreOpened (room : RoomId) (scripts : List (List Command)) (ks : List Compiler) : Type 0 where
  pub scripts_are : scripts_of ks ≡ scripts
  pub each : (i : ℕ) (d : Compiler) → i < length ks → IsOpened room (suc i) (slice_index_or ks i d)

-- a session ran to its end
pub record IsRun (sticks : Type 0) (old new : Compiler) : Type 0 where
  pub same : IsSameDesk old.desk new.desk
  pub script : new.session.script ≡ old.session.script
  pub over : IsOver sticks old.session.script new.desk new.session new.ended

-- a history begins with what a desk has seen, and has exactly its own calls
pub record IsHeldIn (history : List Entry) (d : DeskState) : Type 0 where
  pub begins : IsPrefix d.seen history
  pub exact : All (IsExact desk_of history) d.own

-- a desk took over those of compilers: a history that holds it holds all of them
abbrev pub KeepsDesks : DeskState → List Compiler → DeskState → Type 0
KeepsDesks old ks new = (history : List Entry) → IsHeldIn history new → IsHeldIn history old × All (λ (k : Compiler). IsHeldIn history k.desk) ks

abbrev pub outcome_of : Compiler → Outcome
outcome_of k = record { session = k.session; ended = k.ended }

-- the log behind all desks, and what is left of the sessions
pub record IsGathered (room : RoomState) (ks : List Compiler) (book : BookState) (outcomes : List Outcome) : Type 0 where
  pub opening : book.opening ≡ room.room.opening
  pub told : AreTold book.opening book.entries
  pub numbers : All (λ (e : Entry). (1 ≤ e.desk) × (e.desk ≤ room.desks)) book.entries
  pub held : All (λ (k : Compiler). IsHeldIn book.entries k.desk) ks
  pub outcomes_are : outcomes ≡ map outcome_of ks

-- a session didn't end at a full log
abbrev pub IsNotFull : Outcome → Type 0
IsNotFull outcome = outcome.ended ≡ ended.Full → ⊥

-- all are done, and these are their lines
pub record DoneWith (outcomes : List Outcome) (texts : List (List ℕ)) : Type 0 where
  pub done : All (λ (outcome : Outcome). outcome.ended ≡ ended.Done) outcomes
  pub texts_are : texts ≡ map (λ (outcome : Outcome). outcome.session.lines) outcomes

-- the end of a run where a session was stuck is that session's
abbrev pub IsOneOf : List Outcome → RunEnd → Type 0
IsOneOf outcomes (end.Stuck stuck) = (i : ℕ) × (i < length outcomes) × ((d : Outcome) → (slice_index_or outcomes i d).ended ≡ ended.Stuck stuck)
IsOneOf outcomes end.NoMemory = Unit {0}

-- scripts that were run on a cell: the log's entries are theirs, and so are the lines
pub record IsHeld (c : Cell) (scripts : List (List Command)) (held : Replayed) : Type 0 where
  pub opening : held.book.opening ≡ c
  pub entries : AreInterleaved c scripts held.book.entries
  pub lines : AreTranscripts c held.book.entries 1 scripts held.transcripts.items

-- a run ends without a report only where a rendezvous gave up before a view or commit of a session, or where memory runs out
abbrev pub IsRunEnd : Type 0 → List (List Command) → RunEnd → Type 0
IsRunEnd sticks scripts (end.Stuck stuck) =
    sticks × (1 ≤ stuck.desk) × (stuck.desk ≤ length scripts) × (1 ≤ stuck.serial) × (stuck.serial ≤ count_by is_shared (script_of scripts stuck.desk))
IsRunEnd sticks scripts end.NoMemory = Unit {0}
