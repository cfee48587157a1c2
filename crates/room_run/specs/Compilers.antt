-- A session at its desk. This project's own rules.
use Rattle.std.specs.Prelude.{◌≡◌, ℕ, ◌+◌, ◌≤◌, List, [], ◌∷◌, length, count_by}
use Rattle.text_spec.specs.declared.command.Command.{Command}
use Rattle.text_spec.specs.ScriptLines.{is_shared}
use Rattle.history_spec.specs.declared.entry.Asked.{Asked}
use Rattle.history_spec.specs.declared.entry.Entry.{Entry}
use Rattle.history_spec.specs.declared.reply.Reply.{Reply}
use Rattle.history_spec.specs.Entries.{base_told, brief_of, event_asked}
use Rattle.history_spec.specs.Served.{IsServed}
use Rattle.history_spec.specs.Sessions.{event_of}
use Rattle.turn_gate.specs.declared.view.OwnList.{OwnList}
use Rattle.commit_book.specs.Books.{entry_limit}
use Rattle.sessions.specs.Replays.{request_of}
use Rattle.sessions.specs.SessionStates.{SessionState}
use Rattle.sessions.specs.declared.session.Shared.{Shared}
use Rattle.workroom.specs.Desks.{DeskState, IsTurned}
use Rattle.workroom.specs.declared.refusal.RoomRefusal.{RoomRefusal}
use Rattle.workroom.specs.declared.refusal.RoomRefusal.TheVariants as refusal
use Rattle.room_run.specs.declared.compiler.Ended.{Ended}
use Rattle.room_run.specs.declared.compiler.Ended.TheVariants as ended

-- how a session ends where its call got no answer
abbrev pub ended_by : RoomRefusal → Ended
ended_by refusal.LogFull = ended.Full
ended_by (refusal.NoMemory entered) = ended.NoMemory

-- the calls of one number
abbrev pub own_list : ℕ → List Entry → OwnList Entry
own_list number entries = record { number = number; entries = entries }

-- a desk's own calls are those of what the session did, and the session's lines are right however the history goes on
pub record IsAtDesk (d : DeskState) (s : SessionState) : Type 0 where
  pub entries : List Entry
  pub own : d.own ≡ own_list d.number entries ∷ []
  pub served : IsServed d.room.opening d.seen entries d.base s.done s.draft s.lines

-- a desk has at most so many calls of its own
pub record HasAtMost (count : ℕ) (d : DeskState) : Type 0 where
  pub entries : List Entry
  pub own : d.own ≡ own_list d.number entries ∷ []
  pub few : length entries ≤ count

-- what the session's next command asks was answered
pub record IsAnswered (old : DeskState) (s : SessionState) (what : Shared) (new : DeskState) (reply : Reply) : Type 0 where
  pub asked : Asked
  pub event : event_asked asked ≡ event_of old.room.opening.head.nall old.base (request_of what s.draft)
  pub turned : IsTurned old asked reply new
  pub base : new.base ≡ base_told (brief_of reply) old.base

-- it got no answer: the desk has one call more at most, and where the log was full, it has seen that
pub record IsCut (old new : DeskState) (why : RoomRefusal) : Type 0 where
  pub few : (count : ℕ) → HasAtMost count old → HasAtMost (count + 1) new
  pub full : why ≡ refusal.LogFull → length new.seen ≡ entry_limit

-- one view or commit more is done
pub record IsOneFurther (old : SessionState) (d : DeskState) (new : SessionState) : Type 0 where
  pub at_desk : IsAtDesk d new
  pub more : count_by is_shared new.done ≡ count_by is_shared old.done + 1

-- why a session of a number ended before its next view or commit, of this serial number, was answered
abbrev pub IsHalted : Type 0 → ℕ → ℕ → DeskState → Ended → Type 0
IsHalted sticks number serial d ended.Done = ⊥
IsHalted sticks number serial d (ended.Stuck stuck) = sticks × (stuck.desk ≡ number) × (stuck.serial ≡ serial)
IsHalted sticks number serial d ended.NoMemory = Unit {0}
IsHalted sticks number serial d ended.Full = length d.seen ≡ entry_limit

pub record IsHaltedAt (sticks : Type 0) (serial : ℕ) (old : SessionState) (d : DeskState) (why : Ended) : Type 0 where
  pub halted : IsHalted sticks d.number serial d why
  pub few : HasAtMost (count_by is_shared old.done + 1) d

-- how a session of a number and with a script ended
abbrev pub IsEnd : Type 0 → List Command → DeskState → SessionState → Ended → Type 0
IsEnd sticks script d s ended.Done = IsAtDesk d s × (s.done ≡ script)
IsEnd sticks script d s (ended.Stuck stuck) = sticks × (stuck.desk ≡ d.number) × (1 ≤ stuck.serial) × (stuck.serial ≤ count_by is_shared script)
IsEnd sticks script d s ended.NoMemory = Unit {0}
IsEnd sticks script d s ended.Full = length d.seen ≡ entry_limit

pub record IsOver (sticks : Type 0) (script : List Command) (d : DeskState) (s : SessionState) (why : Ended) : Type 0 where
  pub end : IsEnd sticks script d s why
  pub few : HasAtMost (count_by is_shared script) d
