-- What contracts see of a desk, and what the calls of a workroom do to it. This project's own rules.
use mathlib.Core.List.{IsPrefix}
use Rattle.std.specs.Prelude.{◌≡◌, ℕ, ◌≤◌, ◌<◌, true, false, List, [], ◌∷◌, ◌++◌, length, map}
use Rattle.s57_types.specs.declared.cell.Cell.{Cell}
use Rattle.history_spec.specs.declared.entry.Asked.{Asked}
use Rattle.history_spec.specs.declared.entry.Entry.{Entry}
use Rattle.history_spec.specs.declared.reply.Reply.{Reply}
use Rattle.history_spec.specs.declared.reply.Reply.TheVariants.{Viewed, Formed, Newer, Refused, Accepted}
use Rattle.history_spec.specs.Entries.{AreTold, brief_of, event_asked, replayed}
use Rattle.history_spec.specs.EntriesReport.{cell_told}
use Rattle.history_spec.specs.Steps.{answer}
use Rattle.turn_gate.specs.Handles.{GateId, HandleState}
use Rattle.turn_gate.specs.Histories.{extended, longer}
use Rattle.turn_gate.specs.declared.view.OwnList.{OwnList}
use Rattle.commit_book.specs.Books.{entry_limit, entry_of}
use Rattle.workroom.specs.declared.refusal.RoomRefusal.{RoomRefusal}
use Rattle.workroom.specs.declared.refusal.RoomRefusal.TheVariants.{LogFull, NoMemory}

-- which workroom: its lock, and the cell with which its log was opened
pub record RoomId : Type 0 where
  pub gate : GateId
  pub opening : Cell

pub record DeskState : Type 0 where
  -- the workroom that made it
  pub room : RoomId
  -- its number, from 1 on
  pub number : ℕ
  -- the beginning of the history that it has observed
  pub seen : List Entry
  -- its own calls, for each number that it keeps
  pub own : List (OwnList Entry)
  -- how many accepted commits its copy of the cell has taken in, and the copy
  pub base : ℕ
  pub cell : Cell

-- the desk of a handle
abbrev pub desk_of_handle : HandleState Entry Cell → Cell → ℕ → DeskState
desk_of_handle seat cell base = record {
  room = record { gate = seat.gate; opening = seat.origin };
  number = seat.number;
  seen =
      seat.observed;
  own = seat.own;
  base = base;
  cell = cell;
}

-- what a desk has observed are answers at their points, and its copy is the cell after its base
pub record IsDesk (c : Cell) (seen : List Entry) (base : ℕ) (cell : Cell) : Type 0 where
  pub told : AreTold c seen
  pub base_is : base ≤ length (replayed c seen).commits
  pub cell_is : cell ≡ cell_told c seen base

pub record IsSameDesk (old new : DeskState) : Type 0 where
  pub room : new.room ≡ old.room
  pub number : new.number ≡ old.number

-- a call that was entered: what the desk has observed goes on from what it had observed and ends with the call's entry, which has the answer at
-- its point; the desk's own list has it too
pub record IsTurned (old : DeskState) (asked : Asked) (reply : Reply) (new : DeskState) : Type 0 where
  pub before : List Entry
  pub begins : IsPrefix old.seen before
  pub seen : new.seen ≡ before ++ entry_of old.number asked (brief_of reply) ∷ []
  pub reply_is : reply ≡ answer (replayed old.room.opening before) (event_asked asked)
  pub own : new.own ≡ map (extended old.number (entry_of old.number asked (brief_of reply) ∷ [])) old.own

-- a call that wasn't entered: the desk may have observed more, and all else is as it was
pub record IsUnasked (old new : DeskState) : Type 0 where
  pub begins : IsPrefix old.seen new.seen
  pub own : new.own ≡ old.own
  pub base : new.base ≡ old.base
  pub cell : new.cell ≡ old.cell

-- the answer tells the number of an accepted commit, and it is above a base
abbrev pub IsAbove : ℕ → Reply → Type 0
IsAbove base (Viewed number findings) = base < number
IsAbove base (Formed fault) = ⊥
IsAbove base (Newer number name desk edit) = ⊥
IsAbove base (Refused refusal) = ⊥
IsAbove base (Accepted number findings) = base < number

-- a call that was entered, and the desk's copy didn't come up to its answer
pub record IsLeftBehind (old : DeskState) (asked : Asked) (new : DeskState) : Type 0 where
  pub reply : Reply
  pub turned : IsTurned old asked reply new
  pub base : old.base ≤ new.base
  pub behind : IsAbove new.base reply

-- why a desk gets no answer: the log is full and nothing was entered, or memory runs out
abbrev pub IsRoomRefusal : DeskState → Asked → DeskState → RoomRefusal → Type 0
IsRoomRefusal old asked new LogFull = IsUnasked old new × (length new.seen ≡ entry_limit)
IsRoomRefusal old asked new (NoMemory false) = IsUnasked old new
IsRoomRefusal old asked new (NoMemory true) = IsLeftBehind old asked new

-- the same, where nothing was entered
abbrev pub IsUnentered : DeskState → DeskState → RoomRefusal → Type 0
IsUnentered old new LogFull = IsUnasked old new × (length new.seen ≡ entry_limit)
IsUnentered old new (NoMemory false) = IsUnasked old new
IsUnentered old new (NoMemory true) = ⊥

-- a desk that took over another
abbrev pub merged_desk : DeskState → DeskState → DeskState
merged_desk into from = record into { seen = longer into.seen from.seen; own = into.own ++ from.own }
