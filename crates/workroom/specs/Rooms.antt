-- What contracts see of a workroom. This project's own rules.
use Rattle.std.specs.Prelude.{◌≡◌, ℕ, ◌+◌, ◌≤◌, [], ◌∷◌}
use Rattle.s57_types.specs.declared.cell.Cell.{Cell}
use Rattle.rule_spec.specs.Findings.{finding_total}
use Rattle.history_spec.specs.declared.entry.Entry.{Entry}
use Rattle.history_spec.specs.Steps.{finding_limit}
use Rattle.turn_gate.specs.Handles.{GateId, HandleState, no_operations}
use Rattle.workroom.specs.Desks.{DeskState, RoomId}

-- how many desks may be made
abbrev pub desk_limit : ℕ
desk_limit = 16

pub record RoomState : Type 0 where
  pub room : RoomId
  -- how many desks were made
  pub desks : ℕ

-- the lock's own handle has made no call and has given out the desks; the bench that is kept for new desks is that of the opening cell
pub record IsRoomOf (gate : GateId) (root : HandleState Entry Cell) (bench : Cell) : Type 0 where
  pub gate_is : root.gate ≡ gate
  pub number : root.number ≡ 0
  pub few : root.given ≤ desk_limit
  pub observed : root.observed ≡ []
  pub own : root.own ≡ no_operations 0 ∷ []
  pub bench_is : bench ≡ root.origin

-- a workroom before its first desk
pub record IsNewRoom (c : Cell) (room : RoomState) : Type 0 where
  pub opening : room.room.opening ≡ c
  pub none : room.desks ≡ 0

-- that was loaded
pub record IsLoadedRoom (c : Cell) (room : RoomState) : Type 0 where
  pub new : IsNewRoom c room
  pub few : finding_total c ≤ finding_limit

-- the desk that a workroom makes next
abbrev pub new_desk : RoomState → DeskState
new_desk room = record { room = room.room; number = room.desks + 1; seen = []; own = no_operations (room.desks + 1) ∷ []; base = 0; cell = room.room.opening }
