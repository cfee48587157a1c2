-- A handle may be shared among threads where the value may be sent to them: it shows a thread two numbers and its place.
use denote.RattleType.{RattleType}
use denote.Param.Send.{IsSend, IsSync, sendable, part_keyless, cell_keyless}
use mathlib.Core.List.{[], ◌∷◌}
use mir.Raw.{raw}
use mir.Syntax.{ty_int, w32}
use Rattle.std.proofs.Common.{◌+◌}
use Rattle.std.specs.contracts.option.Option as option
use Rattle.atomic_table.specs.contracts.shared.Seat as seat
use Rattle.atomic_table.proofs.Sent.{seat_keyless}
use Rattle.turn_gate.specs.declared.chronicle.Chronicle.{Ghosts}
use Rattle.turn_gate.specs.contracts.view.HandleView as view
use Rattle.turn_gate.specs.contracts.handle.GateSeat.{the_row}

option_send : (V : RattleType) → IsSend V → IsSend (option.the_row V)
option_send V s = search sendable depth 20

-- a place in a table whose slots may be sent
place_send : (S V : RattleType) → IsSend S → IsSend (seat.the_row S V)
place_send S V s = record {
  owned = λ d vs. ((λ vss. (tt, ((λ uss. (tt, tt)), tt))), seat_keyless S s V.coded.code d.table_id d.id d.me);
  leaving = λ k f vs. tt;
}

pub handle_sync : (V E O : RattleType) (g : Ghosts V.Denot E.Denot O.Denot) → IsSend V → IsSync (the_row V E O g)
handle_sync V E O g s = record {
  shared = λ d b o κ x. (
    (
      (
        (λ q. part_keyless (seat.the_row (option.the_row V) (view.the_row E O))
            (place_send (option.the_row V) (view.the_row E O) (option_send V s)) q x.0.place b (o + 0)),
        (
          (λ vs. ((tt, tt), (λ q. cell_keyless q (raw (ty_int w32) ∷ []) vs b (o + 0)))),
          ((λ vs. ((tt, tt), (λ q. cell_keyless q (raw (ty_int w32) ∷ []) vs b (o + 4)))), tt),
        ),
      ),
      (λ q. tt),
    ),
    tt,
  );
}
