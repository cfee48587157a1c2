use denote.Param.{param}
use Rattle.turn_gate.proofs.SharedHandles.{handle_sync}
use Rattle.turn_gate.proofs.threads.handles_are_shared.Goals as goal

pub is_sync-requires-sync-T : goal.is_sync-requires-sync-T
is_sync-requires-sync-T g c κs within = record {
  shared = (handle_sync (param 0 g.row.V) (param 1 g.row.V-Entry) (param 2 g.row.V-Origin) g.V.Chronicle c.type_bounds.send-V).shared;
}
