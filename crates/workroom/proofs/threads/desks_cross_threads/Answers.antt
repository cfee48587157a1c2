use denote.Param.Send.{sendable}
use Rattle.workroom.proofs.Shared.{desk_send, room_send, room_sync}
use Rattle.workroom.proofs.threads.desks_cross_threads.Goals as goal

pub is_send-requires-send-T : goal.is_send-requires-send-T
is_send-requires-send-T c κs = search (sendable, room_send)

pub is_sync-requires-sync-T : goal.is_sync-requires-sync-T
is_sync-requires-sync-T c κs = record { shared = room_sync.shared }

pub is_send-requires-2-send-T : goal.is_send-requires-2-send-T
is_send-requires-2-send-T c κs = search (sendable, desk_send)
