-- What crosses threads: a session at its desk.
use denote.Param.Send.{IsSend, sendable}
use Rattle.std.proofs.Crossing.{crosses}
use Rattle.sessions.proofs.session.Session.TheSendSync.{the_send as session_send}
use Rattle.workroom.proofs.Shared.{desk_send}
use Rattle.room_run.specs.contracts.compiler.Compiler.{the_row}

pub compiler_send : IsSend the_row
compiler_send = search (sendable, crosses, desk_send, session_send) depth 20
