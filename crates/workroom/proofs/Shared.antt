-- What crosses threads: a workroom is sent and shared, a desk is sent.
use denote.Param.Send.{IsSend, IsSync, sendable}
use Rattle.std.proofs.Crossing.{crosses}
use Rattle.s57_types.specs.contracts.cell.Cell as cell
use Rattle.history_spec.specs.contracts.entry.Entry as entry
use Rattle.turn_gate.proofs.SharedHandles.{handle_sync}
use Rattle.turn_gate.specs.contracts.handle.GateSeat as seat
use Rattle.turn_gate.specs.contracts.lock.Gate as gate
use Rattle.turn_gate.proofs.handle.GateSeat.TheSendSync as seats
use Rattle.turn_gate.proofs.lock.Gate.TheSendSync as gates
use Rattle.cell_bench.proofs.bench.Bench.TheSendSync.{the_send as bench_send, the_sync as bench_sync}
use Rattle.commit_book.specs.contracts.book.Book as book
use Rattle.commit_book.specs.contracts.book.BookChronicle.TheImpl.{ghosts}
use Rattle.commit_book.proofs.Sent.{book_send}
use Rattle.workroom.specs.contracts.desk.Desk as desk
use Rattle.workroom.specs.contracts.desk.Desk.TheInside as desk_inside
use Rattle.workroom.specs.contracts.room.Workroom as room
use Rattle.workroom.specs.contracts.room.Workroom.TheInside as room_inside

seat_send : IsSend (seat.the_row book.the_row entry.the_row cell.the_row ghosts)
seat_send = seats.the_send book.the_row entry.the_row cell.the_row ghosts book_send

seat_sync : IsSync (seat.the_row book.the_row entry.the_row cell.the_row ghosts)
seat_sync = handle_sync book.the_row entry.the_row cell.the_row ghosts book_send

gate_send : IsSend (gate.the_row book.the_row entry.the_row cell.the_row ghosts)
gate_send = gates.the_send book.the_row entry.the_row cell.the_row ghosts book_send

gate_sync : IsSync (gate.the_row book.the_row entry.the_row cell.the_row ghosts)
gate_sync = gates.the_sync book.the_row entry.the_row cell.the_row ghosts book_send

inside_send : IsSend room_inside.the_row
inside_send = search (sendable, crosses, seat_send, gate_send, bench_send) depth 20

inside_sync : IsSync room_inside.the_row
inside_sync = search (sendable, crosses, seat_sync, gate_sync, bench_sync) depth 20

pub room_send : IsSend room.the_row
room_send = record { owned = λ d vs x. (inside_send.owned x.0 vs, tt); leaving = λ k d w. tt }

pub room_sync : IsSync room.the_row
room_sync = record { shared = λ d b o κ x. (inside_sync.shared x.0 b o κ, tt) }

desk_inside_send : IsSend desk_inside.the_row
desk_inside_send = search (sendable, crosses, seat_send, bench_send) depth 20

pub desk_send : IsSend desk.the_row
desk_send = record { owned = λ d vs x. (desk_inside_send.owned x.0 vs, tt); leaving = λ k d w. tt }
