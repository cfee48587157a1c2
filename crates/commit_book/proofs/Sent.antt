-- A book may be sent to other threads.
use denote.Param.Send.{IsSend, sendable}
use Rattle.std.proofs.Crossing.{crosses}
use Rattle.std.proofs.MapsCrossing as maps
use Rattle.history_spec.proofs.entry.Entry.TheSendSync.{the_send as entry_send}
use Rattle.cell_bench.proofs.bench.Bench.TheSendSync.{the_send as bench_send}
use Rattle.commit_book.proofs.accepted.Accepted.TheSendSync.{the_send as accepted_send}
use Rattle.commit_book.specs.contracts.book.Book.{the_row}
use Rattle.commit_book.specs.contracts.book.Book.TheInside as inside
use Rattle.commit_book.specs.contracts.commit_places.CommitPlaces as places

places_send : IsSend (places.the_field).row
places_send = search (sendable, crosses, maps.crosses) depth 20

inside_send : IsSend inside.the_row
inside_send = search (sendable, crosses, bench_send, accepted_send, entry_send, places_send) depth 20

pub book_send : IsSend the_row
book_send = record { owned = λ d vs x. (inside_send.owned x.0 vs, tt); leaving = λ k d w. tt }
