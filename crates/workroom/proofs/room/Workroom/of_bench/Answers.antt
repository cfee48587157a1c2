use denote.Param.Send.{sendable}
use Rattle.commit_book.proofs.Sent.{book_send}
use Rattle.workroom.proofs.room.Workroom.of_bench.Goals as goal

pub make-requires-send-V : goal.make-requires-send-V
make-requires-send-V c κs = search (sendable, book_send)
