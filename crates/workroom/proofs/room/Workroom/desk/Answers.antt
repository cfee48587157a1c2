use denote.Param.Send.{sendable}
use Rattle.commit_book.proofs.Sent.{book_send}
use Rattle.workroom.proofs.room.Workroom.desk.Goals as goal

pub seat-requires-send-V : goal.seat-requires-send-V
seat-requires-send-V c κs = search (sendable, book_send)
