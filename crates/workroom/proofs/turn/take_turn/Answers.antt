use denote.Param.Send.{sendable}
use Rattle.commit_book.proofs.Sent.{book_send}
use Rattle.workroom.proofs.turn.take_turn.Goals as goal

pub turn-requires-send-V : goal.turn-requires-send-V
turn-requires-send-V g c κs = search (sendable, book_send)
