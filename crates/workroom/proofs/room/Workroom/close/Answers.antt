use denote.Param.Send.{sendable}
use Rattle.commit_book.proofs.Sent.{book_send}
use Rattle.std.proofs.Common.{◌≤◌, All, ap, subst, ◌∙◌}
use Rattle.history_spec.specs.declared.entry.Entry.{Entry}
use Rattle.workroom.specs.Rooms.{RoomState}
use Rattle.workroom.proofs.Rooms.{closed_own, none_by_zero}
use Rattle.workroom.proofs.room.Workroom.close.Goals as goal

pub merge-requires-send-V : goal.merge-requires-send-V
merge-requires-send-V g c κs = search (sendable, book_send)

pub close-requires-send-V : goal.close-requires-send-V
close-requires-send-V g c κs = search (sendable, book_send)

pub returns-clause-own : goal.returns-clause-own
returns-clause-own g c =
    (closed_own c.close.result.entries c.merge.new.into.own c.self.inside.root.own c.into_seat.result.own c.args.desk.own
    c.merge.ensures.own c.self.invariant.own c.into_seat.ensures.own c.close.ensures.own).1

pub returns-clause-numbers : goal.returns-clause-numbers
returns-clause-numbers g c =
    let closed = closed_own c.close.result.entries c.merge.new.into.own c.self.inside.root.own c.into_seat.result.own c.args.desk.own
    c.merge.ensures.own c.self.invariant.own c.into_seat.ensures.own c.close.ensures.own in
    let same = c.merge.ensures.same in
    let given = ap (λ s. s.given) same ∙ ap (λ (room : RoomState). room.desks) c.self.view_is in
    none_by_zero c.args.self.desks c.close.result.entries closed.0
    (subst (λ n. All (λ (e : Entry). e.desk ≤ n) c.close.result.entries) given (c.close.ensures.numbers (ap (λ s. s.number) same ∙ c.self.invariant.number)))
