use denote.Param.Send.{sendable}
use Rattle.commit_book.proofs.Sent.{book_send}
use Rattle.std.proofs.Common.{sym, subst, ap, ◌∙◌}
use Rattle.s57_types.specs.declared.cell.Cell.{Cell}
use Rattle.history_spec.specs.Entries.{AreTold}
use Rattle.workroom.specs.Desks.{DeskState, IsDesk}
use Rattle.workroom.proofs.Moves.{copy_merged}
use Rattle.workroom.proofs.desk.Desk.take_over.Goals as goal

pub merge-requires-send-V : goal.merge-requires-send-V
merge-requires-send-V c κs = search (sendable, book_send)

pub invariant_of-self : goal.invariant_of-self
invariant_of-self c =
    let desk = c.self.inside in
    let other = c.from.inside in
    let after = c.merge.new.into in
    let same = ap (λ s. s.origin) c.merge.ensures.same in
    let opening = ap (λ (d : DeskState). d.room.opening) (c.from.view_is) ∙ ap (λ room. room.opening) c.requires.room
    ∙ sym (ap (λ (d : DeskState). d.room.opening) c.self.view_is) in
    subst (λ (c : Cell). IsDesk c after.observed desk.base desk.bench) (sym same)
    (copy_merged desk.seat.origin desk.seat.observed other.seat.observed after.observed desk.base desk.bench c.self.invariant
    (subst (λ (c : Cell). AreTold c other.seat.observed) opening c.from.invariant.told) c.merge.ensures.observed c.merge.ensures.begins)
