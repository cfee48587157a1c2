use Rattle.std.proofs.Common.{◌≡◌, subst, ap, ◌∙◌}
use Rattle.s57_types.specs.declared.cell.Cell.{Cell}
use Rattle.room_laws.proofs.Bases.{level_told}
use Rattle.workroom.specs.Desks.{DeskState}
use Rattle.workroom.proofs.desk.Desk.known.Goals as goal

pub returns-clause-level : goal.returns-clause-level
returns-clause-level c =
    let desk = c.self.inside in
    subst (λ (d : DeskState). d.cell.head.nall ≡ d.room.opening.head.nall) c.self.view_is
    (ap (λ (cell : Cell). cell.head.nall) c.self.invariant.cell_is ∙ level_told desk.seat.origin desk.seat.observed desk.base)
