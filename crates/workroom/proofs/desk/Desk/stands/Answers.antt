use Rattle.std.proofs.Common.{sym, ◌∙◌}
use Rattle.room_laws.proofs.Bases.{cell_stays}
use Rattle.workroom.proofs.desk.Desk.stands.Goals as goal

pub returns : goal.returns
returns c = λ later p. let desk = c.args.self.now in cell_stays desk.room.opening desk.seen later desk.base p c.known.ensures.base ∙ sym c.known.ensures.cell
