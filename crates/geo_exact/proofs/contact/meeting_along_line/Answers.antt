use Rattle.std.proofs.Common.{sym, ◌∙◌, Less, Equal, Greater}
use Rattle.geo_exact.proofs.ContactTests.{on_line_found}
use Rattle.geo_exact.proofs.contact.meeting_along_line.Goals as goal

pub returns-in-Less : goal.returns-in-Less
returns-in-Less c = on_line_found c.args.p c.args.q c.args.r c.args.s _ _ _ _ _ _ Less c.min.ensures c.min-2.ensures c.max-from.ensures
    c.max.ensures c.max-2.ensures c.min-to.ensures (sym c.in-Less.is ∙ c.cmp.ensures)

pub returns-in-Equal : goal.returns-in-Equal
returns-in-Equal c = on_line_found c.args.p c.args.q c.args.r c.args.s _ _ _ _ _ _ Equal c.min.ensures c.min-2.ensures c.max-from.ensures
    c.max.ensures c.max-2.ensures c.min-to.ensures (sym c.in-Equal.is ∙ c.cmp.ensures)

pub returns-in-Greater : goal.returns-in-Greater
returns-in-Greater c = on_line_found c.args.p c.args.q c.args.r c.args.s _ _ _ _ _ _ Greater c.min.ensures c.min-2.ensures
    c.max-from.ensures c.max.ensures c.max-2.ensures c.min-to.ensures (sym c.in-Greater.is ∙ c.cmp.ensures)
