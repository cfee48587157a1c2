use Rattle.std.proofs.Common.{sym, ◌∙◌}
use Rattle.shared_table.proofs.Absent.{without_absent, copied_none}
use Rattle.shared_table.proofs.top.take_from_top.Goals as goal

pub returns-then-is_none-clause-ok : goal.returns-then-is_none-clause-ok
returns-then-is_none-clause-ok g c =
    let none = sym c.get.ensures ∙ copied_none c.get.result c.if-is_none.ensures in
    rw (c.in-Some.is, ← c.deref.ensures) (sym (without_absent g.K.Ord.cmp (g.P.Piece.rows c.deref.result.now) c.args.key.now none))
