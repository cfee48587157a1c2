use Rattle.std.proofs.Common.{sym, ap, ◌∙◌}
use Rattle.near_records.specs.LineEnds.{line_end}
use Rattle.near_records.proofs.AskedEnds.{node_asked}
use Rattle.near_records.proofs.ends.line_end.Goals as goal

pub returns-in-Some : goal.returns-in-Some
returns-in-Some g c = λ cell keys near asked.
    let found = sym c.in-Some.ensures in
    c.end_at.ensures cell keys near (node_asked keys c.args.topi c.args.edge.now c.in-Some.node found asked) ∙ ap (line_end cell) (sym found)
