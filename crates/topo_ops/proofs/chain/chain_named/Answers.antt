use Rattle.std.proofs.Common.{sym, ap, ◌∙◌}
use Rattle.std.specs.Option.{option_copied}
use Rattle.topo_ops.proofs.Lines.{chain_there, no_edge, no_line}
use Rattle.topo_ops.proofs.chain.chain_named.Goals as goal

pub returns-in_default : goal.returns-in_default
returns-in_default g c = no_edge (g.B.Look.cell c.args.look.now) c.args.name (sym c.edge_of_two_ends.ensures ∙ ap (λ o. option_copied o) c.in_default.is)

pub returns-in_default-2 : goal.returns-in_default-2
returns-in_default-2 g c =
    no_line (g.B.Look.cell c.args.look.now) c.args.name c.in-Some.edge.now (sym c.in-Some.ensures) (sym c.in_ok-line.ensures.line ∙ c.in_default-2.is)

pub returns : goal.returns
returns g c =
    chain_there (g.B.Look.cell c.args.look.now) c.args.name c.in-Some.edge.now _ (sym c.in-Some.ensures) (sym c.in_ok-line.ensures.line ∙ c.in-Some-2.is)
