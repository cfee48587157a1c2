use Rattle.std.proofs.Common.{◌∙◌}
use Rattle.topo_ops.specs.Split.{split_by, split_refusal}
use Rattle.topo_ops.proofs.Sets.{split_answer, refused_call, unformed_call}
use Rattle.topo_ops.proofs.splitting.split.Goals as goal

pub returns-in_err-edits : goal.returns-in_err-edits
returns-in_err-edits g c =
    refused_call (λ nall x. split_refusal nall (g.B.Look.cell c.args.look.now) x) c.args.nall _
    (split_by c.args.edge c.args.at c.args.node c.args.fresh) c.of_numbers-cut.ensures _ _ _ c.from_residual.ensures.1 c.in_err-edits.ensures

pub returns-in_err-set : goal.returns-in_err-set
returns-in_err-set g c =
    unformed_call (λ nall x. split_refusal nall (g.B.Look.cell c.args.look.now) x) c.args.nall _
    (split_by c.args.edge c.args.at c.args.node c.args.fresh) c.of_numbers-cut.ensures _ _ _ c.from_residual-in_err-set.ensures.1
    c.as_slice.result.now _ (c.as_slice.ensures ∙ c.in_ok-edits.ensures.0) c.in_ok-edits.ensures.1 c.in_err-set.ensures

pub returns : goal.returns
returns g c =
    split_answer c.args.nall (g.B.Look.cell c.args.look.now) c.known.ensures c.in_ok-set.set c.known-2.ensures.parts c.as_slice.result.now c.in_ok-set.ensures
    c.args.edge c.args.at c.args.node c.args.fresh c.of_numbers-cut.result c.of_numbers-cut.ensures (c.as_slice.ensures ∙ c.in_ok-edits.ensures.0)
    c.in_ok-edits.ensures.1
