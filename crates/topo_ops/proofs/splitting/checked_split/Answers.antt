use Rattle.std.proofs.Common.{map, ap, ◌∙◌}
use Rattle.std.specs.Borrow.{Bor}
use Rattle.s57_types.specs.declared.record.Feature.{Feature}
use Rattle.topo_ops.proofs.Rows.{handed_on}
use Rattle.topo_ops.proofs.SplitKept.{can_cut}
use Rattle.topo_ops.proofs.SplitRows.{at_cut, finished, no_edge}
use Rattle.topo_ops.proofs.splitting.checked_split.Goals as goal

pub returns-in_err-chain : goal.returns-in_err-chain
returns-in_err-chain g c = handed_on _ _ _ c.from_residual.result
    (no_edge (g.B.Look.cell c.args.look.now) c.args.cut _ c.in_err-chain.ensures) c.from_residual.ensures.1

pub returns-in_err-check_cut : goal.returns-in_err-check_cut
returns-in_err-check_cut g c = handed_on _ _ _ c.from_residual-in_err-check_cut.result
    (at_cut (g.B.Look.cell c.args.look.now) c.args.cut _ c.in_ok-chain.ensures _ c.in_err-check_cut.ensures) c.from_residual-in_err-check_cut.ensures.1

pub checked_edits-requires : goal.checked_edits-requires
checked_edits-requires g c = can_cut (g.B.Look.cell c.args.look.now) c.args.cut _ c.in_ok-chain.ensures c.in_ok-check_cut.ensures

pub returns : goal.returns
returns g c =
    finished (g.B.Look.cell c.args.look.now) c.args.cut _ c.in_ok-chain.ensures c.in_ok-check_cut.ensures _
    (ap (map (λ (f : Bor Feature). f.now)) c.as_slice.ensures.value ∙ c.in_ok-features.ensures) c.checked_edits.result c.checked_edits.ensures
