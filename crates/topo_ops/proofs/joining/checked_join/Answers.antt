use Rattle.std.proofs.Common.{map, ap, ◌∙◌}
use Rattle.std.specs.Borrow.{Bor}
use Rattle.s57_types.specs.declared.record.Feature.{Feature}
use Rattle.topo_ops.proofs.JoinRows.{at_chains, finished, no_first, no_second}
use Rattle.topo_ops.proofs.Rows.{handed_on}
use Rattle.topo_ops.proofs.joining.checked_join.Goals as goal

pub returns-in_err-first : goal.returns-in_err-first
returns-in_err-first g c = handed_on _ _ _ c.from_residual.result
    (no_first (g.B.Look.cell c.args.look.now) c.args.edges _ c.in_err-first.ensures) c.from_residual.ensures.1

pub returns-in_err-second : goal.returns-in_err-second
returns-in_err-second g c = handed_on _ _ _ c.from_residual-in_err-second.result
    (no_second (g.B.Look.cell c.args.look.now) c.args.edges _ c.in_ok-first.ensures _ c.in_err-second.ensures) c.from_residual-in_err-second.ensures.1

pub returns-in_err-check_chains : goal.returns-in_err-check_chains
returns-in_err-check_chains g c =
    handed_on _ _ _ c.from_residual-in_err-check_chains.result
    (at_chains (g.B.Look.cell c.args.look.now) c.args.edges _ _ c.in_ok-first.ensures c.in_ok-second.ensures _ c.in_err-check_chains.ensures)
    c.from_residual-in_err-check_chains.ensures.1

pub returns : goal.returns
returns g c =
    finished (g.B.Look.cell c.args.look.now) c.args.edges _ _ c.in_ok-first.ensures c.in_ok-second.ensures c.in_ok-check_chains.ensures _
    (ap (map (λ (f : Bor Feature). f.now)) c.as_slice.ensures.value ∙ c.in_ok-features.ensures) c.checked_edits.result c.checked_edits.ensures
