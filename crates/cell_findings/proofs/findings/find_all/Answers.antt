use Rattle.std.proofs.Common.{subst, sym}
use Rattle.std.proofs.lemmas.Result.{err_from_is_err_and}
use Rattle.cell_findings.specs.AllFindings.{IsAllOf}
use Rattle.cell_findings.proofs.AllFindings.{gathered_is_all, over_is_refusal}
use Rattle.cell_findings.proofs.findings.find_all.Goals as goal

pub returns-in_err-findings : goal.returns-in_err-findings
returns-in_err-findings g c =
    let refused = err_from_is_err_and c.from_residual.result c.from_residual.ensures.1 in
    rw (refused.1, refused.2) (over_is_refusal c.args.cell.now c.requires.writable c.args.limit _ c.in_err-findings.ensures)

pub returns : goal.returns
returns g c =
    subst (IsAllOf c.args.cell.now c.args.limit) (sym c.of_vec.ensures)
    (gathered_is_all c.args.cell.now c.requires.writable c.args.limit c.in_ok-findings.findings.items c.in_ok-findings.ensures)
