use Rattle.std.proofs.Common.{sym}
use Rattle.std.proofs.lemmas.Result.{err_from_is_err_and}
use Rattle.cell_read.proofs.RecordSteps.{geographic}
use Rattle.cell_read.proofs.heads.read_geographic_reference.Goals as goal

pub returns-in_err-kind : goal.returns-in_err-kind
returns-in_err-kind c = let refused = err_from_is_err_and c.from_residual.result c.from_residual.ensures.1 in
    rw (refused.1, refused.2) (geographic.fails c.args.frame.now.fields c.in_err-kind.field-0.0 (sym c.in_err-kind.ensures))

pub returns-then-not-is_geographic_reference : goal.returns-then-not-is_geographic_reference
returns-then-not-is_geographic_reference c = geographic.order c.args.frame.now.fields c.in_ok-kind.kind (sym c.in_ok-kind.ensures)
    (sym c.if-not-is_geographic_reference.ensures)

pub returns : goal.returns
returns c = rw (geographic.is c.args.frame.now.fields c.in_ok-kind.kind (sym c.in_ok-kind.ensures) (sym c.if-not-is_geographic_reference.ensures))
    c.read_geographic_reference_fields.ensures
