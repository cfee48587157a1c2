use Rattle.std.proofs.Common.{sym}
use Rattle.std.proofs.lemmas.Result.{err_from_is_err_and}
use Rattle.cell_read.proofs.RecordSteps.{general}
use Rattle.cell_read.proofs.heads.read_general_information.Goals as goal

pub returns-in_err-kind : goal.returns-in_err-kind
returns-in_err-kind c = let refused = err_from_is_err_and c.from_residual.result c.from_residual.ensures.1 in
    rw (refused.1, refused.2) (general.fails c.args.frame.now.fields c.in_err-kind.field-0.0 (sym c.in_err-kind.ensures))

pub returns-then-not-is_general_information : goal.returns-then-not-is_general_information
returns-then-not-is_general_information c = general.order c.args.frame.now.fields c.in_ok-kind.kind (sym c.in_ok-kind.ensures)
    (sym c.if-not-is_general_information.ensures)

pub returns : goal.returns
returns c = rw (general.is c.args.frame.now.fields c.in_ok-kind.kind (sym c.in_ok-kind.ensures) (sym c.if-not-is_general_information.ensures))
    c.read_general_information_fields.ensures
