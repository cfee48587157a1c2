use Rattle.std.proofs.Common.{Ok, sym, ap, ◌∙◌}
use Rattle.file_spec.specs.RecordFaults.{◌>>◌, demand}
use Rattle.update_spec.specs.UpdatedRows.{updated_rows}
use Rattle.update_spec.specs.declared.fault.UpdateFault.TheVariants.{BadControl}
use Rattle.update_apply.proofs.rows.kept_rows.Goals as goal

pub returns-then-not-is_empty : goal.returns-then-not-is_empty
unfolding updated_rows
returns-then-not-is_empty g c = ap (λ b. demand b BadControl >> Ok c.args.rows.now) (sym c.if-not-is_empty.ensures)

pub returns : goal.returns
unfolding updated_rows
returns g c = ap (λ b. demand b BadControl >> Ok c.args.rows.now) (sym c.if-not-is_empty.ensures) ∙ ap Ok (sym c.in_ok-copy_of.ensures)
