use Rattle.std.proofs.Common.{List, Ok, false, sym, ap, ◌∙◌}
use Rattle.std.specs.Prelude.{ℤ}
use Rattle.file_spec.specs.RecordFaults.{◌>>=◌}
use Rattle.update_spec.specs.UpdatedRows.{updated_list, updated_rows}
use Rattle.update_apply.proofs.Steps.{refused_result}
use Rattle.update_apply.proofs.coordinates.with_points.Goals as goal

pub returns-in_err-updated : goal.returns-in_err-updated
returns-in_err-updated c other =
    refused_result _ (updated_rows c.args.control c.args.given c.as_slice.result.now)
    (updated_list false c.args.control (c.args.given, other) (c.args.plane.now, c.args.deep.now)) c.from_residual.result c.from_residual.ensures.1
    c.in_err-updated.ensures (λ fault failed.
    ap (λ r. r >>= λ (d : List (ℤ × ℤ)). Ok (d, c.args.deep.now)) (ap (updated_rows c.args.control c.args.given) (sym c.as_slice.ensures) ∙ failed))

pub returns : goal.returns
returns c other =
    ap (λ r. r >>= λ (d : List (ℤ × ℤ)). Ok (d, c.args.deep.now)) (ap (updated_rows c.args.control c.args.given) (sym c.as_slice.ensures) ∙
    c.in_ok-updated.ensures)
    ∙ ap (λ p. Ok (c.in_ok-updated.updated, p)) (sym c.in_ok-copy.ensures)
