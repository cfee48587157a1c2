use Rattle.std.proofs.Common.{subst, ap, ◌∙◌}
use Rattle.file_spec.specs.RecordReading.{rows_of}
use Rattle.update_spec.specs.UpdatedRows.{updated_rows}
use Rattle.update_apply.specs.Gives.{GivesUpdate}
use Rattle.update_apply.proofs.KeptRows.{kept_update}
use Rattle.update_apply.proofs.rows.modified_rows.Goals as goal

pub returns : goal.returns
returns g c =
    let given = rows_of c.args.tag (g.T.Given.content 0) c.args.frame.now.fields in
    subst (GivesUpdate c.updated_rows.result)
    (ap (λ rows. updated_rows c.control_among-control.result c.in_ok-given.given rows) c.as_slice.ensures
    ∙ kept_update c.control_among-control.result c.in_ok-given.given given c.args.rows.now c.control_among-control.ensures.counted c.in_ok-given.ensures
    ∙ ap (λ control. updated_rows control given c.args.rows.now) c.control_among-control.ensures.said)
    c.updated_rows.ensures
