use Rattle.std.proofs.Common.{refl}
use Rattle.field_spec.specs.Contents.{end_content}
use Rattle.file_spec.specs.RecordReading.{rows_of}
use Rattle.file_spec.specs.declared.tag.FieldTag.TheVariants as tags
use Rattle.update_spec.specs.ControlFields.{control_among}
use Rattle.update_spec.specs.UpdatedRows.{updated_coordinates, updated_rows}
use Rattle.update_spec.specs.UpdateRecords.{given_coordinates, modified_vector}
use Rattle.update_spec.specs.declared.control.ControlTag.TheVariants.{Vrpc, Sgcc}
use Rattle.update_apply.proofs.Steps.{refused_result}
use Rattle.update_apply.proofs.vector.modified_vector.Goals as goal

pub returns-in_err-ends : goal.returns-in_err-ends
unfolding modified_vector
returns-in_err-ends c = let target = c.args.target.now in let fields = c.args.frame.now.fields in
    refused_result _ (updated_rows (control_among Vrpc fields) (rows_of tags.Vrpt end_content fields) target.ends)
    (modified_vector target c.args.vrid fields) c.from_residual.result c.from_residual.ensures.1 c.in_err-ends.ensures (λ fault failed. rw failed refl)

pub returns-in_err-points : goal.returns-in_err-points
unfolding modified_vector
returns-in_err-points c = let target = c.args.target.now in let fields = c.args.frame.now.fields in
    refused_result _ (updated_coordinates (control_among Sgcc fields) (given_coordinates fields) (target.plane, target.deep))
    (modified_vector target c.args.vrid fields) c.from_residual-in_err-points.result c.from_residual-in_err-points.ensures.1
    c.in_err-points.ensures (λ fault failed. rw (c.in_ok-ends.ensures, failed) refl)
