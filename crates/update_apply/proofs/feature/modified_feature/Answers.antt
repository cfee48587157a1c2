use Rattle.std.proofs.Common.{refl}
use Rattle.field_spec.specs.Contents.{partner_content, place_content}
use Rattle.file_spec.specs.RecordReading.{rows_of}
use Rattle.file_spec.specs.declared.tag.FieldTag.TheVariants as tags
use Rattle.update_spec.specs.ControlFields.{control_among}
use Rattle.update_spec.specs.UpdatedRows.{updated_rows}
use Rattle.update_spec.specs.UpdateRecords.{modified_feature}
use Rattle.update_spec.specs.declared.control.ControlTag.TheVariants.{Ffpc, Fspc}
use Rattle.update_apply.proofs.Steps.{refused_result}
use Rattle.update_apply.proofs.feature.modified_feature.Goals as goal

pub returns-in_err-partners : goal.returns-in_err-partners
unfolding modified_feature
returns-in_err-partners c = let target = c.args.target.now in let fields = c.args.frame.now.fields in
    refused_result _ (updated_rows (control_among Ffpc fields) (rows_of tags.Ffpt partner_content fields) target.partners)
    (modified_feature c.args.level target c.args.frid fields) c.from_residual.result c.from_residual.ensures.1 c.in_err-partners.ensures (λ
    fault failed. rw failed refl)

pub returns-in_err-places : goal.returns-in_err-places
unfolding modified_feature
returns-in_err-places c = let target = c.args.target.now in let fields = c.args.frame.now.fields in
    refused_result _ (updated_rows (control_among Fspc fields) (rows_of tags.Fspt place_content fields) target.places)
    (modified_feature c.args.level target c.args.frid fields) c.from_residual-in_err-places.result c.from_residual-in_err-places.ensures.1
    c.in_err-places.ensures (λ fault failed. rw (c.in_ok-partners.ensures, failed) refl)
