use Rattle.std.proofs.Common.{not, sym, subst, ap, ◌∙◌}
use Rattle.std.specs.Option.{option_or}
use Rattle.file_spec.specs.RecordFaults.{demand}
use Rattle.file_spec.specs.declared.tag.RecordType.TheVariants as types
use Rattle.update_spec.specs.ControlFields.{has_controls}
use Rattle.update_spec.specs.UpdateRecords.{feature_edit, feature_name, inserted_feature, is_new}
use Rattle.update_spec.specs.declared.fault.UpdateFault.TheVariants.{BadControl, TargetThere}
use Rattle.update_apply.specs.Gives.{GivesUpdate}
use Rattle.update_apply.specs.Kept.{added_unless_long}
use Rattle.update_apply.proofs.LongRecords.{past_two}
use Rattle.update_apply.proofs.feature.feature_insertion.Goals as goal

pub returns : goal.returns
unfolding feature_edit
returns c =
    let cell = c.args.case.now.look.now in
    let fields = c.args.case.now.frame.now.fields in
    let ids = c.args.ids in
    let whole = inserted_feature c.args.case.now.level ids.frid ids.foid fields in
    let controls = demand (not (has_controls types.Feature fields)) BadControl in
    subst (GivesUpdate c.addition.result)
    (sym (past_two (demand (is_new cell (feature_name ids.frid)) TargetThere) controls (added_unless_long cell whole)
    (ap (λ name. option_or (demand (is_new cell name) TargetThere) controls) (sym c.feature_name.ensures) ∙ sym c.in_default.ensures)))
    (c.addition.ensures whole (c.in_ok-rec.ensures cell.head.nall))
