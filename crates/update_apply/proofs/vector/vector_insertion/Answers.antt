use Rattle.std.proofs.Common.{not, sym, subst}
use Rattle.file_spec.specs.RecordFaults.{demand}
use Rattle.file_spec.specs.declared.tag.RecordType.TheVariants as types
use Rattle.update_spec.specs.ControlFields.{has_controls}
use Rattle.update_spec.specs.UpdateRecords.{inserted_vector, is_new, vector_edit}
use Rattle.update_spec.specs.declared.fault.UpdateFault.TheVariants.{BadControl, TargetThere}
use Rattle.update_apply.specs.Gives.{GivesUpdate}
use Rattle.update_apply.specs.Kept.{added_unless_long}
use Rattle.update_apply.proofs.LongRecords.{past_two}
use Rattle.update_apply.proofs.vector.vector_insertion.Goals as goal

pub returns : goal.returns
unfolding vector_edit
returns c =
    let cell = c.args.case.now.look.now in
    let fields = c.args.case.now.frame.now.fields in
    let whole = inserted_vector c.args.vrid fields in
    subst (GivesUpdate c.addition.result)
    (sym (past_two (demand (is_new cell c.args.vrid.name) TargetThere) (demand (not (has_controls types.Vector fields)) BadControl)
    (added_unless_long cell whole) (sym c.in_default.ensures)))
    (c.addition.ensures whole (c.in_ok-rec.ensures cell.head.nall))
