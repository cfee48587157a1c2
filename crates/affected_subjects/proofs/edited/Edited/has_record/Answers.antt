use Rattle.std.proofs.Common.{is_some, ap, ◌∙◌}
use Rattle.cell_spec.specs.declared.key.Subject.TheVariants.{Rec}
use Rattle.cell_spec.specs.Names.{subject_order}
use Rattle.rule_spec.specs.Findings.{is_subject}
use Rattle.row_spec.specs.Rows.{value_of}
use Rattle.affected_subjects.specs.EditedCells.{is_listed_after}
use Rattle.affected_subjects.proofs.Subjects.{record_is}
use Rattle.affected_subjects.proofs.edited.Edited.has_record.Goals as goal

pub returns : goal.returns
returns c =
    c.is_listed_after.ensures
    ∙ ap (is_listed_after (is_some (value_of subject_order c.self.inside.map.now (Rec c.args.name)))) c.find.ensures
    ∙ record_is c.self.inside.store.now c.self.inside.edits.now.edits c.self.inside.map.now c.self.inside.borne c.self.invariant
    c.edits_leave_their_records.ensures c.args.name
    ∙ ap (λ cell. is_subject cell (Rec c.args.name)) c.self.view_is
