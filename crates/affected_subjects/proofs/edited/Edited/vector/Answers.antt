use Rattle.std.proofs.Common.{ap, ◌∙◌}
use Rattle.record_store.specs.Stores.{course_in}
use Rattle.affected_subjects.proofs.Vectors.{edited_course, kept_course}
use Rattle.affected_subjects.proofs.edited.Edited.vector.Goals as goal

pub returns-in-Some : goal.returns-in-Some
returns-in-Some c =
    c.vector_under.ensures
    ∙ edited_course c.edits_leave_their_records.ensures c.self.inside.edits.now.edits c.self.inside.store.now c.self.invariant.found
    c.args.name c.in-Some.edit.now c.in-Some.ensures
    ∙ ap (λ cell. course_in cell c.args.name) c.self.view_is

pub returns-in-None : goal.returns-in-None
returns-in-None c =
    c.course.ensures
    ∙ kept_course c.edits_leave_their_records.ensures c.self.inside.edits.now.edits c.self.inside.store.now c.self.invariant.found c.args.name c.in-None.ensures
    ∙ ap (λ cell. course_in cell c.args.name) c.self.view_is
