use Rattle.std.proofs.Common.{sym, ◌∙◌}
use Rattle.s57_types.specs.declared.name.Kind.TheVariants.{Vc}
use Rattle.cell_spec.specs.Names.{is_of_kind}
use Rattle.record_store.specs.Stores.{course_in}
use Rattle.affected_subjects.proofs.Vectors.{node_is, none_there, there_is}
use Rattle.affected_subjects.proofs.edited.Edited.node.Goals as goal

pub returns-then-is_connected : goal.returns-then-is_connected
returns-then-is_connected c =
    c.vector.ensures
    ∙ there_is (is_of_kind Vc c.args.name) (course_in c.args.self.now c.args.name) (sym c.is_connected.ensures ∙ c.if-is_connected.true)
    ∙ sym (node_is c.args.self.now c.args.name)

pub returns-else-is_connected : goal.returns-else-is_connected
returns-else-is_connected c =
    none_there (is_of_kind Vc c.args.name) (course_in c.args.self.now c.args.name) (sym c.is_connected.ensures ∙ c.if-is_connected.false)
    ∙ sym (node_is c.args.self.now c.args.name)
