use Rattle.std.proofs.Common.{sym, ◌∙◌}
use Rattle.rule_spec.specs.Records.{is_edge_name}
use Rattle.record_store.specs.Stores.{course_in}
use Rattle.affected_subjects.proofs.Vectors.{edge_is, none_there, there_is}
use Rattle.affected_subjects.proofs.edited.Edited.edge.Goals as goal

pub returns-then-is_edge_name : goal.returns-then-is_edge_name
returns-then-is_edge_name c =
    c.vector.ensures
    ∙ there_is (is_edge_name c.args.name) (course_in c.args.self.now c.args.name) (sym c.is_edge_name.ensures ∙ c.if-is_edge_name.true)
    ∙ sym (edge_is c.args.self.now c.args.name)

pub returns-else-is_edge_name : goal.returns-else-is_edge_name
returns-else-is_edge_name c =
    none_there (is_edge_name c.args.name) (course_in c.args.self.now c.args.name) (sym c.is_edge_name.ensures ∙ c.if-is_edge_name.false)
    ∙ sym (edge_is c.args.self.now c.args.name)
