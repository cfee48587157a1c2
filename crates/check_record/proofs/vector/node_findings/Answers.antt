use Rattle.std.proofs.Common.{◌∙◌}
use Rattle.check_record.proofs.Findings.{node_kinds, two_appended}
use Rattle.check_record.proofs.vector.node_findings.Goals as goal

pub returns : goal.returns
returns c = λ cell. two_appended _ _ _ _ _ c.new-findings.ensures.items (c.in_ok-push_bad_shape.ensures cell)
    (c.in_ok-push_node_pointer.ensures cell) ∙ node_kinds cell c.args.node.now c.requires.kind
