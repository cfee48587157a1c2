use Rattle.std.proofs.Common.{◌∙◌, ◌++◌, ap, map}
use Rattle.rule_spec.specs.declared.kind.TheConstants.{BAD_SHAPE}
use Rattle.rule_spec.specs.Findings.{finding}
use Rattle.rule_spec.specs.Vectors.{bad_shape}
use Rattle.check_record.proofs.Findings.{shape_kinds}
use Rattle.check_record.proofs.vector.shape_findings.Goals as goal

pub returns : goal.returns
returns c = λ cell.
    c.in_ok-push_bad_shape.ensures cell
    ∙ ap (λ xs. xs ++ map (finding BAD_SHAPE) (bad_shape cell c.args.vector.now)) c.new-findings.ensures.items
    ∙ shape_kinds cell c.args.vector.now c.requires.node c.requires.edge
