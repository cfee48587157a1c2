use Rattle.std.proofs.Common.{◌≡◌, IfOk, Option, subst, sym, ◌∙◌}
use Rattle.rule_spec.specs.declared.line.EdgeLine.{EdgeLine}
use Rattle.check_pairs.proofs.Parts.{edge_is, has_line, no_edge, no_line}
use Rattle.check_pairs.proofs.part.line_of_part.Goals as goal

pub returns-then-not-is_edge-clause-line : goal.returns-then-not-is_edge-clause-line
returns-then-not-is_edge-clause-line g c = λ n held.
    let cell = g.B.Look.cell c.args.look.now in
    sym (no_line cell n (no_edge cell n c.args.part.now held (sym c.is_edge.ensures ∙ c.if-not-is_edge.true)))

pub returns-clause-line : goal.returns-clause-line
returns-clause-line g c = λ n held.
    let cell = g.B.Look.cell c.args.look.now in
    let is_edge = edge_is cell n c.args.part.now held (sym c.is_edge.ensures ∙ c.if-not-is_edge.false) in
    subst (λ (line : Option EdgeLine). IfOk c.line_of.result (λ l. l ≡ line)) (sym (has_line cell n c.args.part.now is_edge)) c.line_of.ensures.line
