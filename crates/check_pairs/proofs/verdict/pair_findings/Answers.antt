use Rattle.std.proofs.Common.{◌≡◌, IfOk, sym, ◌∙◌, subst}
use Rattle.check_pairs.proofs.Parts.{edge_is, findings_of, no_edge, no_node, of_edges, of_nodes, of_node_and_edge, of_edge_and_node}
use Rattle.check_pairs.proofs.verdict.pair_findings.Goals as goal

pub returns-in-true-true : goal.returns-in-true-true
returns-in-true-true c = λ cell a b subject.
    let first = c.args.a.now in
    let second = c.args.b.now in
    let found = findings_of cell first.name second.name subject ∙ of_edges cell first.name second.name
    (no_node cell first.name first.record.now a.record_held (sym c.in-true-true.ensures)) in
    subst (λ found. IfOk c.edge_pair.result (λ findings. findings.items ≡ found)) (sym found) (c.edge_pair.ensures cell a b)

pub returns-in-true-false : goal.returns-in-true-false
returns-in-true-false c = λ cell a b subject.
    let first = c.args.a.now in
    let second = c.args.b.now in
    c.new.ensures.items
    ∙ sym (findings_of cell first.name second.name subject ∙ of_edge_and_node cell first.name second.name
    (no_node cell first.name first.record.now a.record_held (sym c.in-true-false.ensures))
    (no_edge cell second.name second.record.now b.record_held (sym c.in-true-false.ensures')))

pub returns-in-false-true : goal.returns-in-false-true
returns-in-false-true c = λ cell a b subject.
    let first = c.args.a.now in
    let second = c.args.b.now in
    let is_edge = sym c.in-false-true.ensures' in
    let found = findings_of cell first.name second.name subject ∙ of_node_and_edge cell first.name second.name
    (no_edge cell first.name first.record.now a.record_held (sym c.in-false-true.ensures))
    (no_node cell second.name second.record.now b.record_held is_edge) in
    subst (λ found. IfOk c.node_and_edge.result (λ findings. findings.items ≡ found)) (sym found)
    (c.node_and_edge.ensures cell a b (edge_is cell second.name second.record.now b.record_held is_edge))

pub returns-in-false-false : goal.returns-in-false-false
returns-in-false-false c = λ cell a b subject.
    let first = c.args.a.now in
    let second = c.args.b.now in
    let found = findings_of cell first.name second.name subject ∙ of_nodes cell first.name second.name
    (no_edge cell first.name first.record.now a.record_held (sym c.in-false-false.ensures))
    (no_edge cell second.name second.record.now b.record_held (sym c.in-false-false.ensures')) in
    subst (λ found. IfOk c.node_pair.result (λ findings. findings.items ≡ found)) (sym found)
    (c.node_pair.ensures cell first.name second.name a.record_held b.record_held)
