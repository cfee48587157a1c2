use Rattle.std.proofs.Common.{◌≡◌, ◌∙◌, IfOk, subst, sym}
use Rattle.check_pairs.proofs.Places.{contacts_found}
use Rattle.check_pairs.proofs.finding.edge_pair.Goals as goal

pub returns-in-Some-Some : goal.returns-in-Some-Some
returns-in-Some-Some c = λ cell a b.
    let found = contacts_found cell c.args.a.now.name c.args.b.now.name c.in-Some-Some.first c.in-Some-Some.second
    (sym a.line_held ∙ c.in-Some-Some.is-0) (sym b.line_held ∙ c.in-Some-Some.is-1) in
    subst (λ found. IfOk c.line_pair.result (λ findings. findings.items ≡ found)) (sym found) c.line_pair.ensures
