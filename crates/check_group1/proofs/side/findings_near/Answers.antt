use Rattle.std.proofs.Common.{◌≡◌, true, [], List, IfOk, cond, filter_map, sym, ap, subst, ◌∙◌}
use Rattle.std.specs.List.{All}
use Rattle.cell_spec.specs.declared.finding.Finding.{Finding}
use Rattle.cell_spec.specs.declared.key.Key.TheVariants.{Name}
use Rattle.cell_spec.specs.declared.key.Ref.{Ref}
use Rattle.cell_spec.specs.declared.key.Subject.TheVariants.{Side}
use Rattle.near_records.specs.Near.{has_key}
use Rattle.near_records.proofs.ReadKeys.{edge_is_read, referrers_are_read}
use Rattle.rule_spec.specs.Findings.{findings_about, findings_of_subject}
use Rattle.rule_spec.specs.Sides.{use_by, uses_of}
use Rattle.check_group1.proofs.side.findings_near.Goals as goal

pub returns-then-not-is_edge : goal.returns-then-not-is_edge
unfolding findings_of_subject
returns-then-not-is_edge g c = λ cell keys near is_set are.
    let name = c.args.name in
    let none = sym (c.is_edge.ensures cell keys near (edge_is_read cell name keys is_set)) ∙ c.if-not-is_edge.true in
    c.new.ensures.items ∙ ap (λ b. cond b (findings_about cell (Side name)) []) (sym none)

pub returns : goal.returns
unfolding findings_of_subject uses_of
returns g c = λ cell keys near is_set are.
    let name = c.args.name in
    let some = sym (c.is_edge.ensures cell keys near (edge_is_read cell name keys is_set)) ∙ c.if-not-is_edge.false in
    let asked = subst (λ (rs : List Ref). All (λ (r : Ref). has_key keys (Name r.from) ≡ true) rs) (sym are) (referrers_are_read cell name keys is_set) in
    let uses = c.deref.ensures.value ∙ c.in_ok-uses.ensures cell keys near asked ∙ ap (filter_map (use_by cell)) are in
    subst (λ (fs : List Finding). IfOk c.side_findings.result (λ findings. findings.items ≡ fs))
    (ap (λ b. cond b (findings_about cell (Side name)) []) (sym some)) (c.side_findings.ensures cell name uses)
