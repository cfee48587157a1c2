use Rattle.std.proofs.Common.{◌++◌, sym, ap, ◌∙◌}
use Rattle.std.proofs.lemmas.List.{append-nil}
use Rattle.check_feature.specs.FeatureFindings.{boundary_findings}
use Rattle.check_feature.proofs.FeatureFindings.{judged_codes, judged_prim, judged_refs, judged_targets, not_judged}
use Rattle.check_feature.proofs.boundary.push_boundary_findings.Goals as goal

pub returns-then-not-may_be_judged : goal.returns-then-not-may_be_judged
returns-then-not-may_be_judged g c = λ cell n keys near is_set found pointers.
    let held = c.args.findings.now.items in
    let none = not_judged cell c.args.feature.now c.as_slice.result.now (c.as_slice.ensures.value ∙ pointers)
    (sym c.may_be_judged.ensures ∙ c.if-not-may_be_judged.true) in
    sym (append-nil held) ∙ ap (λ xs. held ++ xs) (sym none)

pub returns : goal.returns
unfolding boundary_findings
returns g c = λ cell n keys near is_set found pointers.
    let area = c.args.feature.now in
    let held = c.as_slice.result.now in
    let is = c.as_slice.ensures.value ∙ pointers in
    let judged = sym c.may_be_judged.ensures ∙ c.if-not-may_be_judged.false in
    c.in_ok-extend_from_slice.ensures.items
    ∙ ap (λ xs. c.args.findings.now.items ++ xs) (c.deref.ensures.value ∙ c.in_ok-found.ensures cell n keys near is_set found
    (judged_prim cell area held is judged) (judged_refs cell area held is judged) (judged_targets cell area held is judged)
    (judged_codes cell area held is judged))
