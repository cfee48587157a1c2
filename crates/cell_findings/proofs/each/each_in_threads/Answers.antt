use Rattle.std.proofs.Common.{ap, ◌∙◌}
use Rattle.cell_findings.proofs.Collected.{all_ok}
use Rattle.cell_findings.proofs.each.each_in_threads.Goals as goal

pub returns : goal.returns
returns g c =
    let told = c.in_ok-answers.ensures in
    let chain = rw (c.map.ensures.base, c.map.ensures.f) at told.1 in
    let slice = ap (λ it. it.slice.now) c.with_min_len.ensures.base ∙ c.par_iter.ensures in
    let each = all_ok _ (λ b answer. g.F.Fn.post c.args.ask (b, tt) answer) chain.0 told.0 chain.2 c.in_ok-answers.answers told.2 c.in_ok-answers-2.field-0
    c.in_ok-answers-2.was in
    (chain.0, chain.1 ∙ slice, each)
