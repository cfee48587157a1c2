use Rattle.std.proofs.Common.{◌≤◌, All, subst, ◌∙◌}
use Rattle.gate_turns.proofs.signatures.signatures_of.Goals as goal

-- the lock's own handle gave out one for each thread
pub returns : goal.returns
returns g c =
    let root = c.in_ok-workers.ensures.root in
    let same = c.join_all-in_order.ensures.same in
    subst (λ given. All (λ number. number ≤ given) c.close-value.result.numbers.items) (same.1 ∙ root.1) (c.close-value.ensures.numbers (same.0 ∙ root.0))
