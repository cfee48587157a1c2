use Rattle.std.proofs.Common.{◌≡◌, ℕ, List}
use Rattle.text_spec.specs.OrderLine.{are_all_used}
use Rattle.order_text.specs.Counts.{AreCounts}
use Rattle.order_text.proofs.Judged.{rest_used}
use Rattle.order_text.proofs.sessions.are_all_used.Given as goal

abbrev pub invariant-loop-k : goal.invariant-loop-k
invariant-loop-k l = (order : List ℕ) → AreCounts order l.used → rest_used l.quotas order l.k ≡ are_all_used l.quotas order
