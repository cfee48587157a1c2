use Rattle.std.proofs.Common.{◌≡◌, length, map, take, filter_map}
use Rattle.text_spec.specs.OrderLine.{first_bad_item, session_of}
use Rattle.order_text.specs.Counts.{AreCounts}
use Rattle.order_text.proofs.Judged.{rest_bad}
use Rattle.order_text.proofs.sessions.read_sessions.Given as goal

abbrev pub invariant-loop-k : goal.invariant-loop-k
invariant-loop-k l = (l.taken.order.items ≡ filter_map (session_of l.quotas) (take l.k (map (λ item. item.now) l.items)))
    × AreCounts l.taken.order.items l.taken.used.items × (length l.taken.used.items ≡ length l.quotas)
    × (rest_bad l.quotas (map (λ item. item.now) l.items) l.k ≡ first_bad_item l.quotas (map (λ item. item.now) l.items))
