-- Texts that are orders, and texts that aren't.
use Rattle.std.specs.Prelude.{◌≡◌, ℕ, List, [], ◌∷◌, ◌++◌, map, Result, Ok, Err, codes}
use Rattle.text_spec.specs.OrderLine.{order_of, order_line}
use Rattle.history_samples.specs.Lines.{fed}

-- with two shared commands of the first session and four of the second
abbrev pub two_and_four : List ℕ → Result (List ℕ) ℕ
two_and_four = order_of (2 ∷ 4 ∷ [])

abbrev pub OrdersAreTaken : Type 0
OrdersAreTaken =
    (two_and_four (fed (codes "order 1 2 1 2 2 2")) ≡ Ok (1 ∷ 2 ∷ 1 ∷ 2 ∷ 2 ∷ 2 ∷ [])) ×
    (order_of (0 ∷ []) (fed (codes "order")) ≡ Ok []) ×
    (order_line (1 ∷ 2 ∷ 16 ∷ []) ≡ fed (codes "order 1 2 16"))

-- too short, a session that isn't there, one command too many, leading zeros, a second space, an early or a missing line feed, bytes after it
abbrev pub OrdersAreRefused : Type 0
OrdersAreRefused =
    (map two_and_four (
    fed (codes "order 1 2 1 2 2") ∷ fed (codes "order 3") ∷ [] ∷ codes "orde" ∷ fed (codes "order 1 1 1 2 2 2") ∷ fed (codes "order 01") ∷
    fed (codes "order 1  2") ∷ fed (codes "order 1 2 1 2 2 2 ") ∷ codes "order 1 2 1 2 2 2" ∷ fed (fed (codes "order 1 2 1 2 2 2")) ∷ fed (codes "order 0") ∷
    fed (codes "order") ∷ (fed (codes "order 1 2") ++ codes " 1 2 2 2") ∷ [])
    ≡ Err 6 ∷ Err 1 ∷ Err 0 ∷ Err 0 ∷ Err 3 ∷ Err 1 ∷ Err 2 ∷ Err 7 ∷ Err 7 ∷ Err 7 ∷ Err 1 ∷ Err 1 ∷ Err 3 ∷ []) ×
    (map (order_of (0 ∷ [])) (fed (codes "orders") ∷ codes "order" ∷ fed (codes "order 1") ∷ []) ≡ Err 1 ∷ Err 1 ∷ Err 1 ∷ [])
