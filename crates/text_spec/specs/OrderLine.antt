-- The order line of a report: of which session each shared command was. This project's own text.
use Rattle.std.specs.Prelude.{◌≡◌, ℕ, ◌≤◌, ◌+◌, ◌-◌, ◌==◌, ◌&&◌, Bool, true, nat_eq, nat_le, List, [], ◌∷◌, map, length, take, drop, find, codes, count_by}
use Rattle.std.specs.Prelude.{slice_index_or, All, Option, None, Some, Result, Ok, Err, if◌then◌else◌}
use Rattle.std.specs.Fmt.{decimal}
use Rattle.std.specs.List.{range_with_len, filter_map, list_all, position_or_len}
use Rattle.std.specs.Option.{option_map_or}
use Rattle.std.specs.Cmp.Lexicographic.{pointwise}
use Rattle.text_spec.specs.Lines.{line}

abbrev pub order_line : List ℕ → List ℕ
order_line order = line (codes "order") (map decimal order)

-- how many shared commands a session has, counted from 1
abbrev pub quota_of : List ℕ → ℕ → ℕ
quota_of quotas i = slice_index_or quotas (i - 1) 0

-- an order has the number of each session as often as the session has shared commands, and nothing else
pub record IsOrder (quotas : List ℕ) (order : List ℕ) : Type 0 where
  pub sessions : All (λ i. (1 ≤ i) × (i ≤ length quotas)) order
  pub each : (i : ℕ) → 1 ≤ i → i ≤ length quotas → count_by (λ other. other == i) order ≡ quota_of quotas i

-- a byte put before the first of some pieces
abbrev pub with_byte : ℕ → List (List ℕ) → List (List ℕ)
with_byte c [] = (c ∷ []) ∷ []
with_byte c (piece ∷ pieces) = (c ∷ piece) ∷ pieces

-- a text cut at its spaces; there is one piece more than spaces
abbrev pub pieces : List ℕ → List (List ℕ)
pieces [] = [] ∷ []
pieces (c ∷ text) = if c == 32 then [] ∷ pieces text else with_byte c (pieces text)

-- the bytes before the first line feed, or all, and those from it on
abbrev pub before_feed : List ℕ → List ℕ
before_feed text = take (position_or_len (λ c. c == 10) text) text

abbrev pub from_feed : List ℕ → List ℕ
from_feed text = drop (position_or_len (λ c. c == 10) text) text

-- the items behind `order`: the first directly follows it
abbrev pub items_among : List (List ℕ) → List (List ℕ)
items_among [] = []
items_among (first ∷ others) = if length first == 0 then others else []

abbrev pub order_items : List ℕ → List (List ℕ)
order_items behind = items_among (pieces (before_feed behind))

-- the session that an item names
abbrev pub session_of : List ℕ → List ℕ → Option ℕ
session_of quotas word = find (λ i. pointwise nat_eq (decimal i) word) (range_with_len 1 (length quotas))

-- an item is bad where it names no session, or the items before it have used all of the session's shared commands
abbrev pub is_bad_session : List ℕ → List ℕ → Option ℕ → Bool
is_bad_session quotas earlier None = true
is_bad_session quotas earlier (Some i) = nat_le (quota_of quotas i) (count_by (λ other. other == i) earlier)

abbrev pub is_bad_item : List ℕ → List (List ℕ) → ℕ → Bool
is_bad_item quotas items place = is_bad_session quotas (filter_map (session_of quotas) (take (place - 1) items))
    (session_of quotas (slice_index_or items (place - 1) []))

abbrev pub first_bad_item : List ℕ → List (List ℕ) → Option ℕ
first_bad_item quotas items = find (is_bad_item quotas items) (range_with_len 1 (length items))

-- what follows the last of so many items, or `order` where there is none, is exactly one line feed
abbrev pub ends_well : List ℕ → ℕ → Bool
ends_well behind count = pointwise nat_eq (10 ∷ []) (if count == 0 then behind else from_feed behind)

-- whether sessions have used all shared commands
abbrev pub are_all_used : List ℕ → List ℕ → Bool
are_all_used quotas sessions = list_all (λ i. nat_le (quota_of quotas i) (count_by (λ other. other == i) sessions)) (range_with_len 1 (length quotas))

-- the order of these sessions, or the place behind its end
abbrev pub ended_order : List ℕ → List ℕ → List (List ℕ) → List ℕ → Result (List ℕ) ℕ
ended_order quotas behind items sessions = if are_all_used quotas sessions && ends_well behind (length items) then Ok sessions else Err (length items + 1)

-- the order that the items are, or their first bad place
abbrev pub order_among : List ℕ → List ℕ → List (List ℕ) → Result (List ℕ) ℕ
order_among quotas behind items = option_map_or Err (first_bad_item quotas items) (ended_order quotas behind items (filter_map (session_of quotas) items))

-- the order that a text is, or its first bad place: 0 where it doesn't begin with `order`
unfoldable pub order_of : List ℕ → List ℕ → Result (List ℕ) ℕ
order_of quotas text = if pointwise nat_eq (codes "order") (take 5 text) then order_among quotas (drop 5 text) (order_items (drop 5 text)) else Err 0
