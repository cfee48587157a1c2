-- The order of a drill: every session in turn, as often as a generated script has views and commits. This project's own.
use Rattle.std.specs.Prelude.{ℕ, List}
use Rattle.std.specs.List.{flat_map, range_with_len}

-- so many sessions, by number from 1 on, in so many turns
abbrev pub in_turns : ℕ → ℕ → List ℕ
in_turns sessions turns = flat_map (λ turn. range_with_len 1 sessions) (range_with_len 0 turns)

-- a generated script has a view and a commit in each of its ten rounds
abbrev pub turn_count : ℕ
turn_count = 20

unfoldable pub round_robin : ℕ → List ℕ
round_robin sessions = in_turns sessions turn_count
