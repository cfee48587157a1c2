-- Requests of several sessions, one after the other.
use Rattle.std.specs.Prelude.{ℕ, ◌==◌, List, map, filter}
use Rattle.history_spec.specs.Sessions.{Request}

-- of which session each request is
abbrev pub sessions_of : List (ℕ × Request) → List ℕ
sessions_of = map (λ (r : ℕ × Request). r.0)

-- the requests of one session among those of all, in their order
abbrev pub requests_by : ℕ → List (ℕ × Request) → List Request
requests_by session requests = map (λ (r : ℕ × Request). r.1) (filter (λ (r : ℕ × Request). r.0 == session) requests)
