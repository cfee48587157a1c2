-- How much of a session is left, where it goes on.
use Rattle.std.proofs.Common.{◌≡◌, ℕ, suc, ◌-◌, ◌<◌, length, ap, sym, subst, arith}
use Rattle.sessions.specs.SessionStates.{IsAt, SessionState, Stops}
use Rattle.sessions.specs.declared.session.Stop.{Stop}
use Rattle.sessions.specs.declared.session.Stop.TheVariants.{Local, Shared, End}

abbrev pub left : SessionState → Stop → ℕ
left s Local = suc (length s.script - length s.done)
left s (Shared shared) = 0
left s End = 0

less_by : (old new : SessionState) (after : Stop) → new.script ≡ old.script → Stops old new after → left new after < left old Local
less_by old new Local same stops = (let all = ap length same in let more = stops.more in let within = stops.within in omega (arith, all, more, within))
less_by old new (Shared shared) same stops = omega arith
less_by old new End same stops = omega arith

pub less_is_left : (old new : SessionState) (before after : Stop) → before ≡ Local → new.script ≡ old.script → Stops old new after
    → left new after < left old before
less_is_left old new before after is same stops = subst (λ stop. left new after < left old stop) (sym is) (less_by old new after same stops)

pub stands_at : (old new : SessionState) (stop : Stop) → Stops old new stop → IsAt new stop
stands_at old new Local stops = tt
stands_at old new (Shared shared) stops = stops
stands_at old new End stops = stops
