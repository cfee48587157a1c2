-- A count of calls, of which one is to fail.
use Rattle.std.specs.Prelude.{ℕ, ◌≡◌, ◌+◌, ◌^◌, min}
use Rattle.enc_outside.specs.declared.calls.Calls.{Calls}

-- the number of the next call, from 1
abbrev pub next_of : Calls → ℕ
next_of calls = calls.done + 1

-- the next call is to fail
abbrev pub IsFailing : Calls → Type 0
IsFailing calls = next_of calls ≡ calls.failing

-- one call later: the same call is to fail
pub record IsNext (old new : Calls) : Type 0 where
  pub counted : next_of new ≡ min (next_of old + 1) (2 ^ 64)
  pub failing : new.failing ≡ old.failing
