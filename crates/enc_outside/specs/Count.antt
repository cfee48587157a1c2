-- A count of faults. It is kept in 64 bits and stands still at its end.
use Rattle.std.specs.Prelude.{◌≡◌, ℕ, ◌+◌, ◌-◌, ◌^◌, ◌≤◌, min, Result, IsErr, IsOk}

-- the count rose, or stands at its end
abbrev pub Rose : ℕ → ℕ → Type 0
Rose before after = min (before + 1) (2 ^ 64 - 1) ≤ after

-- the count doesn't fall, rose where the call failed, and stays where it didn't
pub record Counts {T E : Type 0} (before after : ℕ) (result : Result T E) : Type 0 where
  pub no_fall : before ≤ after
  pub rise : IsErr result → Rose before after
  pub kept : IsOk result → after ≡ before
