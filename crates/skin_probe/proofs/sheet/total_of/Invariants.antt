use Rattle.std.proofs.Common.{◌≡◌, ℕ, ℤ, ◌+ℤ◌, drop}
use Rattle.skin_probe.specs.Winding.{sum_of}
use Rattle.skin_probe.proofs.sheet.total_of.Given as goal

abbrev pub invariant-loop-wind : goal.invariant-loop-wind
invariant-loop-wind l = (l.total +ℤ sum_of (λ (wind : ℕ × ℤ). wind.1) (drop l.wind-index l.winds)) ≡ sum_of (λ (wind : ℕ × ℤ). wind.1) l.winds
