use Rattle.std.proofs.Common.{ℕ, ℤ, pos, get_or, rules, refl, SFits, of_z, to_z, w64, arith}
use Rattle.std.proofs.lemmas.Int.{ints}
use Rattle.skin_probe.proofs.Sums.{one_summed}
use Rattle.skin_probe.proofs.sheet.total_of.Goals as goal

pub loop-wind-preserved : goal.loop-wind-preserved
loop-wind-preserved c =
    let wind : ℕ × ℤ = get_or c.args.winds.now c.loop-wind.wind-index (0, pos 0) in
    let one : SFits w64 wind.1 = search rules in
    let next : SFits w64 c.in_ok-total.total = search rules in
    one_summed (λ (w : ℕ × ℤ). w.1) (to_z w64 c.loop-wind.total-bits) (to_z w64 (of_z w64 c.in_ok-total.total)) _ c.args.winds.now
    c.loop-wind.wind-index (0, pos 0) wind.1 c.loop-wind-test.true refl
    (omega (arith, ints, one, next, c.in_ok-total.ensures)) c.loop-wind.invariant
