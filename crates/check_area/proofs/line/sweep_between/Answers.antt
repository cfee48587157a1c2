use Rattle.std.proofs.Common.{◌≡◌, ◌+ℤ◌, sym, ◌∙◌, arith}
use Rattle.std.proofs.lemmas.Int.{ints}
use Rattle.geometry_spec.specs.Areas.{twice_area_step}
use Rattle.check_area.proofs.Turns.{between_is}
use Rattle.check_area.proofs.line.sweep_between.Goals as goal
use mir.Syntax.{w128}
use mir.Val.{of_z, to_z}

pub returns : goal.returns
returns c =
    let whole = c.in_ok-whole.whole.swept in
    let kept : to_z w128 (of_z w128 whole) ≡ whole = omega (arith, ints) in
    let inner = c.in_ok-inner.ensures in
    sym (between_is c.args.begins c.args.ends c.args.points.now _
    (kept ∙ c.in_ok-whole.ensures.swept ∙ (λ i. inner.swept i +ℤ twice_area_step (inner.at i) c.args.ends.at)))
