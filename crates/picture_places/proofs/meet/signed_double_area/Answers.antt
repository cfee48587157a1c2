use Rattle.std.proofs.Common.{◌≡◌, ◌+ℤ◌, ◌∙◌, arith}
use Rattle.std.proofs.lemmas.Int.{ints}
use Rattle.picture_places.proofs.Weights.{round_triangle}
use Rattle.picture_places.proofs.meet.signed_double_area.Goals as goal
use mir.Syntax.{w128}
use mir.Val.{of_z, to_z}

pub returns-clause-value : goal.returns-clause-value
returns-clause-value c =
    let first : to_z w128 (of_z w128 c.area_step.result) ≡ c.area_step.result = omega (arith, ints) in
    let second : to_z w128 (of_z w128 c.area_step-2.result) ≡ c.area_step-2.result = omega (arith, ints) in
    let third : to_z w128 (of_z w128 c.area_step-3.result) ≡ c.area_step-3.result = omega (arith, ints) in
    let two : to_z w128 (of_z w128 c.plus.result) ≡ c.plus.result = omega (arith, ints) in
    let all : to_z w128 (of_z w128 c.plus-2.result) ≡ c.plus-2.result = omega (arith, ints) in
    let sum = two ∙ c.plus.ensures.value ∙ (λ i. (first ∙ c.area_step.ensures.value) i +ℤ (second ∙ c.area_step-2.ensures.value) i) in
    all ∙ c.plus-2.ensures.value ∙ (λ i. sum i +ℤ (third ∙ c.area_step-3.ensures.value) i) ∙ round_triangle c.args.a c.args.b c.args.c
