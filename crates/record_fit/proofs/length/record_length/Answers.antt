use Rattle.std.proofs.Common.{◌+◌, ◌*◌, ◌≤◌, ◌∙◌, ap, subst, arith, List, ℕ, take_all}
use Rattle.std.proofs.Math.Nat.{mul-le-mul_left}
use Rattle.frame_spec.specs.WrittenRecord.{digit_count}
use Rattle.record_fit.specs.Lengths.{saturated, IsSizesOf}
use Rattle.record_fit.proofs.RecordLengths.{sizes_tell, count_within}
use Rattle.record_fit.proofs.length.record_length.Goals as goal

pub with-sizes-requires : goal.with-sizes-requires
with-sizes-requires c = omega (arith, count_within c.args.lengths.now c.loop-field.field-index c.loop-field.sizes c.loop-field.invariant)

pub overflow_mul-sizes : goal.overflow_mul-sizes
overflow_mul-sizes c =
    let few : 4 + c.digit_count.result + c.digit_count-2.result ≤ 44 = omega (arith, c.digit_count.ensures.few, c.digit_count-2.ensures.few) in
    let entries = mul-le-mul_left c.loop-field.sizes.count few in
    omega (arith, count_within c.args.lengths.now c.loop-field.field-index c.loop-field.sizes c.loop-field.invariant)

pub overflow_add-sizes : goal.overflow_add-sizes
overflow_add-sizes c =
    let few : 4 + c.digit_count.result + c.digit_count-2.result ≤ 44 = omega (arith, c.digit_count.ensures.few, c.digit_count-2.ensures.few) in
    let entries = mul-le-mul_left c.loop-field.sizes.count few in
    omega (arith, count_within c.args.lengths.now c.loop-field.field-index c.loop-field.sizes c.loop-field.invariant)

pub returns : goal.returns
returns c =
    let sizes = c.loop-field.sizes in
    let whole = take_all c.loop-field.field-index c.args.lengths.now c.loop-field-test.false in
    c.saturating_add.ensures
    ∙ ap (λ n. saturated (25 + sizes.count * (4 + n + c.digit_count-2.result) + sizes.total)) c.digit_count.ensures.count
    ∙ ap (λ n. saturated (25 + sizes.count * (4 + digit_count sizes.longest + n) + sizes.total)) c.digit_count-2.ensures.count
    ∙ sizes_tell c.args.lengths.now sizes (subst (λ (ns : List ℕ). IsSizesOf ns sizes) whole c.loop-field.invariant)
