use Rattle.std.proofs.Common.{◌≡◌, ◌<◌, sym, ◌∙◌, arith}
use Rattle.picture_places.proofs.Fields.{free_found, none_free, taken_passed}
use Rattle.picture_places.proofs.label.free_field.Goals as goal

pub returns-then-is_free-clause-value : goal.returns-then-is_free-clause-value
returns-then-is_free-clause-value c =
    let within : c.loop-k.k < 1080 = omega (arith, c.loop-k-test.true) in
    sym (free_found c.args.taken.now c.args.home c.loop-k.k within (sym c.is_free.ensures ∙ c.if-is_free.true)) ∙ c.loop-k.invariant

pub loop-k-preserved : goal.loop-k-preserved
loop-k-preserved c =
    let within : c.loop-k.k < 1080 = omega (arith, c.loop-k-test.true) in
    sym (taken_passed c.args.taken.now c.args.home c.loop-k.k within (sym c.is_free.ensures ∙ c.if-is_free.false)) ∙ c.loop-k.invariant

pub returns-clause-value : goal.returns-clause-value
returns-clause-value c =
    let end : c.loop-k.k ≡ 1080 = omega (arith, c.loop-k-test.false, c.loop-k.auto.k-end) in
    sym (none_free c.args.taken.now c.args.home c.loop-k.k end) ∙ c.loop-k.invariant
