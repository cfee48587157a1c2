use Rattle.std.proofs.Common.{ap, ◌∙◌}
use Rattle.near_records.specs.Near.{has_key}
use Rattle.check_feature.proofs.NextPlace.{next_place}
use Rattle.check_feature.proofs.naming.push_dangling.Goals as goal

pub loop-k-preserved : goal.loop-k-preserved
loop-k-preserved g c = λ cell keys near read.
    let k = c.loop-k.k in
    let pointer = c.index-pointers-k.result in
    let within = c.loop-k-test.true in
    let is = c.index-pointers-k.is in
    let asked = ap (λ p. has_key keys (g.T.Naming.key p)) is ∙ read k pointer within in
    next_place c.args.kind (g.T.Naming.is_dangling cell) c.args.pointers.now k pointer c.dangles.result c.loop-k.findings.items
    c.push_place_if.new.findings.items _ within (c.dangles.ensures cell keys near asked ∙ ap (g.T.Naming.is_dangling cell) is) c.in_ok-push_place_if.ensures
    (c.loop-k.invariant cell keys near read)
