use Rattle.std.proofs.Common.{◌+◌, List, sym, subst, ◌∙◌}
use Rattle.check_area.specs.declared.part.BoundaryEdge.{BoundaryEdge}
use Rattle.check_area.proofs.Places.{IsSoFar, place_refused, place_taken}
use Rattle.check_area.proofs.area.parts_of.Goals as goal

pub returns-in_default : goal.returns-in_default
returns-in_default g c = λ cell keys near asks.
    let places = c.args.places.now in
    let k = c.loop-k.k in
    let within = c.loop-k-test.true in
    let so_far = c.loop-k.invariant cell keys near asks in
    let found = c.in_ok-part.ensures.part cell keys near (asks k _ within) so_far.held in
    place_refused cell c.loop-k.known c.loop-k.parts.items k places _ _ within so_far c.in_ok-place.ensures (sym c.in_default.is ∙ found)

pub loop-k-preserved : goal.loop-k-preserved
loop-k-preserved g c = λ cell keys near asks.
    let places = c.args.places.now in
    let k = c.loop-k.k in
    let within = c.loop-k-test.true in
    let so_far = c.loop-k.invariant cell keys near asks in
    let found = c.in_ok-part.ensures.part cell keys near (asks k _ within) so_far.held in
    let held = c.in_ok-part.ensures.known cell keys near (asks k _ within) so_far.held in
    subst (λ (parts : List BoundaryEdge). IsSoFar cell c.part_at.new.known parts (k + 1) places) (sym c.in_ok-push.ensures.items)
    (place_taken cell c.loop-k.known c.part_at.new.known c.loop-k.parts.items k places _ _ c.in-Some.part within so_far held c.in_ok-place.ensures
    (sym c.in-Some.is ∙ found))
