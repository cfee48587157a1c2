use Rattle.std.proofs.Common.{◌≡◌, ◌<◌, ◌+◌, ◌++◌, ◌∷◌, [], length, take, subst, sym, ap, ◌∙◌, arith}
use Rattle.std.proofs.lemmas.List.{take_all, take_more}
use Rattle.std.proofs.lemmas.Option.{get_or_from_slice_get}
use Rattle.cell_bench.specs.Ready.{ArePlaces}
use Rattle.cell_bench.proofs.ValidRows.{passed_over, placed, valid_is}
use Rattle.cell_bench.proofs.ready.places_of.Goals as goal
use Rattle.cell_bench.proofs.ready.places_of.Goals.{then-is_valid+in_ok-put_place, else-is_valid}

pub loop-k-preserved : goal.loop-k-preserved
loop-k-preserved c = λ keys is.
    let rows = c.args.rows.now in
    let k = c.loop-k.k in
    let row = c.at-row.result.now in
    let within : k < length rows = omega arith in
    let more : take (k + 1) rows ≡ take k rows ++ row ∷ [] =
    take_more rows k row within ∙ ap (λ r. take k rows ++ r ∷ []) (get_or_from_slice_get rows k row row c.at-row.ensures) in
    let before = c.loop-k.invariant keys is in
    let known = sym (valid_is keys c.args.stale.now row is) ∙ sym c.is_valid.ensures in
    subst (λ first. ArePlaces keys rows first c.if-is_valid.places) (sym more) (elim c.if-is_valid.branch [
      | then-is_valid+in_ok-put_place w ↦
          subst (ArePlaces keys rows (take k rows ++ row ∷ [])) (sym w.places-is)
          (placed keys rows (take k rows) row k c.loop-k.places w.put_place.new.places c.at-row.ensures (known ∙ w.if-is_valid.true)
          w.in_ok-put_place.ensures before)
      | else-is_valid w ↦
          subst (ArePlaces keys rows (take k rows ++ row ∷ [])) (sym w.places-is)
          (passed_over keys rows (take k rows) row c.loop-k.places (known ∙ w.if-is_valid.false) before)
    ])

pub returns : goal.returns
returns c = λ keys is.
    let rows = c.args.rows.now in
    subst (λ first. ArePlaces keys rows first c.loop-k.places) (take_all c.loop-k.k rows (omega arith)) (c.loop-k.invariant keys is)
