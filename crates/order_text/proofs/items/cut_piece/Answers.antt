use Rattle.std.proofs.Common.{◌≡◌, ◌<◌, ◌+◌, ◌∷◌, length, take, drop, arith, sym, ◌∙◌, ap}
use Rattle.text_spec.specs.OrderLine.{pieces}
use Rattle.order_text.proofs.Pieces.{pieces-cut, pieces-whole, space_place}
use Rattle.order_text.proofs.items.cut_piece.Goals as goal

pub returns-then-place-text : goal.returns-then-place-text
returns-then-place-text c = let place = c.place_of-place.ensures.place in let is = c.if-place-text.true in
    pieces-whole c.args.text.now (omega (arith, place, is))

pub returns : goal.returns
returns c =
    let text = c.args.text.now in
    let place = c.place_of-place.result in
    let at : place ≡ space_place text = c.place_of-place.ensures.place in
    let within = c.place_of-place.ensures.within in
    let below : place < length text = omega (arith, within, c.if-place-text.false) in
    let shorter = c.split_at-2.ensures.back_len in (
      pieces-cut text (omega (arith, at, below))
          ∙ ap (λ n. take n text ∷ pieces (drop (n + 1) text)) (sym at)
          ∙ ap (λ t. t ∷ pieces (drop (place + 1) text)) (sym c.split_at.ensures.front)
          ∙ ap (λ t. c.split_at.result.0.now ∷ pieces t) (sym c.split_at-2.ensures.back),
      omega (arith, shorter, below),
    )
