use Rattle.std.proofs.Common.{◌++◌}
use Rattle.std.specs.Prelude.{codes}
use Rattle.cell_picture.specs.ShapeText.{pair_text}
use Rattle.std.proofs.lemmas.Result.{on_ok_weaker}
use Rattle.cell_picture.proofs.Pushes.{after}
use Rattle.cell_picture.proofs.text.push_text_at.Goals as goal

pub returns : goal.returns
returns c =
    let out = c.args.out.now.items in
    let class = c.args.class.now in
    let middle = codes "' transform='translate(" in
    let place = pair_text c.args.x c.args.y in
    let closing = codes ")'>" in
    on_ok_weaker c.push_text-4.result
    (λ last. after out (codes "<text class='") (class ++ (middle ++ (place ++ closing))) c.in_ok-push_text.ensures.ok
    (after c.push_text.new.out.items class (middle ++ (place ++ closing)) c.in_ok-push_text-2.ensures.ok
    (after c.push_text-2.new.out.items middle (place ++ closing) c.in_ok-push_text-3.ensures.ok
    (after c.push_text-3.new.out.items place closing c.in_ok-push_pair.ensures last))))
    c.push_text-4.ensures.ok
