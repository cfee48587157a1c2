use Rattle.std.proofs.Common.{◌++◌}
use Rattle.std.specs.Prelude.{codes}
use Rattle.std.proofs.lemmas.Result.{on_ok_weaker}
use Rattle.cell_picture.proofs.Pushes.{after}
use Rattle.cell_picture.proofs.frame.push_key_entry.Goals as goal

pub returns : goal.returns
returns c =
    let out = c.args.out.now.items in
    let opening = codes "<path class='" in
    let class = c.args.class.now in
    let moved = codes "' d='M " in
    let sample = c.args.sample.now in
    let text = codes "h0'/><text transform='translate(" in
    let place = c.args.place.now in
    let behind = codes ")'>" in
    let name = c.args.name.now in
    let closing = codes "</text>\n" in
    on_ok_weaker c.push_text-9.result
    (λ last. after out opening (class ++ (moved ++ (sample ++ (text ++ (place ++ (behind ++ (name ++ closing))))))) c.in_ok-push_text.ensures.ok
    (after c.push_text.new.out.items class (moved ++ (sample ++ (text ++ (place ++ (behind ++ (name ++ closing)))))) c.in_ok-push_text-2.ensures.ok
    (after c.push_text-2.new.out.items moved (sample ++ (text ++ (place ++ (behind ++ (name ++ closing))))) c.in_ok-push_text-3.ensures.ok
    (after c.push_text-3.new.out.items sample (text ++ (place ++ (behind ++ (name ++ closing)))) c.in_ok-push_text-4.ensures.ok
    (after c.push_text-4.new.out.items text (place ++ (behind ++ (name ++ closing))) c.in_ok-push_text-5.ensures.ok
    (after c.push_text-5.new.out.items place (behind ++ (name ++ closing)) c.in_ok-push_text-6.ensures.ok
    (after c.push_text-6.new.out.items behind (name ++ closing) c.in_ok-push_text-7.ensures.ok
    (after c.push_text-7.new.out.items name closing c.in_ok-push_text-8.ensures.ok last))))))))
    c.push_text-9.ensures.ok
