use Rattle.std.proofs.Common.{◌++◌, ◌∙◌}
use Rattle.std.specs.Prelude.{codes}
use Rattle.std.proofs.lemmas.Result.{on_ok_weaker}
use Rattle.cell_picture.proofs.Pushes.{after}
use Rattle.draw_top.specs.Endings.{numbered}
use Rattle.draw_top.proofs.ending.push_bad_cell.Goals as goal

pub returns : goal.returns
returns c =
    let out = c.args.out.now.items in
    let fault = c.args.fault in
    let opening = codes "enc_draw: bad cell" in
    let record_number = numbered (codes "record") fault.number in
    let offset = numbered (codes "offset") fault.offset in
    let code = numbered (codes "code") fault.code in
    let closing = codes "\n" in
    on_ok_weaker c.push_text-2.result
    (λ last. after out opening (record_number ++ (offset ++ (code ++ closing))) c.in_ok-push_text.ensures.ok
    (after c.push_text.new.out.items record_number (offset ++ (code ++ closing)) c.in_ok-push_numbered.ensures.ok
    (after c.push_numbered.new.out.items offset (code ++ closing) c.in_ok-push_numbered-2.ensures.ok
    (after c.push_numbered-2.new.out.items code closing
    (c.in_ok-push_numbered-3.ensures.ok ∙ (λ i. c.push_numbered-2.new.out.items ++ numbered (codes "code") (c.from.ensures i))) last))))
    c.push_text-2.ensures.ok
