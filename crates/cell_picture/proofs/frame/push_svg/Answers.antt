use Rattle.std.proofs.Common.{◌++◌, ◌/◌, ◌∙◌}
use Rattle.std.specs.Prelude.{codes}
use Rattle.std.specs.Fmt.{decimal}
use Rattle.picture_places.specs.declared.page.TheConstants.{PAGE_WIDTH}
use Rattle.cell_picture.specs.Picture.{page_height}
use Rattle.cell_picture.specs.ShapeText.{pair_text}
use Rattle.std.proofs.lemmas.Result.{on_ok_weaker}
use Rattle.cell_picture.proofs.Pushes.{after}
use Rattle.cell_picture.proofs.frame.push_svg.Goals as goal

pub returns : goal.returns
returns c =
    let out = c.args.out.now.items in
    let high = page_height c.args.total in
    let first = codes "<svg xmlns='http://www.w3.org/2000/svg' width='1200' height='" in
    let height = decimal (high / 10) in
    let second = codes "' viewBox='0 0" in
    let size = pair_text PAGE_WIDTH high in
    let closing = codes "'>\n" in
    on_ok_weaker c.push_text-4.result
    (λ last. after out first (height ++ (second ++ (size ++ closing))) c.in_ok-push_text.ensures.ok
    (after c.push_text.new.out.items height (second ++ (size ++ closing))
    (c.in_ok-push_text-2.ensures.ok ∙ (λ i. c.push_text.new.out.items ++ c.format.ensures.text i)
    ∙ (λ i. c.push_text.new.out.items ++ decimal (c.page_height-height.ensures i / 10)))
    (after c.push_text-2.new.out.items second (size ++ closing) c.in_ok-push_text-3.ensures.ok
    (after c.push_text-3.new.out.items size closing
    (c.in_ok-push_pair.ensures ∙ (λ i. c.push_text-3.new.out.items ++ pair_text PAGE_WIDTH (c.page_height-height.ensures i))) last))))
    c.push_text-4.ensures.ok
