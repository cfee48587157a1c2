use Rattle.std.proofs.Common.{append_assoc}
use Rattle.cell_picture.proofs.frame.push_style.Goals as goal

pub returns : goal.returns
returns c =
    let put = rw (
      c.in_ok-push_text-7.ensures.ok,
      c.in_ok-push_text-6.ensures.ok,
      c.in_ok-push_text-5.ensures.ok,
      c.in_ok-push_text-4.ensures.ok,
      c.in_ok-push_text-3.ensures.ok,
      c.in_ok-push_text-2.ensures.ok,
      c.in_ok-push_text.ensures.ok,
    ) at c.push_text-8.ensures.ok in
    simp append_assoc at put
