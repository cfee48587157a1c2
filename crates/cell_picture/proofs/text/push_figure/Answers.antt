use Rattle.std.proofs.Common.{◌++◌, ◌∙◌}
use Rattle.std.specs.Prelude.{codes}
use Rattle.cell_picture.specs.ShapeText.{class_word, path_text, record_title, title_text}
use Rattle.std.proofs.lemmas.Result.{on_ok_weaker}
use Rattle.cell_picture.proofs.Pushes.{after}
use Rattle.cell_picture.proofs.text.push_figure.Goals as goal

pub returns : goal.returns
returns c =
    let out = c.args.out.now.items in
    let figure = c.args.figure.now in
    let path = path_text (class_word figure.class) figure.strokes in
    let middle = codes ">" in
    let title = title_text (record_title figure.name) in
    let closing = codes "</path>\n" in
    on_ok_weaker c.push_text-2.result
    (λ last. after out path (middle ++ (title ++ closing)) (c.in_ok-push_path.ensures ∙ (λ i. out ++ path_text (c.word_of.ensures i) (c.as_slice.ensures i)))
    (after c.push_path.new.out.items middle (title ++ closing) c.in_ok-push_text.ensures.ok
    (after c.push_text.new.out.items title closing c.in_ok-push_name_title.ensures last)))
    c.push_text-2.ensures.ok
