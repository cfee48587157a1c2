use Rattle.std.proofs.Common.{◌≡◌, true, false, sym, ◌∙◌}
use Rattle.frame_spec.specs.RecordFrame.{Field}
use Rattle.file_spec.specs.FieldTags.{is_tagged}
use Rattle.cell_read.proofs.FieldSteps.{at_tag}
use Rattle.update_apply.proofs.FieldWalk.{name_is, on_ok, other_tag, same_tag, rows_elsewhere, rows_grown}
use Rattle.update_apply.proofs.given.append_tagged.Goals as goal

pub returns-then-ne : goal.returns-then-ne
returns-then-ne g c = let fields = c.args.frame.now.fields in let k = c.args.k in let content = g.T.Given.content c.args.level in
    at_tag fields k c.tag.result c.tag.ensures (λ f here named.
    let other : is_tagged c.args.tag f ≡ false =
    other_tag c.args.tag f c.tag.result c.tag_text.result c.ne.result named c.tag_text.ensures c.ne.ensures c.if-ne.true in
    c.requires.rows ∙ sym (rows_elsewhere c.args.tag content fields k f here other))

pub returns : goal.returns
returns g c = let fields = c.args.frame.now.fields in let k = c.args.k in let content = g.T.Given.content c.args.level in
    let f : Field = record { tag = c.field.result.0; bytes = c.field.result.1.now } in
    let here : is_tagged c.args.tag f ≡ true = same_tag c.args.tag f c.tag.result c.tag_text.result c.ne.result
    (name_is fields k c.tag.result f c.tag.ensures c.field.ensures) c.tag_text.ensures c.ne.ensures c.if-ne.false in
    on_ok c.append_field.result c.append_field.ensures
    (λ is. rows_grown c.args.tag content fields k f c.field.ensures c.args.rows.now.items c.append_field.new.rows.items c.requires.rows here is)
