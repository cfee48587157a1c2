use Rattle.std.proofs.Common.{◌||◌, nat_eq, take, sym, ap, ◌∙◌}
use Rattle.std.specs.List.{list_any}
use Rattle.std.specs.Cmp.Lexicographic.{pointwise}
use Rattle.frame_spec.specs.RecordFrame.{Field}
use Rattle.cell_read.proofs.FieldSteps.{named_more}
use Rattle.cell_read.proofs.tags.stands_before.Goals as goal

pub loop-j-preserved : goal.loop-j-preserved
loop-j-preserved c = let fields = c.args.frame.now.fields in
    ap (λ b. b || c.is_text-stands.result) c.loop-j.invariant
    ∙ ap (λ b. list_any (λ (f : Field). pointwise nat_eq f.tag c.args.text.now) (take c.loop-j.j fields) || b) c.is_text-stands.ensures
    ∙ sym (named_more (λ name. pointwise nat_eq name c.args.text.now) fields c.loop-j.j c.tag.result c.tag.ensures)
