use Rattle.std.proofs.Common.{◌||◌, [], is_some, take, sym, ap, ◌∙◌}
use Rattle.frame_spec.specs.RecordFrame.{Field}
use Rattle.update_spec.specs.ControlFields.{control_in, has_controls}
use Rattle.cell_read.proofs.FieldSteps.{named_more}
use Rattle.update_apply.proofs.tags.has_controls.Goals as goal

pub loop-k-preserved : goal.loop-k-preserved
loop-k-preserved c = let fields = c.args.frame.now.fields in let kind = c.args.kind in
    ap (λ b. b || c.is_some-has_one.result) c.loop-k.invariant
    ∙ ap (λ b. has_controls kind (take c.loop-k.k fields) || b) (c.is_some-has_one.ensures ∙ ap is_some (c.control_in.ensures []))
    ∙ sym (named_more (λ name. let f : Field = record { tag = name; bytes = [] } in is_some (control_in kind f)) fields c.loop-k.k c.tag.result c.tag.ensures)
