use Rattle.std.proofs.Common.{sym, ap, ◌∙◌}
use Rattle.std.specs.Option.{option_map}
use Rattle.frame_spec.specs.RecordFrame.{Field}
use Rattle.update_apply.proofs.FieldWalk.{found_here, found_later}
use Rattle.update_apply.proofs.tags.first_field.Goals as goal

pub returns-then-eq : goal.returns-then-eq
returns-then-eq c =
    let f : Field = record { tag = c.field.result.0; bytes = c.field.result.1.now } in
    ap (option_map (λ (x : Field). x.bytes))
    (sym (found_here c.args.text.now c.args.frame.now.fields c.loop-k.k c.tag.result f c.tag.ensures c.field.ensures (sym c.eq.ensures ∙ c.if-eq.true))
    ∙ c.loop-k.invariant)

pub loop-k-preserved : goal.loop-k-preserved
loop-k-preserved c =
    sym (found_later c.args.text.now c.args.frame.now.fields c.loop-k.k c.tag.result c.tag.ensures (sym c.eq.ensures ∙ c.if-eq.false)) ∙ c.loop-k.invariant
