use Rattle.std.proofs.Common.{[], ◌∷◌, sym, ap, ◌∙◌}
use Rattle.s57_types.specs.declared.record.Rec.TheVariants.{H}
use Rattle.s57_types.specs.Heads.{edited_head}
use Rattle.cell_spec.specs.declared.edit.Edit.TheVariants.{Head}
use Rattle.cell_spec.specs.Edits.{apply_edits}
use Rattle.record_store.specs.Lists.{cell_of}
use Rattle.record_store.proofs.OneEdit.{cell_headed, records_headed}
use Rattle.record_store.proofs.records.Records.with_head.Goals as goal

pub returns : goal.returns
returns c =
    let inside = c.self.inside in
    ap (λ h. cell_of h inside.lists) (c.in_ok-make.ensures ∙ c.in_ok-head.ensures ∙ ap (edited_head c.args.values.now) c.deref.ensures)
    ∙ cell_headed c.args.values.now inside.head inside.lists
    ∙ ap (apply_edits (Head c.args.values.now ∷ [])) c.self.view_is

pub invariant_of-result : goal.invariant_of-result
invariant_of-result c =
    let inside = c.self.inside in (
      records_headed inside.head c.in_ok-make.field-0 inside.names inside.lists c.self.invariant.0,
      c.in_ok-make-2.ensures ∙ c.in_ok-named_head.ensures ∙ ap H (c.in_ok-copy.ensures ∙ sym c.in_ok-make.ensures),
    )
