use Rattle.std.proofs.Common.{ap, ◌∙◌}
use Rattle.cell_spec.specs.Lookup.{lookup_record}
use Rattle.cell_overlay.proofs.Laid.{base_named, left_named}
use Rattle.cell_overlay.proofs.overlay.OverlayLook.get.Goals as goal

pub returns-in-Some-clause-found : goal.returns-in-Some-clause-found
returns-in-Some-clause-found g c =
    c.left_under.ensures ∙ left_named _ _ _ _ _ c.self.invariant c.edits_leave_their_records.ensures c.args.name c.in-Some.edit.now c.in-Some.ensures
    ∙ ap (λ cell. lookup_record cell c.args.name) c.self.view_is

pub returns-in-None-clause-found : goal.returns-in-None-clause-found
returns-in-None-clause-found g c =
    c.get.ensures.found ∙ base_named _ _ _ _ _ c.self.invariant c.edits_leave_their_records.ensures c.args.name c.in-None.ensures
    ∙ ap (λ cell. lookup_record cell c.args.name) c.self.view_is
