use Rattle.std.proofs.Common.{◌≡◌, List, Option, None, Some, subst, ap, ◌∙◌}
use Rattle.std.specs.declared.cmp.Ordering.{Ordering}
use Rattle.s57_types.specs.declared.name.RecName.{RecName}
use Rattle.s57_types.specs.declared.name.Lnam.{Lnam}
use Rattle.cell_spec.specs.Lookup.{lookup_identity}
use Rattle.row_spec.specs.Rows.{value_of}
use Rattle.cell_overlay.proofs.Laid.{base_bearers, merged_bearers}
use Rattle.cell_overlay.proofs.overlay.OverlayLook.bearers.Goals as goal

pub returns-in-None-clause-found : goal.returns-in-None-clause-found
returns-in-None-clause-found g c =
    let none : Option (List RecName) = None in c.bearers.ensures.found ∙ base_bearers _ _ _ _ _ c.self.invariant c.untouched_keys_keep_answers.ensures
    c.args.foid (subst (λ (order : Lnam → Lnam → Ordering). none ≡ value_of order c.self.inside.merged.bearers c.args.foid)
    (λ i a b. c.orders_are_by_parts.ensures.identities a b i) c.in-None.ensures) ∙ ap (λ cell. lookup_identity cell c.args.foid) c.self.view_is

pub returns-in-Some-clause-found : goal.returns-in-Some-clause-found
returns-in-Some-clause-found g c =
    c.as_slice.ensures ∙ c.deref.ensures ∙ merged_bearers _ _ _ _ _ c.self.invariant c.edited_answers.ensures c.args.foid c.in-Some.names.now
    (subst (λ (order : Lnam → Lnam → Ordering). Some c.in-Some.names.now ≡ value_of order c.self.inside.merged.bearers c.args.foid)
    (λ i a b. c.orders_are_by_parts.ensures.identities a b i) c.in-Some.ensures) ∙ ap (λ cell. lookup_identity cell c.args.foid) c.self.view_is
