use Rattle.std.proofs.Common.{◌≡◌, List, Option, None, Some, subst, ap, ◌∙◌}
use Rattle.std.specs.declared.cmp.Ordering.{Ordering}
use Rattle.s57_types.specs.declared.name.RecName.{RecName}
use Rattle.cell_spec.specs.declared.key.Ref.{Ref}
use Rattle.cell_spec.specs.Lookup.{lookup_pointers}
use Rattle.row_spec.specs.Rows.{value_of}
use Rattle.cell_overlay.proofs.Laid.{base_pointers, merged_pointers}
use Rattle.cell_overlay.proofs.overlay.OverlayLook.refs.Goals as goal

pub returns-in-Some-clause-found : goal.returns-in-Some-clause-found
returns-in-Some-clause-found g c =
    c.as_slice.ensures ∙ c.deref.ensures ∙ merged_pointers _ _ _ _ _ c.self.invariant c.edited_answers.ensures c.args.name c.in-Some.refs.now
    (subst (λ (order : RecName → RecName → Ordering). Some c.in-Some.refs.now ≡ value_of order c.self.inside.merged.pointers c.args.name)
    (λ i a b. c.orders_are_by_parts.ensures.names a b i) c.in-Some.ensures) ∙ ap (λ cell. lookup_pointers cell c.args.name) c.self.view_is

pub returns-in-None-clause-found : goal.returns-in-None-clause-found
returns-in-None-clause-found g c =
    let none : Option (List Ref) = None in c.refs.ensures.found ∙ base_pointers _ _ _ _ _ c.self.invariant c.untouched_keys_keep_answers.ensures c.args.name
    (subst (λ (order : RecName → RecName → Ordering). none ≡ value_of order c.self.inside.merged.pointers c.args.name)
    (λ i a b. c.orders_are_by_parts.ensures.names a b i) c.in-None.ensures) ∙ ap (λ cell. lookup_pointers cell c.args.name) c.self.view_is
