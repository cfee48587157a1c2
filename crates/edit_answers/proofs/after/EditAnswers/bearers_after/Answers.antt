use Rattle.std.proofs.Common.{◌≡◌, ◌++◌, List, filter, map, subst, sym, ap, ◌∙◌}
use Rattle.std.specs.Prelude.{filter_map}
use Rattle.std.specs.declared.cmp.Ordering.{Ordering}
use Rattle.s57_types.specs.declared.name.RecName.{RecName}
use Rattle.s57_types.specs.declared.name.Lnam.{Lnam}
use Rattle.cell_spec.specs.declared.edit.Edit.{Edit}
use Rattle.cell_spec.specs.Ascending.{ascending}
use Rattle.cell_spec.specs.Edits.{left_by}
use Rattle.cell_spec.specs.Lookup.{bears, name_of}
use Rattle.cell_spec.specs.Names.{name_order}
use Rattle.cell_spec.proofs.Orders.{total_names, exact_names}
use Rattle.chain_topo.specs.Listed.{values_at}
use Rattle.answer_laws.specs.EditedAnswers.{is_unedited, bearers_after}
use Rattle.edit_answers.proofs.Unedited.{ascending_again}
use Rattle.edit_answers.proofs.after.EditAnswers.bearers_after.Goals as goal

pub returns : goal.returns
returns c =
    let edits = c.self.inside.edits.now.edits in
    let kept : List RecName = filter (is_unedited edits) c.args.before.now in
    let left : List RecName = map name_of (filter (bears c.args.foid) (filter_map left_by edits)) in
    let values = subst (λ (order : Lnam → Lnam → Ordering). c.values_of.result.now ≡ values_at order c.self.inside.bearers c.args.foid)
    (λ i a b. c.orders_are_by_parts.ensures.identities a b i) c.values_of.ensures in
    let first = c.in_ok-list.ensures ∙ ap (λ (those : List Edit). filter (is_unedited those) c.args.before.now) (ap (λ v. v.edits) (sym c.self.view_is)) in
    let all : c.extend_from_slice.new.self.items ≡ kept ++ ascending name_order left =
    c.in_ok-extend_from_slice.ensures.items ∙ (λ i. first i ++ (values ∙ c.self.invariant.bearers_are c.args.foid) i) in
    c.ascending_names.ensures ∙ ap (ascending name_order) all ∙ ascending_again name_order total_names exact_names kept left
    ∙ ap (λ v. bearers_after v.edits c.args.foid c.args.before.now) c.self.view_is
