use Rattle.std.proofs.Common.{◌≡◌, ◌++◌, List, filter, subst, sym, ap, ◌∙◌}
use Rattle.std.specs.Prelude.{flat_map, filter_map}
use Rattle.std.specs.declared.cmp.Ordering.{Ordering}
use Rattle.s57_types.specs.declared.name.RecName.{RecName}
use Rattle.cell_spec.specs.declared.edit.Edit.{Edit}
use Rattle.cell_spec.specs.declared.key.Ref.{Ref}
use Rattle.cell_spec.specs.Ascending.{ascending}
use Rattle.cell_spec.specs.Edits.{left_by}
use Rattle.cell_spec.specs.Lookup.{pointers_in}
use Rattle.cell_spec.specs.Names.{ref_order}
use Rattle.cell_spec.proofs.Orders.{total_refs, exact_refs}
use Rattle.chain_topo.specs.Listed.{values_at}
use Rattle.answer_laws.specs.EditedAnswers.{is_unedited, pointers_after}
use Rattle.edit_answers.proofs.Unedited.{ascending_again}
use Rattle.edit_answers.proofs.after.EditAnswers.pointers_after.Goals as goal

pub distinct-requires : goal.distinct-requires
distinct-requires c = record { exact = λ a b e. exact_refs a b (sym (c.orders_are_by_parts.ensures.refs a b) ∙ e) }

pub returns : goal.returns
returns c =
    let edits = c.self.inside.edits.now.edits in
    let kept : List Ref = filter (λ (r : Ref). is_unedited edits r.from) c.args.before.now in
    let left : List Ref = flat_map (pointers_in c.args.name) (filter_map left_by edits) in
    let values = subst (λ (order : RecName → RecName → Ordering). c.values_of.result.now ≡ values_at order c.self.inside.pointers c.args.name)
    (λ i a b. c.orders_are_by_parts.ensures.names a b i) c.values_of.ensures in
    let first = c.in_ok-list.ensures ∙ ap (λ (those : List Edit). filter (λ (r : Ref). is_unedited those r.from) c.args.before.now)
    (ap (λ v. v.edits) (sym c.self.view_is)) in
    let all : c.extend_from_slice.new.self.items ≡ kept ++ ascending ref_order left =
    c.in_ok-extend_from_slice.ensures.items ∙ (λ i. first i ++ (values ∙ c.self.invariant.pointers_are c.args.name) i) in
    let made = subst (λ (order : Ref → Ref → Ordering). c.distinct.result.items ≡ ascending order c.extend_from_slice.new.self.items)
    (λ i a b. c.orders_are_by_parts.ensures.refs a b i) c.distinct.ensures in
    c.of_vec.ensures ∙ made ∙ ap (ascending ref_order) all ∙ ascending_again ref_order total_refs exact_refs kept left
    ∙ ap (λ v. pointers_after v.edits c.args.name c.args.before.now) c.self.view_is
