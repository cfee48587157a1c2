use Rattle.std.proofs.Common.{All, map, flat_map, subst, sym, ap, ◌∙◌}
use Rattle.std.specs.Borrow.{Bor}
use Rattle.std.specs.List.Sorted.{IsStrictlySortedBy}
use Rattle.std.proofs.lemmas.Result.{IfOk-weaker}
use Rattle.s57_types.specs.declared.record.Rec.{Rec}
use Rattle.cell_spec.specs.Ascending.{ascending}
use Rattle.cell_spec.specs.Edits.{keys_answered_by}
use Rattle.cell_spec.specs.Lookup.{all_records}
use Rattle.cell_spec.specs.Names.{key_order}
use Rattle.cell_spec.proofs.Ascending.{sorted-ascending}
use Rattle.cell_spec.proofs.Orders.{total_keys}
use Rattle.chain_topo.specs.Listed.{HasFewPointers}
use Rattle.chain_topo.proofs.PointerCounts.{all_have_few_pointers}
use Rattle.chain_topo.specs.Listed.{AreBearersOf, ArePointersOf}
use Rattle.record_store.specs.declared.answers.Answers.{Answers}
use Rattle.record_store.proofs.Unlisted.{all_answered}
use Rattle.record_store.proofs.load.answers_of.Goals as goal

pub group_pointers-requires : goal.group_pointers-requires
group_pointers-requires c =
    subst (All (λ (r : Bor Rec). HasFewPointers r.now)) (sym c.deref.ensures.value)
    (all_have_few_pointers c.args.cell.now.head.nall (all_records c.args.cell.now) c.in_ok-records.records.items c.in_ok-records.ensures c.requires.fit)

pub filled-requires : goal.filled-requires
filled-requires c =
    subst (IsStrictlySortedBy key_order) (sym (c.as_slice.ensures ∙ c.in_ok-keys.ensures)) (sorted-ascending key_order total_keys
    (flat_map keys_answered_by (map (λ (r : Bor Rec). r.now) c.deref-3.result.now)))

pub returns : goal.returns
returns c =
    let cell = c.args.cell.now in
    let listed = c.as_slice.ensures ∙ c.in_ok-keys.ensures
    ∙ ap (λ rs. ascending key_order (flat_map keys_answered_by rs)) (ap (map (λ (r : Bor Rec). r.now)) c.deref-3.ensures.value ∙ c.in_ok-records.ensures) in
    let pointers = subst (λ rs. ArePointersOf rs c.in_ok-pointers.pointers) (ap (map (λ (r : Bor Rec). r.now)) c.deref.ensures.value
    ∙ c.in_ok-records.ensures) c.in_ok-pointers.ensures in
    let bearers = subst (λ rs. AreBearersOf rs c.in_ok-bearers.bearers) (ap (map (λ (r : Bor Rec). r.now)) c.deref-2.ensures.value
    ∙ c.in_ok-records.ensures) c.in_ok-bearers.ensures in
    IfOk-weaker _ _ _
    (λ (answers : Answers) put. all_answered cell c.as_slice.result.now c.in_ok-pointers.pointers c.in_ok-bearers.bearers
    answers.pointers answers.bearers listed pointers bearers put)
    c.filled.ensures
