use Rattle.std.proofs.Common.{◌≡◌, ◌++◌, arith, sym, ap, subst, ◌∙◌}
use Rattle.cell_spec.specs.Lookup.{all_records}
use Rattle.row_spec.proofs.Runs.{nil_from_length}
use Rattle.record_store.specs.Lists.{empty_of}
use Rattle.record_store.proofs.Loaded.{IsLeft, all_added, loaded_cell, loaded_fits, one_fits, own_kinds, rest_left}
use Rattle.record_store.proofs.records.Records.load.Goals as goal

pub loop-rec-init : goal.loop-rec-init
loop-rec-init c =
    let cell = c.args.cell in
    let parts = c.into_parts-head.ensures in
    let listed : (c.into_parts-head.result.1 ++ c.into_parts-head.result.2 ++ c.into_parts-head.result.3 ++ c.into_parts-head.result.4)
    ≡ all_records cell = λ i. parts.vi i ++ parts.vc i ++ parts.ve i ++ parts.fe i in
    let items = c.into_iter-rec-iterator.ensures.into_iter_gives.0 ∙ c.in_ok-all.ensures ∙ listed in
    subst (λ rest. IsLeft cell rest c.in_ok-records.records) (sym items)
    (subst (IsLeft cell (all_records cell)) (sym (c.in_ok-records.ensures ∙ ap empty_of parts.head))
    (record { fits = loaded_fits cell c.requires; leaves = loaded_cell cell (own_kinds cell c.requires) }))

pub added-requires : goal.added-requires
added-requires c =
    one_fits c.edits_add_up.ensures c.args.cell c.in-Some.rec c.next.new.self.rest.items c.loop-rec.records
    (subst (λ rest. IsLeft c.args.cell rest c.loop-rec.records) c.in-Some.ensures.steps.0 c.loop-rec.invariant)

pub loop-rec-preserved : goal.loop-rec-preserved
loop-rec-preserved c =
    subst (IsLeft c.args.cell c.next.new.self.rest.items) (sym c.in_ok-records-2.ensures)
    (rest_left c.edits_add_up.ensures c.args.cell c.in-Some.rec c.next.new.self.rest.items c.loop-rec.records
    (subst (λ rest. IsLeft c.args.cell rest c.loop-rec.records) c.in-Some.ensures.steps.0 c.loop-rec.invariant))

pub returns : goal.returns
returns c =
    let none = nil_from_length c.loop-rec.rec-iterator.rest.items (omega (arith, c.in-None.ensures.steps.0, c.loop-rec.rec-iterator.rest.ok.0)) in
    all_added c.args.cell c.loop-rec.records (subst (λ rest. IsLeft c.args.cell rest c.loop-rec.records) none c.loop-rec.invariant)
