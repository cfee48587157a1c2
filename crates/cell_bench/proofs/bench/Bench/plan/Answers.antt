use Rattle.std.proofs.Common.{◌≡◌, ◌∙◌, None, subst, sym, arith}
use Rattle.std.proofs.lemmas.Result.{err_from_is_err_and}
use Rattle.s57_types.specs.declared.cell.Cell.{Cell}
use Rattle.cell_spec.specs.Edits.{apply_edits}
use Rattle.rule_spec.specs.Findings.{finding_total}
use Rattle.cell_bench.specs.Benches.{AreReady, IsNext}
use Rattle.cell_bench.specs.Limits.{IsFull}
use Rattle.cell_bench.specs.Refusals.{IsRecordsRefusal, records_refusal}
use Rattle.cell_bench.proofs.Counted.{least_budget, plan_within}
use Rattle.cell_bench.proofs.Refused.{planned_of, refusal_of_findings, refusal_of_records}
use Rattle.cell_bench.proofs.bench.Bench.plan.Goals as goal

pub next-requires-clause-ready : goal.next-requires-clause-ready
next-requires-clause-ready g c =
    subst (λ (d : Cell). AreReady d c.args.edits.now.edits c.args.stale.now c.args.ready.now) (sym (c.deref.ensures ∙ c.self.view_is)) c.requires.ready

pub returns-clause-planned : goal.returns-clause-planned
returns-clause-planned g c =
    let edits = c.args.edits.now.edits in
    let none = subst (λ (d : Cell). records_refusal d edits ≡ None) c.store.ensures c.in_ok-need_room.ensures.taken in
    let is = subst (λ (d : Cell). IsNext (apply_edits edits d) c.in_ok-indexed.indexed) (c.deref.ensures ∙ c.self.view_is) c.in_ok-indexed.ensures.next in
    planned_of c.args.self.now edits c.in_ok-next.next none (subst (IsNext (apply_edits edits c.args.self.now)) (sym c.in_ok-next.ensures) is)

pub returns-clause-steps : goal.returns-clause-steps
returns-clause-steps g c =
    let within = plan_within c.refusals_tell_what_a_cell_takes.ensures c.args.edits.now.edits c.args.stale.now c.args.ready.now c.store.ensures
    c.in_ok-need_room.ensures.taken (c.deref.ensures ∙ c.self.view_is) in
    omega (arith, within, c.in_ok-need_room.ensures.steps, c.in_ok-indexed.ensures.steps)

pub returns-in_err-need_room-clause-planned : goal.returns-in_err-need_room-clause-planned
returns-in_err-need_room-clause-planned g c =
    let edits = c.args.edits.now.edits in
    let why = c.in_err-need_room.field-0.0 in
    let refused = err_from_is_err_and c.from_residual.result c.from_residual.ensures.1 in
    rw (refused.1, refused.2)
    (refusal_of_records c.args.self.now edits why (subst (λ (d : Cell). IsRecordsRefusal d edits why) c.store.ensures c.in_err-need_room.ensures.taken))

pub returns-in_err-need_room-clause-steps : goal.returns-in_err-need_room-clause-steps
returns-in_err-need_room-clause-steps g c =
    let budget = least_budget c.args.edits.now.edits c.args.self.now c.args.stale.now c.args.ready.now in
    omega (arith, budget, c.in_err-need_room.ensures.steps)

pub returns-in_err-indexed-clause-planned : goal.returns-in_err-indexed-clause-planned
returns-in_err-indexed-clause-planned g c =
    let edits = c.args.edits.now.edits in
    let none = subst (λ (d : Cell). records_refusal d edits ≡ None) c.store.ensures c.in_ok-need_room.ensures.taken in
    let why = c.in_err-indexed.field-0.0 in
    let full = subst (λ (d : Cell). IsFull (finding_total (apply_edits edits d)) why) (c.deref.ensures ∙ c.self.view_is) c.in_err-indexed.ensures.next in
    let refused = err_from_is_err_and c.from_residual-in_err-indexed.result c.from_residual-in_err-indexed.ensures.1 in
    rw (refused.1, refused.2) (refusal_of_findings c.args.self.now edits none why full)

pub returns-in_err-indexed-clause-steps : goal.returns-in_err-indexed-clause-steps
returns-in_err-indexed-clause-steps g c =
    omega (
      arith,
      plan_within c.refusals_tell_what_a_cell_takes.ensures c.args.edits.now.edits c.args.stale.now c.args.ready.now c.store.ensures
          c.in_ok-need_room.ensures.taken (c.deref.ensures ∙ c.self.view_is),
      c.in_ok-need_room.ensures.steps,
      c.in_err-indexed.ensures.steps,
    )

pub returns-in_err-next-clause-steps : goal.returns-in_err-next-clause-steps
returns-in_err-next-clause-steps g c =
    let within = plan_within c.refusals_tell_what_a_cell_takes.ensures c.args.edits.now.edits c.args.stale.now c.args.ready.now c.store.ensures
    c.in_ok-need_room.ensures.taken (c.deref.ensures ∙ c.self.view_is) in
    omega (arith, within, c.in_ok-need_room.ensures.steps, c.in_ok-indexed.ensures.steps)
