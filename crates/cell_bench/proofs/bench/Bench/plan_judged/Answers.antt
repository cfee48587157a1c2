use Rattle.std.proofs.Common.{sym, ◌∙◌, subst}
use Rattle.std.proofs.lemmas.Result.{err_from_is_err_and}
use Rattle.s57_types.specs.declared.cell.Cell.{Cell}
use Rattle.cell_spec.specs.Edits.{apply_edits}
use Rattle.rule_spec.specs.Findings.{finding_total}
use Rattle.cell_bench.specs.Benches.{IsNext}
use Rattle.cell_bench.specs.Limits.{IsFull}
use Rattle.cell_bench.proofs.Refused.{planned_of, refusal_of_findings, unrefused_when_taken}
use Rattle.cell_bench.proofs.bench.Bench.plan_judged.Goals as goal

pub returns : goal.returns
returns c =
    let edits = c.args.edits.now.edits in
    let none = unrefused_when_taken c.refusals_tell_what_a_cell_takes.ensures c.args.self.now edits c.requires.taken in
    let is = subst (λ (d : Cell). IsNext (apply_edits edits d) c.in_ok-indexed.indexed) (c.deref.ensures ∙ c.self.view_is) c.in_ok-indexed.ensures in
    planned_of c.args.self.now edits c.in_ok-next.next none (subst (IsNext (apply_edits edits c.args.self.now)) (sym c.in_ok-next.ensures) is)

pub returns-in_err-indexed : goal.returns-in_err-indexed
returns-in_err-indexed c =
    let edits = c.args.edits.now.edits in
    let none = unrefused_when_taken c.refusals_tell_what_a_cell_takes.ensures c.args.self.now edits c.requires.taken in
    let why = c.in_err-indexed.field-0.0 in
    let full = subst (λ (d : Cell). IsFull (finding_total (apply_edits edits d)) why) (c.deref.ensures ∙ c.self.view_is) c.in_err-indexed.ensures in
    let refused = err_from_is_err_and c.from_residual.result c.from_residual.ensures.1 in
    rw (refused.1, refused.2) (refusal_of_findings c.args.self.now edits none why full)
