use Rattle.std.proofs.Common.{sym, ap, ◌∙◌, subst}
use Rattle.std.specs.Prelude.{All, IsTrue}
use Rattle.s57_types.specs.declared.cell.Cell.{Cell}
use Rattle.cell_spec.specs.Edits.{apply_edits}
use Rattle.rule_spec.specs.Findings.{is_subject}
use Rattle.rule_spec.specs.Records.{is_chain_part}
use Rattle.recheck.proofs.Prepared.{all_there}
use Rattle.recheck.proofs.preparing.Proposal.rows_after.Goals as goal

pub parts_of-requires-after_bounds : goal.parts_of-requires-after_bounds
parts_of-requires-after_bounds g c κs within =
    let edits = c.args.self.now.edits.now.edits in
    let over = c.keeping-known.ensures ∙ c.in_ok-over.ensures.over ∙ ap (apply_edits edits) c.store.ensures in
    let subjects = c.as_slice-subjects.result.now in
    let there = subst (λ (d : Cell). All (λ s. IsTrue (is_subject d s)) subjects) (sym over)
    (all_there edits c.args.self.now.bench.now c.args.reach.now.judged subjects c.requires.reach.judged c.as_slice-subjects.ensures) in
    subst (All (λ n. IsTrue (is_chain_part c.keeping-known.result n))) (sym c.as_slice-names.ensures)
    (c.in_ok-names.ensures.chained c.keeping-known.result there)

pub judge_all-requires-clause-subjects : goal.judge_all-requires-clause-subjects
judge_all-requires-clause-subjects g c κs within =
    let edits = c.args.self.now.edits.now.edits in
    let over = c.keeping-known.ensures ∙ c.in_ok-over.ensures.over ∙ ap (apply_edits edits) c.store.ensures in
    let subjects = c.as_slice-subjects.result.now in
    subst (λ (d : Cell). All (λ s. IsTrue (is_subject d s)) subjects) (sym over)
    (all_there edits c.args.self.now.bench.now c.args.reach.now.judged subjects c.requires.reach.judged c.as_slice-subjects.ensures)
