use Rattle.std.proofs.Common.{sym, ◌∙◌, subst}
use Rattle.std.specs.Prelude.{All, IsTrue}
use Rattle.std.proofs.lemmas.Result.{err_from_is_err_and}
use Rattle.s57_types.specs.declared.cell.Cell.{Cell}
use Rattle.cell_spec.specs.Edits.{apply_edits}
use Rattle.rule_spec.specs.Findings.{is_subject}
use Rattle.cell_bench.proofs.EditedTables.{judged_there, rejudged_by}
use Rattle.cell_bench.proofs.Judging.{AreOf, are_of, ended, full_so}
use Rattle.cell_bench.proofs.KeptSubjects.{subjects_kept}
use Rattle.cell_bench.proofs.rejudge.rejudge.Goals as goal

pub judge_all-requires-clause-subjects : goal.judge_all-requires-clause-subjects
judge_all-requires-clause-subjects g c =
    let edits = c.args.edits.now.edits in
    let cell = c.args.store.now in
    let there = judged_there edits cell in
    subst (λ (d : Cell). All (λ s. IsTrue (is_subject d s)) c.as_slice-judged.result.now) (sym c.in_ok-over.ensures.over)
    (subst (All (λ s. IsTrue (is_subject (apply_edits edits cell) s))) (sym (c.as_slice-judged.ensures ∙ c.requires.judged)) there)

pub returns-in_err-judge_all-clause-rejudged : goal.returns-in_err-judge_all-clause-rejudged
returns-in_err-judge_all-clause-rejudged g c =
    let edits = c.args.edits.now.edits in
    let cell = c.args.store.now in
    let rows = c.args.verdicts.now in
    let are : AreOf edits cell rows c.in_ok-over.over c.in_ok-rejudged.rejudged c.forget_all.new.self c.as_slice.result.now
    c.as_slice-judged.result.now = are_of c.in_ok-over.ensures.over c.in_ok-rejudged.ensures (c.as_slice.ensures ∙ c.requires.gone)
    (c.as_slice-judged.ensures ∙ c.requires.judged) c.in_ok-forget_all.ensures in
    let refused = err_from_is_err_and c.from_residual-in_err-judge_all.result c.from_residual-in_err-judge_all.ensures.1 in
    rw (refused.1, refused.2)
    (full_so edits cell rows c.in_ok-over.over c.in_ok-rejudged.rejudged c.forget_all.new.self c.as_slice.result.now c.as_slice-judged.result.now
    are _ c.in_err-judge_all.ensures.err)

pub returns-clause-rejudged : goal.returns-clause-rejudged
returns-clause-rejudged g c =
    let edits = c.args.edits.now.edits in
    let cell = c.args.store.now in
    let rows = c.args.verdicts.now in
    let fit = c.requires.found in
    let are : AreOf edits cell rows c.in_ok-over.over c.in_ok-rejudged.rejudged c.forget_all.new.self c.as_slice.result.now
    c.as_slice-judged.result.now = are_of c.in_ok-over.ensures.over c.in_ok-rejudged.ensures (c.as_slice.ensures ∙ c.requires.gone)
    (c.as_slice-judged.ensures ∙ c.requires.judged) c.in_ok-forget_all.ensures in
    rejudged_by edits cell fit c.unaffected_subjects_keep_findings.ensures c.unaffected_singles_keep_reads.ensures c.affected_subjects_are_considered.ensures
    (subjects_kept edits cell fit c.untouched_keys_keep_answers.ensures) rows c.judge_all.new.rejudged c.requires.verdicts c.changes_set_their_subjects.ensures
    (ended edits cell rows c.in_ok-over.over c.in_ok-rejudged.rejudged c.forget_all.new.self c.as_slice.result.now c.as_slice-judged.result.now
    are c.judge_all.new.rejudged c.in_ok-judge_all.ensures.ok)
