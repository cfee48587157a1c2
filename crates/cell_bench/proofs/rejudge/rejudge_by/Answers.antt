use Rattle.std.proofs.Common.{◌≡◌, ◌+◌, refl, ap, ◌∙◌, subst}
use Rattle.std.proofs.lemmas.Result.{err_from_is_err_and}
use Rattle.cell_spec.specs.Edits.{apply_edits}
use Rattle.rule_spec.specs.Affected.{affected_list, change_by}
use Rattle.cell_bench.specs.Limits.{IsFull}
use Rattle.cell_bench.specs.Rejudging.{fresh_among, fresh_in, with_rows}
use Rattle.cell_bench.proofs.EditedTables.{rejudged_by}
use Rattle.cell_bench.proofs.Judging.{AreOf, are_of, ended, fresh_as, full_so, rows_as}
use Rattle.cell_bench.proofs.KeptSubjects.{subjects_kept}
use Rattle.cell_bench.proofs.rejudge.rejudge_by.Goals as goal

pub returns-in_err-enter_all : goal.returns-in_err-enter_all
returns-in_err-enter_all c =
    let edits = c.args.edits.now.edits in
    let cell = c.args.store.now in
    let judged = affected_list (change_by edits cell) in
    let are : AreOf edits cell c.args.verdicts.now (apply_edits edits cell) c.in_ok-rejudged.rejudged c.forget_all.new.self c.args.gone.now judged =
    are_of refl c.in_ok-rejudged.ensures c.requires.gone refl c.in_ok-forget_all.ensures in
    let count : fresh_among c.args.rows.now ≡ fresh_in (apply_edits edits cell) judged =
    ap fresh_among c.requires.rows ∙ fresh_as (apply_edits edits cell) judged in
    let refused = err_from_is_err_and c.from_residual-in_err-enter_all.result c.from_residual-in_err-enter_all.ensures.1 in
    rw (refused.1, refused.2)
    (full_so edits cell c.args.verdicts.now (apply_edits edits cell) c.in_ok-rejudged.rejudged c.forget_all.new.self c.args.gone.now judged are _
    (subst (λ n. IsFull (c.forget_all.new.self.fresh + n) c.in_err-enter_all.field-0.0) count c.in_err-enter_all.ensures.err))

pub returns : goal.returns
returns c =
    let edits = c.args.edits.now.edits in
    let cell = c.args.store.now in
    let rows = c.args.verdicts.now in
    let fit = c.requires.found in
    let judged = affected_list (change_by edits cell) in
    let are : AreOf edits cell rows (apply_edits edits cell) c.in_ok-rejudged.rejudged c.forget_all.new.self c.args.gone.now judged =
    are_of refl c.in_ok-rejudged.ensures c.requires.gone refl c.in_ok-forget_all.ensures in
    rejudged_by edits cell fit c.unaffected_subjects_keep_findings.ensures c.unaffected_singles_keep_reads.ensures c.affected_subjects_are_considered.ensures
    (subjects_kept edits cell fit c.untouched_keys_keep_answers.ensures) rows c.enter_all.new.rejudged c.requires.verdicts c.changes_set_their_subjects.ensures
    (ended edits cell rows (apply_edits edits cell) c.in_ok-rejudged.rejudged c.forget_all.new.self c.args.gone.now judged are c.enter_all.new.rejudged
    (c.in_ok-enter_all.ensures.ok ∙ ap (with_rows c.forget_all.new.self) c.requires.rows ∙ rows_as (apply_edits edits cell) c.forget_all.new.self judged))
