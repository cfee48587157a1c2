use Rattle.std.proofs.Common.{◌++◌, inl, inr, refl, subst, ap, ◌∙◌}
use Rattle.std.proofs.lemmas.Result.{err_from_is_err_and}
use Rattle.cell_bench.specs.Benches.{IsLoadRefusal}
use Rattle.cell_make.specs.GeneratedCell.{generated_cell}
use Rattle.drill_run.specs.DrillText.{drill_line}
use Rattle.enc_top.proofs.GeneratedWork.{drilled_is, too_full}
use Rattle.enc_top.proofs.made.drilled_work.Goals as goal

pub returns-in-Err-FindingsFull : goal.returns-in-Err-FindingsFull
returns-in-Err-FindingsFull g c =
    inl (too_full c.args.size c.args.sessions (subst (IsLoadRefusal (generated_cell c.args.size)) c.in-Err-FindingsFull.field-0-is
    c.in-Err-FindingsFull.ensures.err))

pub returns-in_err-push_drill : goal.returns-in_err-push_drill
returns-in_err-push_drill g c =
    let refused = err_from_is_err_and c.from_residual.result c.from_residual.ensures.1 in
    rw (refused.1, refused.2) (inr refl)

pub returns : goal.returns
returns g c =
    let n = c.args.size in
    let sessions = c.args.sessions in
    let counts = c.in-Ok.drilled in
    let text = c.in_ok-push_drill.ensures.ok ∙ ap (λ before. before ++ drill_line n sessions counts) c.new-text.ensures.items in
    drilled_is n sessions counts c.push_drill.new.out.items c.in-Ok.ensures.ok text
