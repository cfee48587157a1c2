use Rattle.std.proofs.Common.{◌≡◌, ap, ◌∙◌}
use Rattle.std.specs.Prelude.{IfOk}
use Rattle.rayon.proofs.ToStd.{slice-AllZip}
use Rattle.cell_spec.specs.declared.finding.Row.{Row}
use Rattle.rule_spec.specs.Affected.{exact_row}
use Rattle.recheck.proofs.Judged.{collected}
use Rattle.recheck.proofs.judging.judge_all.Goals as goal

pub returns : goal.returns
returns g c =
    let subjects = c.args.subjects.now in
    let row = exact_row (g.B.Look.cell c.args.look.now) in
    let told = c.in_ok-rows.ensures in
    let chain = rw (c.map.ensures.base, c.map.ensures.f) at told.1 in
    let slice = ap (λ it. it.slice.now) c.with_min_len.ensures.base ∙ c.par_iter.ensures in
    let each = slice-AllZip chain.0 subjects (chain.1 ∙ slice) (λ subject answer. IfOk answer (λ (judged : Row). judged ≡ row subject)) told.0 chain.2 in
    c.of_vec.ensures ∙ collected _ row subjects told.0 each c.in_ok-rows.rows told.2 c.in_ok-rows-2.field-0 c.in_ok-rows-2.was
