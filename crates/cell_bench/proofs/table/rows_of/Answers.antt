use Rattle.std.proofs.Common.{◌≡◌, List, [], ◌∷◌, length, refl, arith}
use Rattle.std.proofs.lemmas.Bool.Decides.{nat_tests}
use Rattle.cell_findings.specs.declared.list.SubjectFinding.{SubjectFinding}
use Rattle.cell_bench.proofs.Grouped.{all_made, one_more}
use Rattle.cell_bench.proofs.table.rows_of.Goals as goal

pub loop-rest-preserved : goal.loop-rest-preserved
loop-rest-preserved c = λ all good.
    one_more all c.loop-rest.rows.items c.push_front_row.new.rows.items c.loop-rest.rest.now c.in_ok-rest.rest.now
    (c.loop-rest.invariant all good) c.in_ok-rest.ensures.row c.in_ok-rest.ensures.behind

none_when : (fs : List SubjectFinding) → length fs ≡ 0 → fs ≡ []
none_when [] e = refl
none_when (f ∷ fs) e = absurd (omega (arith, e))

pub returns : goal.returns
returns c = λ all good. all_made all c.loop-rest.rows.items c.loop-rest.rest.now (c.loop-rest.invariant all good)
    (none_when c.loop-rest.rest.now (let ends = c.loop-rest-test.false in let is = c.is_empty.ensures in grind (arith, nat_tests)))
