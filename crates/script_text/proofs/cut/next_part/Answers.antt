use Rattle.std.proofs.Common.{◌≡◌, ◌++◌, length, ap, ◌∙◌, arith}
use Rattle.script_text.proofs.Cuts.{cut_of, length_rest}
use Rattle.script_text.proofs.cut.next_part.Goals as goal

pub returns-in-Some-clause-part : goal.returns-in-Some-clause-part
returns-in-Some-clause-part c = λ lead part rest free begins same.
    let first = c.in-Some.ensures.cases.0 in
    let behind : c.in-Some.behind.now ≡ part ++ rest = cc in
    let cut = cut_of c.args.mark c.in-Some.behind.now part rest behind free begins in
    (c.cut_at.ensures.before ∙ cut.front_is, c.cut_at.ensures.from ∙ cut.rest_is)

pub returns-in-Some-clause-shorter : goal.returns-in-Some-clause-shorter
returns-in-Some-clause-shorter c = λ some.
    omega (arith, length_rest c.args.mark c.in-Some.behind.now, ap length c.cut_at.ensures.from, c.in-Some.ensures.cases.1)
