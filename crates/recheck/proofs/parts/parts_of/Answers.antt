use Rattle.std.proofs.Common.{ap, ◌∙◌}
use Rattle.std.specs.Prelude.{IfOk}
use Rattle.rayon.proofs.ToStd.{slice-AllZip}
use Rattle.check_pairs.specs.Parts.{IsPart}
use Rattle.recheck.proofs.Judged.{gathered}
use Rattle.recheck.proofs.parts.parts_of.Goals as goal

pub returns : goal.returns
returns g c =
    let told = c.in_ok-parts.ensures in
    let chain = rw (c.map.ensures.base, c.map.ensures.f) at told.1 in
    let slice = ap (λ it. it.slice.now) c.with_min_len.ensures.base ∙ c.par_iter.ensures in
    let each = slice-AllZip chain.0 c.args.names.now (chain.1 ∙ slice)
    (λ name answer. IfOk answer (IsPart (g.B.Look.cell c.args.look.now))) told.0 chain.2 in
    gathered _ (IsPart (g.B.Look.cell c.args.look.now)) c.args.names.now told.0 each c.in_ok-parts.parts told.2
