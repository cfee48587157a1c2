use Rattle.std.proofs.Common.{subst, sym}
use Rattle.std.specs.Prelude.{All}
use Rattle.std.proofs.lemmas.List.Elements.{All-push}
use Rattle.check_pairs.specs.Parts.{IsPart}
use Rattle.recheck.proofs.parts.few_parts.Goals as goal

pub loop-name-preserved : goal.loop-name-preserved
loop-name-preserved g c =
    let held = IsPart (g.B.Look.cell c.args.look.now) in
    subst (All held) (sym c.in_ok-push.ensures.items) (All-push held c.loop-name.parts.items c.in_ok-part.part c.loop-name.invariant c.in_ok-part.ensures)
