use Rattle.std.proofs.Common.{rules, SFits, w64, ap, ◌∙◌}
use Rattle.std.proofs.lemmas.Int.{to_z-of_z}
use Rattle.skin_probe.specs.Kept.{taken}
use Rattle.skin_probe.proofs.Kept.{pointer_taken}
use Rattle.skin_probe.proofs.winding.Probe.pointer.Goals as goal

pub returns-clause-winding : goal.returns-clause-winding
returns-clause-winding g c =
    let cell = g.B.Look.cell c.args.self.now.look.now in
    let fits : SFits w64 c.in_ok-winding.winding = search rules in
    to_z-of_z w64 c.in_ok-winding.winding fits ∙ c.in_ok-winding.ensures ∙ ap (taken c.args.spot.now.ornt) c.in_ok-edge.ensures.edge
    ∙ pointer_taken cell c.args.self.now.at c.args.spot.now
