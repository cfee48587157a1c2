use Rattle.std.proofs.Common.{ap, ◌∙◌}
use Rattle.rayon.proofs.ListFacts.{IfOk-then}
use Rattle.cell_findings.specs.Near.{leaves_in}
use Rattle.cell_findings.proofs.FoundParts.{found_are, found_placed}
use Rattle.cell_findings.proofs.found_parts.find_parts.Goals as goal

pub returns-clause-parts : goal.returns-clause-parts
returns-clause-parts g c =
    let told = c.in_ok-windows.ensures in
    IfOk-then c.of_windows.result _ _ c.of_windows.ensures.parts
    (λ placed are. are c.args.look.now (found_are c.args.look.now told.0 c.in_ok-windows.windows.items told.2))

pub returns-clause-leaves : goal.returns-clause-leaves
returns-clause-leaves g c =
    let told = c.in_ok-windows.ensures in
    IfOk-then c.of_windows.result _ _ c.of_windows.ensures.leaves (λ placed are.
    are ∙ found_placed c.args.look.now told.0 c.in_ok-windows.windows.items told.2 ∙ ap (leaves_in c.args.look.now) told.1)
