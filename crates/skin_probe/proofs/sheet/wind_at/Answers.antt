use Rattle.std.proofs.Common.{rules, SFits, w64, ◌∙◌}
use Rattle.std.proofs.lemmas.Int.{to_z-of_z}
use Rattle.skin_probe.proofs.sheet.wind_at.Goals as goal

pub returns : goal.returns
returns g c =
    let fits : SFits w64 c.in_ok-winding.winding = search rules in
    λ i. (c.args.area.now.name.id, (to_z-of_z w64 c.in_ok-winding.winding fits ∙ c.in_ok-winding.ensures) i)
