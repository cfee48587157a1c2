use Rattle.std.proofs.Common.{◌≡◌, ◌++◌, drop, map}
use Rattle.skin_probe.specs.Sheet.{wind_of}
use Rattle.skin_probe.proofs.sheet.winds_of.Given as goal

abbrev pub invariant-loop-area : goal.invariant-loop-area
invariant-loop-area g l =
    l.winds.items ++ map (wind_of l.probe.look.now l.probe.at) (map (λ f. f.now) (drop l.area-index l.areas))
    ≡ map (wind_of l.probe.look.now l.probe.at) (map (λ f. f.now) l.areas)
