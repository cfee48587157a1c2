use Rattle.std.proofs.Common.{◌≡◌, ◌++◌, take}
use Rattle.std.specs.List.{flat_map}
use Rattle.skin_probe.specs.ProbeText.{wind_line}
use Rattle.skin_probe.proofs.text.push_winds.Given as goal

abbrev pub invariant-loop-wind : goal.invariant-loop-wind
invariant-loop-wind l = l.out.items ≡ l.initial.out.items ++ flat_map (wind_line l.sort) (take l.wind-index l.winds)
