use Rattle.std.proofs.Common.{◌≡◌, filter, take}
use Rattle.skin_probe.specs.Sheet.{goes_round}
use Rattle.skin_probe.proofs.sheet.going_round.Given as goal

abbrev pub invariant-loop-wind : goal.invariant-loop-wind
invariant-loop-wind l = l.rounds.items ≡ filter goes_round (take l.wind-index l.winds)
