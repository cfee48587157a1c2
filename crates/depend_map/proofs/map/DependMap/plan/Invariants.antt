use Rattle.std.proofs.Common.{◌≡◌, take}
use Rattle.depend_map.specs.Changes.{after_changes}
use Rattle.depend_map.proofs.map.DependMap.plan.Given as goal

abbrev pub invariant-loop-change : goal.invariant-loop-change
invariant-loop-change l = l.map ≡ after_changes l.self (take l.change-index l.changes)
