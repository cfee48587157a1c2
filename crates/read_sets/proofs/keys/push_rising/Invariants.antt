use Rattle.std.proofs.Common.{◌∷◌, map, take}
use Rattle.cell_spec.specs.declared.key.Key.TheVariants.{Name}
use Rattle.read_sets.specs.Rising.{IsRising}
use Rattle.read_sets.proofs.keys.push_rising.Given as goal

-- the names that were gone through are in
abbrev pub invariant-loop-name : goal.invariant-loop-name
invariant-loop-name l = IsRising (map Name (l.initial.before ∷ take l.name-index l.rest)) l.before l.keys.items
