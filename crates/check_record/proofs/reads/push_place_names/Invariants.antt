use Rattle.std.proofs.Common.{◌≡◌, ◌++◌, map, take}
use Rattle.s57_types.specs.declared.record.Spot.{Spot}
use Rattle.cell_spec.specs.declared.key.Key.TheVariants.{Name}
use Rattle.check_record.proofs.reads.push_place_names.Given as goal

abbrev pub invariant-loop-spot : goal.invariant-loop-spot
invariant-loop-spot l = map Name l.names.items ≡ map Name l.initial.names.items ++ map (λ (s : Spot). Name s.to) (take l.spot-index l.feature.places)
