use Rattle.std.proofs.Common.{◌≡◌, ◌++◌, map, take}
use Rattle.s57_types.specs.declared.record.Spot.{Spot}
use Rattle.cell_spec.specs.declared.key.Key.TheVariants.{Refs}
use Rattle.edit_answers.proofs.touched.push_spots.Given as goal

abbrev pub invariant-loop-spot : goal.invariant-loop-spot
invariant-loop-spot l = l.keys.items ≡ l.fn.keys.items ++ map Refs (map (λ (s : Spot). s.to) (take l.spot-index l.spots))
