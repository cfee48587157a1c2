use Rattle.std.proofs.Common.{◌≡◌, ◌≤◌, ◌+◌, length}
use Rattle.std.specs.Option.{option_map}
use Rattle.s57_fields.specs.Units.{unit_place}
use Rattle.s57_fields.proofs.units.find_unit.Given as goal

abbrev pub invariant-loop-rest : goal.invariant-loop-rest
invariant-loop-rest l = record {
  walk : option_map (λ i. i + l.at) (unit_place l.low l.rest) ≡ unit_place l.low l.bytes;
  room : length l.rest + l.at ≤ length l.bytes;
}

abbrev pub decreases-loop-rest : goal.decreases-loop-rest
decreases-loop-rest l = length l.rest
