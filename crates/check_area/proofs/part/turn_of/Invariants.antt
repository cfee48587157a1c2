use Rattle.std.proofs.Common.{◌≡◌, ◌+ℤ◌, drop}
use Rattle.check_area.specs.Parts.{area_home, turn_of_parts}
use Rattle.check_area.proofs.part.turn_of.Given as goal

abbrev pub invariant-loop-part : goal.invariant-loop-part
invariant-loop-part l = (l.way.swept +ℤ area_home l.home l.way.at (drop l.part-index l.parts)) ≡ turn_of_parts l.parts
