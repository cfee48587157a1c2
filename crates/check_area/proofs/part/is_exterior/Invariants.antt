use Rattle.std.proofs.Common.{◌≡◌, drop}
use Rattle.rule_spec.specs.Boundary.{none_interior}
use Rattle.check_area.specs.Parts.{usage_of_part}
use Rattle.check_area.proofs.part.is_exterior.Given as goal

abbrev pub invariant-loop-part : goal.invariant-loop-part
invariant-loop-part l = none_interior usage_of_part (drop l.part-index l.parts) ≡ none_interior usage_of_part l.parts
