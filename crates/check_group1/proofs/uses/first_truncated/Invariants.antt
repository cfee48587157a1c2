use Rattle.std.proofs.Common.{◌≡◌, drop, find}
use Rattle.rule_spec.specs.Sides.{is_truncated}
use Rattle.check_group1.proofs.uses.first_truncated.Given as goal

abbrev pub invariant-loop-found : goal.invariant-loop-found
invariant-loop-found l = find is_truncated (drop l.found-index l.uses) ≡ find is_truncated l.uses
