use Rattle.std.proofs.Common.{◌≡◌, ◌++◌, ◌+◌, drop, map, not}
use Rattle.s57_types.specs.declared.record.Spot.{Spot}
use Rattle.rule_spec.specs.declared.kind.TheConstants.{BAD_CODES}
use Rattle.rule_spec.specs.Features.{has_its_codes}
use Rattle.rule_spec.specs.Findings.{finding}
use Rattle.rule_spec.specs.Rule.{places_from}
use Rattle.check_feature.proofs.codes.push_bad_codes.Given as goal

abbrev pub invariant-loop-k : goal.invariant-loop-k
invariant-loop-k l =
    l.findings.items ++ map (finding BAD_CODES) (places_from (λ (s : Spot). not (has_its_codes l.feature.prim s)) (l.k + 1) (drop l.k l.feature.places))
    ≡ l.fn.findings.items ++ map (finding BAD_CODES) (places_from (λ (s : Spot). not (has_its_codes l.feature.prim s)) 1 l.feature.places)
