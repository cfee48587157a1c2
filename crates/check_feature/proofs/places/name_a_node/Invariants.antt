use Rattle.std.proofs.Common.{◌≡◌, drop, map}
use Rattle.std.specs.List.{list_any}
use Rattle.rule_spec.specs.Features.{target}
use Rattle.rule_spec.specs.Records.{is_node_name}
use Rattle.check_feature.proofs.places.name_a_node.Given as goal

abbrev pub invariant-loop-spot : goal.invariant-loop-spot
invariant-loop-spot l = list_any is_node_name (map target (drop l.spot-index l.places)) ≡ list_any is_node_name (map target l.places)
