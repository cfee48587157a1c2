use Rattle.std.proofs.Common.{◌≡◌, map, take}
use Rattle.std.specs.Prelude.{filter_map}
use Rattle.std.specs.Borrow.{Bor}
use Rattle.s57_types.specs.declared.record.Feature.{Feature}
use Rattle.rule_spec.specs.Records.{feature_named}
use Rattle.topo_ops.proofs.feature.features_named.Given as goal

abbrev pub invariant-loop-name : goal.invariant-loop-name
invariant-loop-name g l = map (λ (f : Bor Feature). f.now) l.list.items ≡ filter_map (feature_named (g.B.Look.cell l.look)) (take l.name-index l.names)
