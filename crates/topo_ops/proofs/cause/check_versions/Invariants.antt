use Rattle.std.proofs.Common.{◌≡◌, drop, map}
use Rattle.std.specs.Borrow.{Bor}
use Rattle.s57_types.specs.declared.record.Feature.{Feature}
use Rattle.topo_ops.specs.Causes.{feature_version}
use Rattle.topo_ops.specs.Refusals.{first_of}
use Rattle.topo_ops.proofs.cause.check_versions.Given as goal

abbrev pub invariant-loop-feature : goal.invariant-loop-feature
invariant-loop-feature l =
    first_of (map feature_version (map (λ (f : Bor Feature). f.now) (drop l.feature-index l.features)))
    ≡ first_of (map feature_version (map (λ (f : Bor Feature). f.now) l.features))
