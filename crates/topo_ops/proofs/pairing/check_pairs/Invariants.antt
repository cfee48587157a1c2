use Rattle.std.proofs.Common.{◌≡◌, drop, map}
use Rattle.std.specs.Borrow.{Bor}
use Rattle.s57_types.specs.declared.record.Feature.{Feature}
use Rattle.topo_ops.specs.Join.{feature_unpaired}
use Rattle.topo_ops.specs.Refusals.{first_of}
use Rattle.topo_ops.proofs.pairing.check_pairs.Given as goal

abbrev pub invariant-loop-feature : goal.invariant-loop-feature
invariant-loop-feature l =
    first_of (map (feature_unpaired l.edges) (map (λ (f : Bor Feature). f.now) (drop l.feature-index l.features)))
    ≡ first_of (map (feature_unpaired l.edges) (map (λ (f : Bor Feature). f.now) l.features))
