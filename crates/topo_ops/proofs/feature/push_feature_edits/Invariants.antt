use Rattle.std.proofs.Common.{◌≡◌, ◌++◌, map, take}
use Rattle.std.specs.Borrow.{Bor}
use Rattle.s57_types.specs.declared.record.Feature.{Feature}
use Rattle.topo_ops.specs.Features.{feature_edit}
use Rattle.topo_ops.proofs.feature.push_feature_edits.Given as goal

abbrev pub invariant-loop-feature : goal.invariant-loop-feature
invariant-loop-feature g l =
    l.edits.items ≡ l.fn.edits.items
    ++ map (feature_edit (g.C.PlaceChange.change l.change)) (map (λ (f : Bor Feature). f.now) (take l.feature-index l.features))
