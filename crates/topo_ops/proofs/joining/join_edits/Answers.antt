use Rattle.std.proofs.Common.{map}
use Rattle.std.specs.Borrow.{Bor}
use Rattle.s57_types.specs.declared.record.Feature.{Feature}
use Rattle.topo_ops.proofs.Versions.{edge_rises, features_rise, joined_rise}
use Rattle.topo_ops.proofs.joining.join_edits.Goals as goal

pub joined_edge-requires : goal.joined_edge-requires
joined_edge-requires c =
    let edge = c.args.first.now.edge.now in
    let fs = map (λ (f : Bor Feature). f.now) c.args.features.now in
    edge_rises edge fs (joined_rise c.args.edges edge fs c.requires)

pub push_feature_edits-requires : goal.push_feature_edits-requires
push_feature_edits-requires c =
    let edge = c.args.first.now.edge.now in
    let fs = map (λ (f : Bor Feature). f.now) c.args.features.now in
    features_rise edge c.args.features.now (joined_rise c.args.edges edge fs c.requires)
