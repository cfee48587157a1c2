use Rattle.topo_ops.proofs.Versions.{edge_rises, features_rise}
use Rattle.topo_ops.proofs.splitting.split_edits.Goals as goal

pub first_part-requires-clause-version : goal.first_part-requires-clause-version
first_part-requires-clause-version c = edge_rises c.args.chain.now.edge.now _ c.requires.versions

pub push_feature_edits-requires : goal.push_feature_edits-requires
push_feature_edits-requires c = features_rise c.args.chain.now.edge.now c.args.features.now c.requires.versions
