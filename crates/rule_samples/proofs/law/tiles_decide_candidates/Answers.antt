use Rattle.std.proofs.Common.{refl}
use Rattle.rule_spec.specs.Candidates.{candidates_of, segments_named}
use Rattle.rule_spec.specs.EdgePoints.{edge_line_of}
use Rattle.rule_samples.proofs.law.tiles_decide_candidates.Goals as goal

pub returns : goal.returns
unfolding candidates_of segments_named edge_line_of
returns c = (refl, refl, refl, refl)
