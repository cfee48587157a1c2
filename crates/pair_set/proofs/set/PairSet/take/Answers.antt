use Rattle.std.proofs.Common.{◌&&◌, ap, not, ◌∙◌}
use Rattle.std.proofs.lemmas.Result.{on_ok_weaker}
use Rattle.pair_set.specs.Pairs.{has_pair, same_pair}
use Rattle.row_spec.proofs.Pairs.{has-take}
use Rattle.pair_set.proofs.set.PairSet.take.Goals as goal

pub returns-clause-ok : goal.returns-clause-ok
returns-clause-ok g c =
    on_ok_weaker c.take.result (λ is a b.
    ap (λ pairs. has_pair g.A.Ord.cmp g.B.Ord.cmp pairs a b) is
    ∙ has-take g.A.Ord.cmp g.B.Ord.cmp g.met.A.Ord.total g.met.B.Ord.total c.self.inside.rows c.args.first c.args.second a b c.len-count.ensures.ascending
    ∙ ap (λ pairs. not (same_pair g.A.Ord.cmp g.B.Ord.cmp c.args.first c.args.second a b) && has_pair g.A.Ord.cmp g.B.Ord.cmp pairs a b) c.self.view_is)
    c.take.ensures.ok
