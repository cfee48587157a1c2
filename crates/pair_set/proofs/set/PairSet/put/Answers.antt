use Rattle.std.proofs.Common.{◌||◌, ap, ◌∙◌}
use Rattle.std.proofs.lemmas.Result.{on_ok_weaker}
use Rattle.pair_set.specs.Pairs.{has_pair, same_pair}
use Rattle.row_spec.proofs.Pairs.{has-put}
use Rattle.pair_set.proofs.set.PairSet.put.Goals as goal

pub returns-clause-ok : goal.returns-clause-ok
returns-clause-ok g c =
    on_ok_weaker c.put.result (λ is a b.
    ap (λ pairs. has_pair g.A.Ord.cmp g.B.Ord.cmp pairs a b) is
    ∙ has-put g.A.Ord.cmp g.B.Ord.cmp g.met.A.Ord.total g.met.B.Ord.total c.self.inside.rows c.args.first c.args.second a b tt
    ∙ ap (λ pairs. same_pair g.A.Ord.cmp g.B.Ord.cmp c.args.first c.args.second a b || has_pair g.A.Ord.cmp g.B.Ord.cmp pairs a b)
    c.self.view_is) c.put.ensures.ok
