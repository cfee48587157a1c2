use Rattle.std.proofs.Common.{◌≡◌, ◌&&◌, not, take, is_eq}
use Rattle.pair_set.specs.Pairs.{has_pair, is_lost}
use Rattle.pair_set.proofs.set.PairSet.replace.Given as goal

abbrev pub invariant-loop-first : goal.invariant-loop-first
invariant-loop-first g l = (a : _) (b : _) → has_pair g.A.Ord.cmp g.B.Ord.cmp l.self a b
    ≡ (not (is_eq (g.B.Ord.cmp l.second b) && is_lost g.A.Ord.cmp (take l.first-index l.old) l.new a) && has_pair g.A.Ord.cmp g.B.Ord.cmp l.fn.self a b)
