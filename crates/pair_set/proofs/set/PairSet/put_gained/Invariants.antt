use Rattle.std.proofs.Common.{◌≡◌, ◌&&◌, ◌||◌, take, is_eq}
use Rattle.pair_set.specs.Pairs.{has_pair, is_among}
use Rattle.pair_set.proofs.set.PairSet.put_gained.Given as goal

abbrev pub invariant-loop-first : goal.invariant-loop-first
invariant-loop-first g l = (a : _) (b : _) → has_pair g.A.Ord.cmp g.B.Ord.cmp l.self a b
    ≡ ((is_eq (g.B.Ord.cmp l.second b) && is_among g.A.Ord.cmp (take l.first-index l.firsts) a) || has_pair g.A.Ord.cmp g.B.Ord.cmp l.fn.self a b)
