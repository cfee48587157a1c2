use Rattle.std.proofs.Common.{sym, subst, ap, ◌∙◌}
use Rattle.std.specs.List.Sorted.{IsStrictlySortedBy}
use Rattle.pair_set.specs.Pairs.{has_pair, is_among, seconds_under}
use Rattle.row_spec.proofs.Pairs.{among-from, sorted-from}
use Rattle.pair_set.proofs.set.PairSet.seconds.Goals as goal

pub returns-clause-among : goal.returns-clause-among
returns-clause-among g c = λ b.
    ap (λ those. is_among g.B.Ord.cmp those b) (c.from.ensures ∙ ap (seconds_under g.A.Ord.cmp c.args.first) c.rows_from.ensures)
    ∙ among-from g.A.Ord.cmp g.B.Ord.cmp g.met.A.Ord.total g.met.B.Ord.total c.args.first c.args.least c.requires b c.self.inside.rows
    c.len-count.ensures.ascending
    ∙ ap (λ pairs. has_pair g.A.Ord.cmp g.B.Ord.cmp pairs c.args.first b) c.self.view_is

pub returns-clause-ascending : goal.returns-clause-ascending
returns-clause-ascending g c =
    subst (IsStrictlySortedBy g.B.Ord.cmp) (sym (c.from.ensures ∙ ap (seconds_under g.A.Ord.cmp c.args.first) c.rows_from.ensures))
    (sorted-from g.A.Ord.cmp g.B.Ord.cmp g.met.A.Ord.total g.met.B.Ord.total c.args.first c.args.least c.requires c.self.inside.rows
    c.len-count.ensures.ascending)
