use Rattle.std.proofs.Common.{sym, subst, ◌∙◌}
use Rattle.std.specs.List.Sorted.{IsStrictlySortedBy}
use Rattle.std.proofs.lemmas.List.Filters.{dedup_is}
use Rattle.cell_spec.proofs.Ascending.{already_ascending}
use Rattle.cell_spec.proofs.Deduplicated.{dedup-ascending}
use Rattle.cell_spec.proofs.sorted.distinct.Goals as goal

pub returns-then-ascends : goal.returns-then-ascends
returns-then-ascends g c =
    sym (already_ascending g.T.Ord.cmp g.met.T.Ord.total c.requires.exact c.args.items.items
    (subst (IsStrictlySortedBy g.T.Ord.cmp) c.deref.ensures.value (c.ascends.ensures.0 c.if-ascends.true)))

pub returns : goal.returns
returns g c =
    dedup_is _ _ _ c.dedup.ensures.filtered
    ∙ dedup-ascending g.T.Ord.cmp g.met.T.Ord.total c.requires.exact g.T.PartialEq.eq g.met.T.Ord.matches_eq c.args.items.items
    c.sort_unstable.new.self.items c.sort_unstable.ensures.permutation c.sort_unstable.ensures.sorted
