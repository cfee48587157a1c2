use Rattle.std.proofs.Common.{◌∙◌}
use Rattle.row_spec.proofs.Sought.{found}
use Rattle.pair_set.proofs.set.holds.Goals as goal

pub returns : goal.returns
returns g c =
    c.is_ok.ensures.value
    ∙ found g.T.Ord.cmp g.met.T.Ord.total c.args.items.now c.args.item.now c.binary_search.result c.requires c.binary_search.ensures.bound
    c.binary_search.ensures.position
