use Rattle.std.proofs.Common.{rules, is_lt}
use Rattle.std.proofs.lemmas.Fn.{always_returns_same}
use Rattle.cell_spec.proofs.InOrder.{neighbours_from_sorted, sorted_from_neighbours}
use Rattle.cell_spec.proofs.sorted.ascends.Goals as goal

-- the closure compares an item with the next
pub returns : goal.returns
returns g c =
    let order = g.T.Ord.cmp in
    let seen = c.is_sorted_by.ensures.cases (λ item next. is_lt (order item next)) (always_returns_same _ _ _ (λ a r after called. search rules)) in
    let items = c.args.items.now in
    let answer = c.is_sorted_by.result in
    (sorted_from_neighbours order g.met.T.Ord.total items answer seen, neighbours_from_sorted order g.met.T.Ord.total items answer seen)
