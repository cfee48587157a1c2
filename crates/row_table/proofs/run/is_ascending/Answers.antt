use Rattle.std.proofs.Common.{rules, is_lt}
use Rattle.std.proofs.lemmas.Fn.{always_returns_same}
use Rattle.row_spec.proofs.Ascending.{ascending_from_neighbours, neighbours_from_ascending}
use Rattle.row_table.proofs.run.is_ascending.Goals as goal

-- the closure compares the keys of two rows
pub returns : goal.returns
returns g c =
    let seen = c.is_sorted_by.ensures.cases (λ row next. is_lt (g.K.Ord.cmp row.0 next.0)) (always_returns_same _ _ _ (λ a r after called. search rules)) in
    (ascending_from_neighbours g.K.Ord.cmp g.met.K.Ord.total _ _ seen, neighbours_from_ascending g.K.Ord.cmp g.met.K.Ord.total _ _ seen)
