use Rattle.std.proofs.Common.{rules}
use Rattle.std.proofs.lemmas.Fn.{always_returns_same}
use Rattle.row_spec.proofs.Place.{searched}
use Rattle.row_table.proofs.run.SortedRun.search.Goals as goal

-- the closure compares a row's key with this one, and the slice is the table's rows
pub returns : goal.returns
returns g c =
    let facts = c.binary_search_by.ensures in
    let position = facts.position (λ row. g.K.Ord.cmp row.0 c.args.key.now) (always_returns_same _ _ _ (λ a r after called. search rules)) in
    rw (← c.self.view_is, ← c.deref.ensures.value) (searched g.K.Ord.cmp g.met.K.Ord.total _ c.args.key.now _
    (rw c.deref.ensures.value c.self.invariant) facts.bound position)
