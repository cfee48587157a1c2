use Rattle.std.proofs.lemmas.List.Sums.{prefix_len-le-length}
use Rattle.row_spec.proofs.Place.{lower_bound-mono}
use Rattle.row_table.proofs.table.RowTable.range.Goals as goal

pub returns-clause-within : goal.returns-clause-within
returns-clause-within g c = rw (c.place_of.ensures, c.place_of-2.ensures) (
  lower_bound-mono g.K.Ord.cmp g.met.K.Ord.total _ _ _ c.requires,
  prefix_len-le-length _ _,
)
