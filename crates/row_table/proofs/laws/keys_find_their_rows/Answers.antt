use Rattle.row_spec.proofs.Ascending.{IsAscending-with_row, IsAscending-without_key}
use Rattle.row_spec.proofs.Changes.{below_lower_bound, from_below_lower_bound, length-with_row, length-without_key, value_of-with_row, value_of-without_key}
use Rattle.row_spec.proofs.Changes.{value_of_row}
use Rattle.row_table.proofs.laws.keys_find_their_rows.Goals as goal

pub returns-clause-put : goal.returns-clause-put
returns-clause-put g c = value_of-with_row g.K.Ord.cmp g.met.K.Ord.total

pub returns-clause-take : goal.returns-clause-take
returns-clause-take g c = value_of-without_key g.K.Ord.cmp g.met.K.Ord.total

pub returns-clause-order : goal.returns-clause-order
returns-clause-order g c = record { put = IsAscending-with_row g.K.Ord.cmp g.met.K.Ord.total; take = IsAscending-without_key g.K.Ord.cmp }

pub returns-clause-count : goal.returns-clause-count
returns-clause-count g c = record { put = length-with_row g.K.Ord.cmp g.met.K.Ord.total; take = length-without_key g.K.Ord.cmp g.met.K.Ord.total }

pub returns-clause-found : goal.returns-clause-found
returns-clause-found g c = value_of_row g.K.Ord.cmp g.met.K.Ord.total

pub returns-clause-places : goal.returns-clause-places
returns-clause-places g c = λ rows place row key ascending here. (
  below_lower_bound g.K.Ord.cmp g.met.K.Ord.total rows place row key ascending here,
  from_below_lower_bound g.K.Ord.cmp g.met.K.Ord.total rows place row key here,
)
