use Rattle.std.proofs.Common.{◌≡◌, take}
use Rattle.depend_map.specs.Changes.{kept_of}
use Rattle.depend_map.specs.Readers.{reader_rows}
use Rattle.depend_map.proofs.map.pairs_of.Given as goal

abbrev pub invariant-loop-row : goal.invariant-loop-row
invariant-loop-row l = l.pairs.items ≡ reader_rows (kept_of (take l.row-index l.rows))
