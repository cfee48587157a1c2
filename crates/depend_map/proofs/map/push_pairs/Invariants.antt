use Rattle.std.proofs.Common.{◌≡◌, ◌++◌, take}
use Rattle.depend_map.specs.Readers.{rows_under}
use Rattle.depend_map.proofs.map.push_pairs.Given as goal

abbrev pub invariant-loop-key : goal.invariant-loop-key
invariant-loop-key l = l.pairs.items ≡ l.fn.pairs.items ++ rows_under l.subject (take l.key-index l.key-items)
