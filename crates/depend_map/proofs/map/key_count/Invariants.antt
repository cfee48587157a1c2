use Rattle.std.proofs.Common.{◌≡◌, length, map, take}
use Rattle.std.specs.List.{sum}
use Rattle.depend_map.proofs.map.key_count.Given as goal

abbrev pub invariant-loop-row : goal.invariant-loop-row
invariant-loop-row l = l.count ≡ sum (map (λ row. length row.1) (take l.row-index l.rows))
