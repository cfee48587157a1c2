use Rattle.std.proofs.Common.{◌≡◌, ◌++◌, ◌+◌, true, List, drop, map}
use Rattle.std.specs.List.{All}
use Rattle.s57_types.specs.declared.cell.Cell.{Cell}
use Rattle.cell_spec.specs.declared.key.Key.{Key}
use Rattle.rule_spec.specs.Findings.{finding}
use Rattle.rule_spec.specs.Rule.{places_from, places_where}
use Rattle.near_records.specs.Near.{has_key}
use Rattle.check_feature.proofs.naming.push_dangling.Given as goal

abbrev pub invariant-loop-k : goal.invariant-loop-k
invariant-loop-k g l =
    (c : Cell) (keys : List Key) → g.N.Near.tells l.near c keys → All (λ x. has_key keys (g.T.Naming.key x) ≡ true) l.pointers
    → l.findings.items ++ map (finding l.kind) (places_from (g.T.Naming.is_dangling c) (l.k + 1) (drop l.k l.pointers))
    ≡ l.fn.findings.items ++ map (finding l.kind) (places_where (g.T.Naming.is_dangling c) l.pointers)
