use Rattle.std.proofs.Common.{◌≡◌, ◌≤◌, ◌++◌, drop, length}
use Rattle.std.specs.List.{flat_map}
use Rattle.cell_findings.proofs.threads.joined.Given as goal

abbrev pub invariant-loop-part : goal.invariant-loop-part
invariant-loop-part l =
    (l.all.items ++ flat_map (λ part. part) (drop l.part-index l.parts) ≡ flat_map (λ part. part) l.parts)
    × (length l.all.items ≤ l.limit)
