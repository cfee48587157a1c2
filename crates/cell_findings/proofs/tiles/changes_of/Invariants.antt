use Rattle.std.proofs.Common.{◌≡◌, ◌≤◌, ◌+◌, ◌*◌, take}
use Rattle.std.specs.List.{flat_map}
use Rattle.cell_findings.specs.Points.{changes_at}
use Rattle.cell_findings.proofs.tiles.changes_of.Given as goal

abbrev pub invariant-loop-name : goal.invariant-loop-name
invariant-loop-name g l =
    (l.changes.items ≡ flat_map (changes_at (g.B.Look.cell l.look)) (take l.name-index l.names)) × (l.steps ≤ l.fn.steps + 3 * l.name-index)
