use Rattle.std.proofs.Common.{◌≡◌, All, take}
use Rattle.check_pairs.specs.Parts.{IsPart}
use Rattle.cell_findings.specs.Near.{leaves_in}
use Rattle.cell_findings.proofs.part_window.PartWindow.find.Given as goal

abbrev pub invariant-loop-name : goal.invariant-loop-name
invariant-loop-name g l = All (IsPart l.look) l.window.parts.items × (l.window.leaves.items ≡ leaves_in l.look (take l.name-index l.names))
