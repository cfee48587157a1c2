use Rattle.std.proofs.Common.{◌≡◌, take}
use Rattle.cell_findings.specs.Parts.{leaves_of_windows}
use Rattle.cell_findings.proofs.part.leaves_of.Given as goal

abbrev pub invariant-loop-window : goal.invariant-loop-window
invariant-loop-window l = l.leaves.items ≡ leaves_of_windows (take l.window-index l.windows)
