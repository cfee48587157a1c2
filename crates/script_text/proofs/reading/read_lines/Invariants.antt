use Rattle.std.proofs.Common.{length, ◌≤◌, ◌+◌}
use Rattle.script_text.specs.Steps.{IsReadTo}
use Rattle.script_text.proofs.reading.read_lines.Given as goal

abbrev pub invariant-loop-rest : goal.invariant-loop-rest
invariant-loop-rest l = IsReadTo l.bytes l.count l.rest l.script × (l.count + length l.rest ≤ length l.bytes)

abbrev pub decreases-loop-rest : goal.decreases-loop-rest
decreases-loop-rest l = length l.rest
