use Rattle.std.proofs.Common.{◌≡◌, ◌≤◌, ◌+◌, map, take}
use Rattle.near_records.specs.Near.{answer_held, answer_to}
use Rattle.near_records.proofs.near.answers_beside.Given as goal

abbrev pub invariant-loop-key : goal.invariant-loop-key
invariant-loop-key g l =
    (map answer_held l.answers.items ≡ map (answer_to (g.B.Look.cell l.look)) (take l.key-index l.keys))
    × (l.steps ≤ l.initial.steps + l.key-index)
