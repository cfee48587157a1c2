use Rattle.std.proofs.Common.{◌≡◌, ◌++◌, ◌+◌, drop}
use Rattle.std.specs.List.{enumerate_from}
use Rattle.check_words.proofs.line.numbered.Given as goal

abbrev pub invariant-loop-k : goal.invariant-loop-k
invariant-loop-k l = l.list.items ++ enumerate_from (l.k + 1) (drop l.k l.segments) ≡ enumerate_from 1 l.segments
