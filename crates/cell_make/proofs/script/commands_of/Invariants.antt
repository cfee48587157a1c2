use Rattle.std.proofs.Common.{◌≡◌}
use Rattle.std.specs.List.{flat_map, range_with_len}
use Rattle.cell_make.specs.GeneratedScripts.{generated_round}
use Rattle.cell_make.proofs.script.commands_of.Given as goal

abbrev pub invariant-loop-k : goal.invariant-loop-k
invariant-loop-k l = l.commands.items ≡ flat_map (generated_round l.n l.script) (range_with_len 1 l.k)
