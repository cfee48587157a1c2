use Rattle.std.proofs.Common.{◌≡◌, map}
use Rattle.std.specs.List.{range_with_len}
use Rattle.cell_make.specs.GeneratedScripts.{generated_script}
use Rattle.cell_make.proofs.script.make_scripts.Given as goal

abbrev pub invariant-loop-session : goal.invariant-loop-session
invariant-loop-session l = l.scripts.items ≡ map (generated_script l.n) (range_with_len 1 l.session)
