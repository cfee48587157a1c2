use Rattle.std.proofs.Common.{sym, subst}
use Rattle.call_files.specs.Inputs.{IsCellOfFile}
use Rattle.call_files.proofs.cell_input.judge_bench.Goals as goal

pub returns-in-Ok-clause-of_file : goal.returns-in-Ok-clause-of_file
returns-in-Ok-clause-of_file g c = subst IsCellOfFile (sym c.in-Ok.ensures.same) c.in_ok-cell.ensures.of_file
