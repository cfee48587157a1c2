use Rattle.std.proofs.Common.{◌≡◌, drop}
use Rattle.cell_bench.specs.Rejudging.{without_all}
use Rattle.cell_bench.proofs.rejudged.Rejudged.forget_all.Given as goal

abbrev pub invariant-loop-subject : goal.invariant-loop-subject
invariant-loop-subject l = without_all l.self (drop l.subject-index l.gone) ≡ without_all l.fn.self l.gone
