use Rattle.std.proofs.Common.{subst}
use Rattle.s57_types.specs.declared.cell.Cell.{Cell}
use Rattle.finding_laws.specs.Tables.{IsReadsOf}
use Rattle.cell_bench.proofs.indexed.IndexedCell.reads.Goals as goal

pub returns : goal.returns
returns c = subst (λ (d : Cell). IsReadsOf d c.self.inside.map) c.self.view_is c.self.invariant.reads_are
