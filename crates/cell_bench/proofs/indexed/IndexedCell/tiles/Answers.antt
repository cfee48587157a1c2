use Rattle.std.proofs.Common.{subst}
use Rattle.s57_types.specs.declared.cell.Cell.{Cell}
use Rattle.finding_laws.specs.Tables.{IsCoveringsOf}
use Rattle.cell_bench.proofs.indexed.IndexedCell.tiles.Goals as goal

pub returns : goal.returns
returns c = subst (λ (d : Cell). IsCoveringsOf d c.self.inside.tiles) c.self.view_is c.self.invariant.coverings_are
