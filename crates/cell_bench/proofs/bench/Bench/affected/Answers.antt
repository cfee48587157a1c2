use Rattle.std.proofs.Common.{◌∙◌, subst, sym}
use Rattle.s57_types.specs.declared.cell.Cell.{Cell}
use Rattle.finding_laws.specs.Tables.{IsCoveringsOf, IsReadsOf}
use Rattle.cell_bench.proofs.bench.Bench.affected.Goals as goal

pub affected_of-requires-clause-tiles : goal.affected_of-requires-clause-tiles
affected_of-requires-clause-tiles c =
    subst (λ (d : Cell). IsCoveringsOf d c.tiles.result.now) (c.deref.ensures ∙ c.self.view_is ∙ sym c.store.ensures) c.tiles.ensures

pub affected_of-requires-clause-reads : goal.affected_of-requires-clause-reads
affected_of-requires-clause-reads c =
    subst (λ (d : Cell). IsReadsOf d c.reads.result.now) (c.deref-2.ensures ∙ c.self.view_is ∙ sym c.store.ensures) c.reads.ensures
