use Rattle.std.proofs.Common.{◌∙◌, subst, sym}
use Rattle.s57_types.specs.declared.cell.Cell.{Cell}
use Rattle.finding_laws.specs.Tables.{IsCoveringsOf, IsReadsOf}
use Rattle.cell_bench.specs.Benches.{IsReachOf}
use Rattle.cell_bench.proofs.bench.Bench.reach.Goals as goal

pub reach_of-requires-clause-tiles : goal.reach_of-requires-clause-tiles
reach_of-requires-clause-tiles g c =
    subst (λ (d : Cell). IsCoveringsOf d c.tiles.result.now) (c.deref.ensures ∙ c.self.view_is ∙ sym c.store.ensures) c.tiles.ensures

pub reach_of-requires-clause-reads : goal.reach_of-requires-clause-reads
reach_of-requires-clause-reads g c =
    subst (λ (d : Cell). IsReadsOf d c.reads.result.now) (c.deref-2.ensures ∙ c.self.view_is ∙ sym c.store.ensures) c.reads.ensures

pub returns-clause-reach : goal.returns-clause-reach
returns-clause-reach g c =
    let told = c.in_ok-reach.ensures in
    subst (λ (d : Cell). IsReachOf c.args.edits.now.edits d c.in_ok-reach.reach) c.store.ensures
    (record { touched = told.touched; judged = told.judged; gone = told.gone; tiles = told.tiles })
