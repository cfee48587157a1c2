use Rattle.std.proofs.Common.{List, refl, subst, sym}
use Rattle.s57_types.specs.declared.name.RecName.{RecName}
use Rattle.finding_laws.specs.Tables.{Covering}
use Rattle.tile_index.specs.Tilings.{IsTiling, Tile}
use Rattle.tile_index.proofs.index.TileIndex.make.Goals as goal

pub invariant_of-result : goal.invariant_of-result
invariant_of-result c =
    subst (λ (parts : List (RecName × Covering) × List ((Tile × RecName) × Unit {0}) × List (RecName × Unit {0})). IsTiling parts.0 parts.1 parts.2)
    (λ i. (sym c.make.ensures i, sym c.make-2.ensures i, sym c.make-3.ensures i))
    (record { ranges = λ n. refl; under = λ t n. refl; apart = λ n. refl })
