use Rattle.std.proofs.Common.{◌≡◌, true, arith, ap, sym, subst, ◌∙◌}
use Rattle.std.proofs.lemmas.Int.{ints}
use Rattle.std.proofs.lemmas.Slice.Eq.{slice_eq-Decides}
use Rattle.geometry_spec.specs.declared.tile.TileRange.{TileRange}
use Rattle.geometry_spec.specs.contracts.tile.TileRangePartialEq.TheImpl.{eq-value}
use Rattle.finding_laws.specs.Tables.{Covering}
use Rattle.tile_index.proofs.cover.Cover.has_ranges_of.Goals as goal

one_range : (a b : TileRange) → eq-value.it a b ≡ true → a ≡ b
one_range a b same = grind (arith, ints)

itself : (a : TileRange) → eq-value.it a a ≡ true
itself a = grind (arith, ints)

pub returns : goal.returns
returns c = λ same.
    ap (λ (covering : Covering). covering.ranges) (sym c.self.view_is)
    ∙ (slice_eq-Decides (λ a b. (one_range a b, λ is. subst (λ r. eq-value.it a r ≡ true) is (itself a)))
    c.self.inside.ranges.items c.other.inside.ranges.items c.eq.result c.eq.ensures).0 same
    ∙ ap (λ (covering : Covering). covering.ranges) c.other.view_is
