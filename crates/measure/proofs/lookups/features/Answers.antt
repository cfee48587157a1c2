use Rattle.std.proofs.Common.{◌≡◌, ◌<◌, ◌+◌, map, sym, subst, arith}
use Rattle.std.specs.List.{All, IsDistinct}
use Rattle.std.proofs.lemmas.List.Elements.{All-nil, All-push}
use Rattle.s57_types.specs.declared.name.Kind.TheVariants.{Fe}
use Rattle.cell_spec.specs.Lookup.{name_of}
use Rattle.cell_spec.specs.Names.{same_name}
use Rattle.cell_spec.specs.Writable.{AreOfKind}
use Rattle.chain_topo.proofs.SmallRecords.{FitsAnywhere}
use Rattle.measure.proofs.NumberedFeatures.{no_features_distinct, distinct_more, below_more, kinds_more}
use Rattle.measure.proofs.lookups.features.Goals as goal

pub loop-id-init : goal.loop-id-init
loop-id-init c =
    let none = sym c.in_ok-features.ensures.items in
    record {
      count = omega (arith, c.in_ok-features.ensures.len);
      distinct = subst (λ rs. IsDistinct same_name (map name_of rs)) none no_features_distinct;
      kinds = subst (AreOfKind Fe) none (All-nil (λ r. (name_of r).kind ≡ Fe));
      below = subst (All (λ r. (name_of r).id < 0)) none (All-nil (λ r. (name_of r).id < 0));
      fit = subst (All FitsAnywhere) none (All-nil FitsAnywhere);
    }

pub loop-id-preserved : goal.loop-id-preserved
loop-id-preserved c =
    let facts = c.loop-id.invariant in
    let more = sym c.in_ok-push.ensures.items in
    record {
      count = omega (arith, c.in_ok-push.ensures.len, facts.count);
      distinct = subst (λ rs. IsDistinct same_name (map name_of rs)) more
          (distinct_more c.loop-id.features.items c.in_ok-feature.feature c.loop-id.id facts.distinct facts.below c.in_ok-feature.ensures.name);
      kinds = subst (AreOfKind Fe) more (kinds_more c.loop-id.features.items c.in_ok-feature.feature facts.kinds c.in_ok-feature.ensures.kind);
      below = subst (All (λ r. (name_of r).id < c.loop-id.id + 1)) more
          (below_more c.loop-id.features.items c.in_ok-feature.feature c.loop-id.id facts.below c.in_ok-feature.ensures.name);
      fit = subst (All FitsAnywhere) more (All-push FitsAnywhere c.loop-id.features.items c.in_ok-feature.feature facts.fit c.in_ok-feature.ensures.fits);
    }
