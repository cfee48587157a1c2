use Rattle.std.proofs.Common.{◌≡◌, ◌++◌, map, filter}
use Rattle.std.specs.Prelude.{filter_map}
use Rattle.rule_spec.specs.Records.{feature_of}
use Rattle.skin_probe.specs.Sorts.{is_of_sort}
use Rattle.skin_probe.specs.Totals.{areas_of}
use Rattle.skin_probe.proofs.area.areas_of.Given as goal

abbrev pub invariant-loop-rec : goal.invariant-loop-rec
invariant-loop-rec l =
    map (λ f. f.now) l.areas.items ++ filter (is_of_sort l.sort) (filter_map feature_of l.rec-iterator) ≡ areas_of (is_of_sort l.sort) l.store
