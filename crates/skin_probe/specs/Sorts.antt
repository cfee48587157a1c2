-- The two sorts of areas. This project's own.
use Rattle.std.specs.Prelude.{Bool}
use Rattle.s57_types.specs.declared.record.Feature.{Feature}
use Rattle.rule_spec.specs.Features.{is_coverage_area, is_group1_area}
use Rattle.skin_probe.specs.declared.area.AreaSort.{AreaSort}
use Rattle.skin_probe.specs.declared.area.AreaSort.TheVariants.{Group1, Coverage}

abbrev pub is_of_sort : AreaSort → Feature → Bool
is_of_sort Group1 f = is_group1_area f
is_of_sort Coverage f = is_coverage_area f
