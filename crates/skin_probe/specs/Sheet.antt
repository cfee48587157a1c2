-- What is told of the areas round a point. This project's own.
use Rattle.std.specs.Prelude.{ℕ, Bool, not, List, ℤ, pos, map, filter}
use Rattle.std.specs.Ordering.{int_eq}
use Rattle.s57_types.specs.declared.record.Feature.{Feature}
use Rattle.s57_types.specs.declared.cell.Cell.{Cell}
use Rattle.geometry_spec.specs.Points.{Point}
use Rattle.rule_spec.specs.Features.{is_coverage_area, is_group1_area}
use Rattle.skin_probe.specs.declared.sheet.ProbeSheet.{ProbeSheet}
use Rattle.skin_probe.specs.Totals.{areas_of, unbalanced_total, winding_total}
use Rattle.skin_probe.specs.Winding.{winding_number}

-- an area's number with its winding number
abbrev pub wind_of : Cell → Point → Feature → ℕ × ℤ
wind_of c at area = (area.name.id, winding_number c at area)

-- it goes round the point
abbrev pub goes_round : ℕ × ℤ → Bool
goes_round wind = not (int_eq wind.1 (pos 0))

-- the areas that go round the point, each with its winding number
abbrev pub winds_round : (Feature → Bool) → Cell → Point → List (ℕ × ℤ)
winds_round is_such c at = filter goes_round (map (wind_of c at) (areas_of is_such c))

-- the areas of Group 1 and those of the coverage that go round a point, the two sums, and how many sides are unbalanced
abbrev pub sheet_of : Cell → Point → ProbeSheet
sheet_of c at = record {
  group1 = winds_round is_group1_area c at;
  cover = winds_round is_coverage_area c at;
  sums = (winding_total is_group1_area c at, winding_total is_coverage_area c at);
  unbalanced = unbalanced_total c;
}
