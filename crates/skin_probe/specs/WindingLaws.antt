-- What is proved of winding numbers: sums over areas are sums over edges. This project's own.
use Rattle.std.specs.Prelude.{◌≡◌, ℤ, pos, ◌-ℤ◌, ◌*ℤ◌, map}
use Rattle.s57_types.specs.declared.cell.Cell.{Cell}
use Rattle.cell_spec.specs.Lookup.{name_of}
use Rattle.cell_spec.specs.Writable.{IsWritable}
use Rattle.geometry_spec.specs.Points.{Point}
use Rattle.rule_spec.specs.declared.side.EdgeSideCounts.{EdgeSideCounts}
use Rattle.rule_spec.specs.Features.{is_coverage_area, is_group1_area}
use Rattle.rule_spec.specs.Sides.{side_counts, uses_of}
use Rattle.skin_probe.specs.Totals.{unbalanced_total, winding_total}
use Rattle.skin_probe.specs.Winding.{edge_winding, sum_of}

-- how much more often such areas use an edge forward than in reverse
abbrev pub group1_excess : EdgeSideCounts → ℤ
group1_excess n = pos n.group1_forward -ℤ pos n.group1_reverse

abbrev pub coverage_excess : EdgeSideCounts → ℤ
coverage_excess n = pos n.coverage_forward -ℤ pos n.coverage_reverse

-- the sum over the edges of a cell of that excess times the edge's own part
abbrev pub sum_by_edges : (EdgeSideCounts → ℤ) → Cell → Point → ℤ
sum_by_edges excess c at = sum_of (λ e. excess (side_counts (uses_of c e)) *ℤ edge_winding c at e) (map name_of c.ve)

-- the sums of the winding numbers over the areas of Group 1, and over those of the coverage, are such sums over edges
pub record AreSumsByEdges (c : Cell) (at : Point) (sums : ℤ × ℤ) : Type 0 where
  pub group1 : sums.0 ≡ sum_by_edges group1_excess c at
  pub coverage : sums.1 ≡ sum_by_edges coverage_excess c at

abbrev pub both_totals : Cell → Point → ℤ × ℤ
both_totals c at = (winding_total is_group1_area c at, winding_total is_coverage_area c at)

-- in each cell, round each point, whether boundaries are closed or not
abbrev pub WindingSumByEdges : Type 0
WindingSumByEdges = (c : Cell) → IsWritable c → (at : Point) → AreSumsByEdges c at (both_totals c at)

-- where no side is unbalanced, Group 1 and the coverage go round each point equally often
abbrev pub BalancedSidesEqualWinding : Type 0
BalancedSidesEqualWinding =
    (c : Cell) → IsWritable c → unbalanced_total c ≡ 0 → (at : Point) → winding_total is_group1_area c at ≡ winding_total is_coverage_area c at
