-- The classes of areas of which the uses of an edge are counted.
use Rattle.std.proofs.Common.{◌≡◌, ℕ, Bool, refl}
use Rattle.s57_types.specs.declared.name.RecName.{RecName}
use Rattle.s57_types.specs.declared.record.Feature.{Feature}
use Rattle.s57_types.specs.declared.cell.Cell.{Cell}
use Rattle.rule_spec.specs.declared.side.EdgeUse.{EdgeUse}
use Rattle.rule_spec.specs.Features.{is_coverage_area, is_group1_area}
use Rattle.rule_spec.specs.Sides.{side_count, uses_of}
use Rattle.topo_ops.specs.Kept.{counts_of}
use Rattle.topo_ops.proofs.UseSums.{AreaClass}

group1 : AreaClass (λ (u : EdgeUse). u.is_group1) is_group1_area
group1 = record { agree = λ r f s. refl; keeps = λ places f. refl }

coverage : AreaClass (λ (u : EdgeUse). u.is_coverage) is_coverage_area
coverage = record { agree = λ r f s. refl; keeps = λ places f. refl }

-- an edge of one cell that areas use as another edge of another cell has its counts
pub same_counts : (c d : Cell) (n m : RecName)
    → ((of_use : EdgeUse → Bool) (of_feature : Feature → Bool) → AreaClass of_use of_feature → (ornt : ℕ)
    → side_count of_use ornt (uses_of d n) ≡ side_count of_use ornt (uses_of c m))
    → counts_of d n ≡ counts_of c m
same_counts c d n m same = λ i. record {
  group1_forward = same (λ (u : EdgeUse). u.is_group1) is_group1_area group1 1 i;
  group1_reverse = same (λ (u : EdgeUse). u.is_group1) is_group1_area group1 2 i;
  coverage_forward = same (λ (u : EdgeUse). u.is_coverage) is_coverage_area coverage 1 i;
  coverage_reverse = same (λ (u : EdgeUse). u.is_coverage) is_coverage_area coverage 2 i;
}
