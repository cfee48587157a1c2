-- Sums of winding numbers, and how many sides are unbalanced. This project's own.
use Rattle.std.specs.Prelude.{ℕ, ◌==◌, Bool, List, ℤ, filter, filter_map, count_by, sum_by}
use Rattle.s57_types.specs.declared.record.Feature.{Feature}
use Rattle.s57_types.specs.declared.cell.Cell.{Cell}
use Rattle.cell_spec.specs.declared.finding.Finding.{Finding}
use Rattle.cell_spec.specs.declared.key.Subject.{Subject}
use Rattle.geometry_spec.specs.Points.{Point}
use Rattle.rule_spec.specs.declared.kind.TheConstants.{SIDE_UNBALANCED}
use Rattle.rule_spec.specs.Findings.{all_findings}
use Rattle.rule_spec.specs.Records.{feature_of}
use Rattle.skin_probe.specs.Winding.{sum_of, winding_number}

-- the features of a cell that pass a test, in file order
abbrev pub areas_of : (Feature → Bool) → Cell → List Feature
areas_of is_such c = filter is_such (filter_map feature_of c.fe)

-- the sum of the winding numbers of all such areas
abbrev pub winding_total : (Feature → Bool) → Cell → Point → ℤ
winding_total is_such c at = sum_of (winding_number c at) (areas_of is_such c)

abbrev pub is_unbalanced : Finding → Bool
is_unbalanced f = f.kind == SIDE_UNBALANCED

-- how many of a subject's findings are SideUnbalanced
abbrev pub unbalanced_in : Subject × List Finding → ℕ
unbalanced_in row = count_by is_unbalanced row.1

-- how many findings SideUnbalanced a cell has
abbrev pub unbalanced_total : Cell → ℕ
unbalanced_total c = sum_by unbalanced_in (all_findings c)
