-- What is kept of the edges that an area names, so that each is gone along once. This project's own.
use Rattle.std.specs.Prelude.{◌≡◌, ℕ, ◌==◌, ℤ, pos, ◌-ℤ◌, Some, if◌then◌else◌}
use Rattle.std.specs.BTreeMap.{BTreeMap, get}
use Rattle.std.specs.Ordering.{nat_cmp}
use Rattle.s57_types.specs.declared.name.Kind.TheVariants.{Ve}
use Rattle.s57_types.specs.declared.name.RecName.{RecName}
use Rattle.s57_types.specs.declared.cell.Cell.{Cell}
use Rattle.geometry_spec.specs.Points.{Point}
use Rattle.skin_probe.specs.declared.winding.EdgeWinding.{EdgeWinding}
use Rattle.skin_probe.specs.Winding.{edge_winding}

abbrev pub edge_name : ℕ → RecName
edge_name id = record { kind = Ve; id = id }

-- what an edge adds, by what it adds where it is taken forward: forward (ORNT 1), in reverse (ORNT 2), or not at all
abbrev pub taken : ℕ → ℤ → ℤ
taken ornt forward = if ornt == 1 then forward else (if ornt == 2 then pos 0 -ℤ forward else pos 0)

-- what is kept by the number of an edge is what it adds, taken forward
pub record HoldsWindings (c : Cell) (at : Point) (known : BTreeMap ℕ EdgeWinding) : Type 0 where
  pub each : (id : ℕ) (edge : EdgeWinding) → get nat_cmp known id ≡ Some edge → edge.forward ≡ edge_winding c at (edge_name id)
