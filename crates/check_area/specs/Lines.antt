-- The parts of an area's boundary, by the lines of its edges (S-57 Part 3, 7.6.8).
use Rattle.std.specs.Prelude.{◌≡◌, ℕ, true, List, Option, None, Some, filter_map, option_map, if◌then◌else◌}
use Rattle.std.specs.BTreeMap.{BTreeMap, get}
use Rattle.std.specs.List.{All, enumerate_from, list_all}
use Rattle.std.specs.Ordering.{nat_cmp}
use Rattle.s57_types.specs.declared.name.Kind.TheVariants.{Ve}
use Rattle.s57_types.specs.declared.name.RecName.{RecName}
use Rattle.s57_types.specs.declared.record.End.{End}
use Rattle.s57_types.specs.declared.record.Spot.{Spot}
use Rattle.s57_types.specs.declared.record.Vector.{Vector}
use Rattle.s57_types.specs.declared.cell.Cell.{Cell}
use Rattle.cell_spec.specs.declared.key.Key.{Key}
use Rattle.cell_spec.specs.declared.key.Key.TheVariants.{Name}
use Rattle.near_records.specs.Near.{has_key}
use Rattle.rule_spec.specs.Boundary.{has_points}
use Rattle.rule_spec.specs.EdgePoints.{edge_line_of, line_of}
use Rattle.rule_spec.specs.Features.{target}
use Rattle.rule_spec.specs.Records.{edge_named}
use Rattle.check_area.specs.declared.part.BoundaryEdge.{BoundaryEdge}
use Rattle.check_area.specs.declared.sweep.LineSweep.{LineSweep}
use Rattle.check_area.specs.Sweeps.{sweep_along, sweep_of}

-- what the edge of a name sweeps, if it has points
abbrev pub sweep_named : Cell → RecName → Option LineSweep
sweep_named c n = option_map sweep_of (edge_line_of c n)

abbrev pub edge_name : ℕ → RecName
edge_name id = record { kind = Ve; id = id }

-- the part that a spatial pointer makes of what its edge sweeps
abbrev pub part_along : ℕ → Spot → LineSweep → BoundaryEdge
part_along place s sweep = record { place = place; usag = s.usag; sweep = sweep_along s.ornt sweep }

abbrev pub part_at : Cell → ℕ × Spot → Option BoundaryEdge
part_at c pointer = option_map (part_along pointer.0 pointer.1) (sweep_named c (target pointer.1))

-- the parts of a boundary whose spatial pointers name edges with points
abbrev pub parts_of : Cell → List Spot → Option (List BoundaryEdge)
parts_of c places = if list_all (has_points c) places then Some (filter_map (part_at c) (enumerate_from 1 places)) else None

-- keys ask for an edge and for the records that its ends name
pub record AsksForLine (c : Cell) (keys : List Key) (n : RecName) : Type 0 where
  pub name : has_key keys (Name n) ≡ true
  pub ends : (edge : Vector) → edge_named c n ≡ Some edge → All (λ (e : End). has_key keys (Name e.to) ≡ true) edge.ends

-- an edge is the record of a name, and keys ask for the records that its ends name
pub record IsAskedEdge (c : Cell) (keys : List Key) (n : RecName) (edge : Vector) : Type 0 where
  pub swept : sweep_named c n ≡ option_map sweep_of (line_of c edge)
  pub ends : All (λ (e : End). has_key keys (Name e.to) ≡ true) edge.ends

-- what is kept by the number of an edge is what it sweeps
pub record HoldsSweeps (c : Cell) (known : BTreeMap ℕ LineSweep) : Type 0 where
  pub each : (id : ℕ) (sweep : LineSweep) → get nat_cmp known id ≡ Some sweep → sweep_named c (edge_name id) ≡ Some sweep
