-- What the loops of a boundary need of a line: its nodes, its end points, and the area that its points sweep.
use Rattle.std.specs.Prelude.{ℕ, ◌==◌, pos, ◌-ℤ◌, List, [], ◌∷◌, Option, None, Some, if◌then◌else◌}
use Rattle.geometry_spec.specs.Areas.{twice_area_along}
use Rattle.geometry_spec.specs.Points.{Point}
use Rattle.near_records.specs.LineEnds.{line_from}
use Rattle.rule_spec.specs.declared.line.EdgeLine.{EdgeLine}
use Rattle.near_records.specs.declared.ends.LineEnd.{LineEnd}
use Rattle.check_area.specs.declared.sweep.LineSweep.{LineSweep}

abbrev pub first_point : List Point → Point
first_point [] = (pos 0, pos 0)
first_point (p ∷ rest) = p

abbrev pub last_point : List Point → Point
last_point [] = (pos 0, pos 0)
last_point (p ∷ []) = p
last_point (p ∷ q ∷ rest) = last_point (q ∷ rest)

abbrev pub sweep_of : EdgeLine → LineSweep
sweep_of line = record {
  begins = line.begins;
  ends = line.ends;
  first = first_point line.points;
  last = last_point line.points;
  swept =
      twice_area_along line.points;
}

-- the same line from its end to its beginning
abbrev pub turned_sweep : LineSweep → LineSweep
turned_sweep s = record { begins = s.ends; ends = s.begins; first = s.last; last = s.first; swept = pos 0 -ℤ s.swept }

-- a line as a spatial pointer goes along it: forward (ORNT 1) or in reverse (ORNT 2)
abbrev pub sweep_along : ℕ → LineSweep → LineSweep
sweep_along ornt s = if ornt == 2 then turned_sweep s else s

abbrev pub sweep_between : LineEnd → List Point → LineEnd → LineSweep
sweep_between begins points ends = sweep_of (line_from begins points ends)

-- what is swept between two nodes, if both are there
abbrev pub sweep_if : Option LineEnd → List Point → Option LineEnd → Option LineSweep
sweep_if None points ends = None
sweep_if (Some begins) points None = None
sweep_if (Some begins) points (Some ends) = Some (sweep_between begins points ends)
