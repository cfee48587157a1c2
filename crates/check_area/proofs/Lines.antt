-- The line of an edge, by its two ends.
use Rattle.std.proofs.Common.{◌≡◌, List, Option, None, Some, option_map, refl, ap, subst, sym}
use Rattle.std.specs.Prelude.{option_and_then}
use Rattle.s57_types.specs.declared.name.Kind.TheVariants.{Ve}
use Rattle.s57_types.specs.declared.name.RecName.{RecName}
use Rattle.s57_types.specs.declared.record.Vector.{Vector}
use Rattle.s57_types.specs.declared.cell.Cell.{Cell}
use Rattle.geometry_spec.specs.Points.{Point}
use Rattle.rule_spec.specs.EdgePoints.{edge_line_of, line_between, line_of, node_at, node_position}
use Rattle.near_records.specs.LineEnds.{line_end, line_from}
use Rattle.rule_spec.specs.Records.{edge_named}
use Rattle.cell_spec.specs.declared.key.Key.{Key}
use Rattle.check_area.specs.Lines.{AsksForLine, IsAskedEdge, edge_name, sweep_named}
use Rattle.check_area.specs.Sweeps.{sweep_if, sweep_of}

-- a line is there where both its ends are
none_last : (b : RecName) (points : List Point) (p : Option Point) → None ≡ sweep_if (option_map (λ (at : Point). record { node = b; at = at }) p) points None
none_last b points None = refl
none_last b points (Some p) = refl

both_by : (b n : RecName) (points : List Point) (p q : Option Point)
    → option_map sweep_of (option_and_then (λ (p : Point). option_map
    (λ (q : Point). line_from (record { node = b; at = p }) points (record { node = n; at = q })) q) p)
    ≡ sweep_if (option_map (λ (at : Point). record { node = b; at = at }) p) points (option_map (λ (at : Point). record { node = n; at = at }) q)
both_by b n points None q = refl
both_by b n points (Some p) None = refl
both_by b n points (Some p) (Some q) = refl

line_by : (c : Cell) (e : Vector) (b n : Option RecName) → option_map sweep_of (line_between c e b n) ≡ sweep_if (line_end c b) e.plane (line_end c n)
line_by c e None n = refl
line_by c e (Some b) None = none_last b e.plane (node_position c b)
line_by c e (Some b) (Some n) = both_by b n e.plane (node_position c b) (node_position c n)

pub line_ends : (c : Cell) (e : Vector) → option_map sweep_of (line_of c e) ≡ sweep_if (line_end c (node_at 1 e)) e.plane (line_end c (node_at 2 e))
line_ends c e = line_by c e (node_at 1 e) (node_at 2 e)

-- the edge of a name
pub no_edge_swept : (c : Cell) (n : RecName) → edge_named c n ≡ None → sweep_named c n ≡ None
unfolding edge_line_of
no_edge_swept c n h = ap (λ (e : Option Vector). option_map sweep_of (option_and_then (line_of c) e)) h

pub asked_edge : (c : Cell) (keys : List Key) (n : RecName) (edge : Vector) → AsksForLine c keys n → edge_named c n ≡ Some edge → IsAskedEdge c keys n edge
unfolding edge_line_of
asked_edge c keys n edge asks h = record {
  swept = ap (λ (e : Option Vector). option_map sweep_of (option_and_then (line_of c) e)) h;
  ends = asks.ends edge h;
}

-- the name of an edge by its number
pub edge_by_number : (n : RecName) → n.kind ≡ Ve → edge_name n.id ≡ n
edge_by_number n e = λ i. record { kind = sym e i; id = n.id }

pub asked_by_number : (c : Cell) (keys : List Key) (n : RecName) (edge : Vector) → n.kind ≡ Ve → IsAskedEdge c keys n edge
    → IsAskedEdge c keys (edge_name n.id) edge
asked_by_number c keys n edge e asked = subst (λ (n : RecName). IsAskedEdge c keys n edge) (sym (edge_by_number n e)) asked
