-- Edges that can be split or joined: chain-node topology gives an edge a beginning node and an end node (S-57 Part 2, 2.2.1.2; Part 3, 7.7.1.4).
use Rattle.std.specs.Prelude.{ℕ, ◌==◌, Option, None, Some, length, option_and_then, option_map, if◌then◌else◌}
use Rattle.s57_types.specs.declared.name.Kind.TheVariants.{Vc, Ve}
use Rattle.s57_types.specs.declared.name.RecName.{RecName}
use Rattle.s57_types.specs.declared.record.Vector.{Vector}
use Rattle.s57_types.specs.declared.cell.Cell.{Cell}
use Rattle.rule_spec.specs.declared.line.EdgeLine.{EdgeLine}
use Rattle.rule_spec.specs.EdgePoints.{line_of}
use Rattle.rule_spec.specs.Records.{edge_named}
use Rattle.topo_ops.specs.declared.refusal.OpRefusal.{OpRefusal}
use Rattle.topo_ops.specs.declared.refusal.OpRefusal.TheVariants.{NoEdge}

-- an edge with its line from its beginning node to its end node
pub record Chain : Type 0 where
  pub edge : Vector
  pub line : EdgeLine

abbrev pub chain_by : Vector → EdgeLine → Chain
chain_by e line = record { edge = e; line = line }

-- an edge, if it has exactly two ends
abbrev pub two_ended : Vector → Option Vector
two_ended e = if length e.ends == 2 then Some e else None

-- an edge of exactly two ends, with its line, if it has points
abbrev pub chain_of : Cell → Vector → Option Chain
chain_of c e = if length e.ends == 2 then option_map (chain_by e) (line_of c e) else None

-- the same for the edge of a name; none for every other name
unfoldable pub chain_named : Cell → RecName → Option Chain
chain_named c n = option_and_then (chain_of c) (edge_named c n)

-- the names of an edge and of a connected node by their numbers
abbrev pub edge_name : ℕ → RecName
edge_name id = record { kind = Ve; id = id }

abbrev pub node_name : ℕ → RecName
node_name id = record { kind = Vc; id = id }

-- no edge that can be split or joined has a name
abbrev pub no_chain : RecName → Option Chain → Option OpRefusal
no_chain n None = Some (NoEdge n.id)
no_chain n (Some chain) = None
