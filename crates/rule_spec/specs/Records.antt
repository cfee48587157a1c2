-- Which record of a cell is a node, an edge or a feature.
use Rattle.std.specs.Prelude.{◌||◌, Bool, List, [], ◌∷◌, Option, None, Some, if◌then◌else◌, is_some, option_and_then}
use Rattle.s57_types.specs.declared.name.Kind.TheVariants.{Vi, Vc, Ve}
use Rattle.s57_types.specs.declared.name.RecName.{RecName}
use Rattle.s57_types.specs.declared.record.Vector.{Vector}
use Rattle.s57_types.specs.declared.record.Feature.{Feature}
use Rattle.s57_types.specs.declared.record.Rec.{Rec}
use Rattle.s57_types.specs.declared.record.Rec.TheVariants.{V, F, H}
use Rattle.s57_types.specs.declared.cell.Cell.{Cell}
use Rattle.cell_spec.specs.Lookup.{lookup_record}
use Rattle.cell_spec.specs.Names.{is_of_kind}

-- an isolated or a connected node; an edge
abbrev pub is_node_name : RecName → Bool
is_node_name n = is_of_kind Vi n || is_of_kind Vc n

abbrev pub is_edge_name : RecName → Bool
is_edge_name n = is_of_kind Ve n

-- a vector record whose name passes a test
abbrev pub vector_of : (RecName → Bool) → Rec → Option Vector
vector_of test (V v) = if test v.name then Some v else None
vector_of test (F f) = None
vector_of test (H h) = None

abbrev pub feature_of : Rec → Option Feature
feature_of (V v) = None
feature_of (F f) = Some f
feature_of (H h) = None

-- the vector record of a name, if the cell has it
abbrev pub vector_named : (RecName → Bool) → Cell → RecName → Option Vector
vector_named test c n = option_and_then (vector_of test) (lookup_record c n)

-- the connected node of a name
abbrev pub node_named : Cell → RecName → Option Vector
node_named c n = vector_named (is_of_kind Vc) c n

-- the edge of a name
abbrev pub edge_named : Cell → RecName → Option Vector
edge_named c n = vector_named is_edge_name c n

-- the feature of a name
abbrev pub feature_named : Cell → RecName → Option Feature
feature_named c n = option_and_then feature_of (lookup_record c n)

-- whether a name is one of a connected node or an edge of the cell
abbrev pub is_chain_part : Cell → RecName → Bool
is_chain_part c n = is_some (node_named c n) || is_some (edge_named c n)

-- the only item of a list
abbrev pub the_only : {X : Type 0} → List X → Option X
the_only [] = None
the_only (x ∷ []) = Some x
the_only (x ∷ y ∷ rest) = None
