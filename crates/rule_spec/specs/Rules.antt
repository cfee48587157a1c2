-- The rules by what they are about, each with the number of its kind, its name and how many numbers its findings print; within a list the
-- numbers ascend, which is the order of a subject's findings. This project's own numbers and names.
use Rattle.std.specs.Prelude.{List, [], ◌∷◌, codes, if◌then◌else◌}
use Rattle.s57_types.specs.declared.cell.Cell.{Cell}
use Rattle.s57_types.specs.declared.name.Lnam.{Lnam}
use Rattle.s57_types.specs.declared.name.RecName.{RecName}
use Rattle.s57_types.specs.declared.record.Feature.{Feature}
use Rattle.s57_types.specs.declared.record.Vector.{Vector}
use Rattle.rule_spec.specs.Boundary.{open_ring, mixed_ring, outer_count, wrong_turn}
use Rattle.rule_spec.specs.Contacts.{cross, touch, coincide, same_place, node_on_edge}
use Rattle.rule_spec.specs.EdgeEnds.{end_count, dangling_end}
use Rattle.rule_spec.specs.Features.{prim_refs, dangling_ref, bad_codes, dangling_feature, wrong_group, bad_level}
use Rattle.rule_spec.specs.Records.{is_node_name, is_edge_name}
use Rattle.rule_spec.specs.Rule.{Found}
use Rattle.rule_spec.specs.RuleRow.{RuleRow, row}
use Rattle.rule_spec.specs.declared.kind.TheConstants.{BAD_SHAPE, END_COUNT, DANGLING_END, STACKED, SELF_MEET, NODE_POINTER, CROSS, TOUCH, COINCIDE}
use Rattle.rule_spec.specs.declared.kind.TheConstants.{SAME_PLACE, NODE_ON_EDGE, PRIM_REFS, DANGLING_REF, BAD_CODES, OPEN_RING, MIXED_RING, OUTER_COUNT}
use Rattle.rule_spec.specs.declared.kind.TheConstants.{WRONG_TURN, DANGLING_FEATURE, WRONG_GROUP, ORPHAN, SIDE_OVERLAP, SIDE_UNBALANCED, FALSE_TRUNCATION}
use Rattle.rule_spec.specs.declared.kind.TheConstants.{TWICE_FOID, BAD_LEVEL}
use Rattle.rule_spec.specs.Sides.{orphan, side_overlap, side_unbalanced, false_truncation, twice_foid}
use Rattle.rule_spec.specs.Vectors.{bad_shape, stacked, self_meet, node_pointer}

-- a rule on edges alone, and one on nodes alone
abbrev pub on_edges : (Cell → Vector → Found) → Cell → Vector → Found
on_edges rule c v = if is_edge_name v.name then rule c v else []

abbrev pub on_nodes : (Cell → Vector → Found) → Cell → Vector → Found
on_nodes rule c v = if is_node_name v.name then rule c v else []

-- about a vector record
abbrev pub vector_rules : List (RuleRow (Cell → Vector → Found))
vector_rules =
    row BAD_SHAPE (codes "BadShape") 0 bad_shape ∷
    row END_COUNT (codes "EndCount") 3 (on_edges end_count) ∷
    row DANGLING_END (codes "DanglingEnd") 1 (on_edges dangling_end) ∷
    row STACKED (codes "Stacked") 1 (on_edges stacked) ∷
    row SELF_MEET (codes "SelfMeet") 2 (on_edges self_meet) ∷
    row NODE_POINTER (codes "NodePointer") 0 (on_nodes node_pointer) ∷
    []

-- about two connected nodes or edges, the lesser name first
abbrev pub pair_rules : List (RuleRow (Cell → RecName → RecName → Found))
pair_rules =
    row CROSS (codes "Cross") 2 cross ∷
    row TOUCH (codes "Touch") 2 touch ∷
    row COINCIDE (codes "Coincide") 2 coincide ∷
    row SAME_PLACE (codes "SamePlace") 0 same_place ∷
    row NODE_ON_EDGE (codes "NodeOnEdge") 1 node_on_edge ∷
    []

-- about a feature
abbrev pub feature_rules : List (RuleRow (Cell → Feature → Found))
feature_rules =
    row PRIM_REFS (codes "PrimRefs") 0 prim_refs ∷
    row DANGLING_REF (codes "DanglingRef") 1 dangling_ref ∷
    row BAD_CODES (codes "BadCodes") 1 bad_codes ∷
    row OPEN_RING (codes "OpenRing") 1 open_ring ∷
    row MIXED_RING (codes "MixedRing") 1 mixed_ring ∷
    row OUTER_COUNT (codes "OuterCount") 1 outer_count ∷
    row WRONG_TURN (codes "WrongTurn") 1 wrong_turn ∷
    row DANGLING_FEATURE (codes "DanglingFeature") 1 dangling_feature ∷
    row WRONG_GROUP (codes "WrongGroup") 0 wrong_group ∷
    row BAD_LEVEL (codes "BadLevel") 1 bad_level ∷
    []

-- about the two sides of an edge
abbrev pub side_rules : List (RuleRow (Cell → RecName → Found))
side_rules =
    row ORPHAN (codes "Orphan") 0 orphan ∷
    row SIDE_OVERLAP (codes "SideOverlap") 4 side_overlap ∷
    row SIDE_UNBALANCED (codes "SideUnbalanced") 4 side_unbalanced ∷
    row FALSE_TRUNCATION (codes "FalseTruncation") 2 false_truncation ∷
    []

-- about an identifier
abbrev pub identity_rules : List (RuleRow (Cell → Lnam → Found))
identity_rules =
    row TWICE_FOID (codes "TwiceFoid") 1 twice_foid ∷
    []
