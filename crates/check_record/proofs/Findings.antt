-- The findings about a node or an edge, kind after kind.
use Rattle.std.proofs.Common.{◌≡◌, Bool, true, false, ◌||◌, List, [], ◌++◌, map, Option, cond, refl, sym, ap, ◌∙◌, append_assoc}
use Rattle.std.specs.Prelude.{◌==◌}
use Rattle.std.specs.Option.{option_map_or}
use Rattle.std.proofs.lemmas.List.{append-nil}
use Rattle.s57_types.specs.declared.name.Kind.{Kind}
use Rattle.s57_types.specs.declared.name.Kind.TheVariants.{Vi, Vc, Ve, Fe, Head}
use Rattle.s57_types.specs.declared.record.Rec.TheVariants.{V}
use Rattle.s57_types.specs.declared.record.Vector.{Vector}
use Rattle.s57_types.specs.declared.cell.Cell.{Cell}
use Rattle.cell_spec.specs.declared.finding.Finding.{Finding}
use Rattle.cell_spec.specs.Names.{kind_rank}
use Rattle.rule_spec.specs.declared.kind.TheConstants.{BAD_SHAPE, DANGLING_END, END_COUNT, NODE_POINTER, SELF_MEET, STACKED}
use Rattle.rule_spec.specs.declared.line.EdgeLine.{EdgeLine}
use Rattle.rule_spec.specs.EdgeEnds.{dangling_end, end_count}
use Rattle.rule_spec.specs.EdgePoints.{line_of}
use Rattle.rule_spec.specs.Findings.{finding, findings_of_record}
use Rattle.rule_spec.specs.Records.{is_edge_name, is_node_name}
use Rattle.rule_spec.specs.Rule.{Found, found_at}
use Rattle.rule_spec.specs.Vectors.{bad_shape, node_pointer, self_meet, self_meet_of, stacked, stacked_segment}

-- six rules' findings one after the other, where four are on edges and the last is on nodes
six_rules : Bool → Bool → Found → Found → Found → Found → Found → Found → List Finding
six_rules edge node one two three four five six =
    map (finding BAD_SHAPE) one ++ (map (finding END_COUNT) (cond edge two [])
    ++ (map (finding DANGLING_END) (cond edge three []) ++ (map (finding STACKED) (cond edge four [])
    ++ (map (finding SELF_MEET) (cond edge five []) ++ (map (finding NODE_POINTER) (cond node six []) ++ [])))))

are_six_rules : (c : Cell) (v : Vector) → findings_of_record c (V v) ≡ six_rules (is_edge_name v.name) (is_node_name v.name)
    (bad_shape c v) (end_count c v) (dangling_end c v) (stacked c v) (self_meet c v) (node_pointer c v)
unfolding six_rules
are_six_rules c v = refl

node_is_no_edge : (k : Kind) → ((kind_rank k == 0) || (kind_rank k == 1)) ≡ true → (kind_rank k == 2) ≡ false
node_is_no_edge Vi h = refl
node_is_no_edge Vc h = refl
node_is_no_edge Ve h = absurd cc
node_is_no_edge Fe h = absurd cc
node_is_no_edge Head h = absurd cc

edge_is_no_node : (k : Kind) → (kind_rank k == 2) ≡ true → ((kind_rank k == 0) || (kind_rank k == 1)) ≡ false
edge_is_no_node Vi h = absurd cc
edge_is_no_node Vc h = absurd cc
edge_is_no_node Ve h = refl
edge_is_no_node Fe h = absurd cc
edge_is_no_node Head h = absurd cc

-- the findings about a node
pub node_kinds : (c : Cell) (v : Vector) → is_node_name v.name ≡ true → map (finding BAD_SHAPE) (bad_shape c v)
    ++ map (finding NODE_POINTER) (node_pointer c v) ≡ findings_of_record c (V v)
unfolding six_rules
node_kinds c v h =
    let all = λ (edge node : Bool). six_rules edge node (bad_shape c v) (end_count c v) (dangling_end c v) (stacked c v) (self_meet c v) (node_pointer c v) in
    ap (λ rest. map (finding BAD_SHAPE) (bad_shape c v) ++ rest) (sym (append-nil (map (finding NODE_POINTER) (node_pointer c v))))
    ∙ ap (all false) (sym h) ∙ ap (λ edge. all edge (is_node_name v.name)) (sym (node_is_no_edge v.name.kind h))
    ∙ sym (are_six_rules c v)

-- the findings about an edge
pub edge_kinds : (c : Cell) (v : Vector) (places : Found) (line : Option EdgeLine) → is_edge_name v.name ≡ true → places ≡ dangling_end c v → line ≡ line_of c v
    → ((map (finding BAD_SHAPE) (bad_shape c v) ++ map (finding END_COUNT) (end_count c v)) ++ map (finding DANGLING_END) places)
    ++ (map (finding STACKED) (option_map_or (λ (line : EdgeLine). found_at (stacked_segment line.points)) line [])
    ++ map (finding SELF_MEET) (option_map_or (λ (line : EdgeLine). self_meet_of line.points) line []))
    ≡ findings_of_record c (V v)
unfolding six_rules
edge_kinds c v places line h dangling is_line =
    let all = λ (edge node : Bool). six_rules edge node (bad_shape c v) (end_count c v) (dangling_end c v) (stacked c v) (self_meet c v) (node_pointer c v) in
    (λ i. ((map (finding BAD_SHAPE) (bad_shape c v) ++ map (finding END_COUNT) (end_count c v)) ++ map (finding DANGLING_END) (dangling i))
    ++ (map (finding STACKED) (option_map_or (λ (line : EdgeLine). found_at (stacked_segment line.points)) (is_line i) [])
    ++ map (finding SELF_MEET) (option_map_or (λ (line : EdgeLine). self_meet_of line.points) (is_line i) [])))
    ∙ regroup (map (finding BAD_SHAPE) (bad_shape c v)) (map (finding END_COUNT) (end_count c v)) (map (finding DANGLING_END) (dangling_end c v))
    (map (finding STACKED) (stacked c v)) (map (finding SELF_MEET) (self_meet c v))
    ∙ ap (all true) (sym (edge_is_no_node v.name.kind h)) ∙ ap (λ edge. all edge (is_node_name v.name)) (sym h)
    ∙ sym (are_six_rules c v)
  where
    regroup : (a b c d e : List Finding) → ((a ++ b) ++ c) ++ (d ++ e) ≡ a ++ (b ++ (c ++ (d ++ (e ++ []))))
    regroup a b c d e = ap (λ rest. ((a ++ b) ++ c) ++ (d ++ rest)) (sym (append-nil e)) ∙ simp append_assoc

-- two rules' findings appended one after the other
pub two_appended : (new first second a b : List Finding) → new ≡ [] → first ≡ new ++ a → second ≡ first ++ b → second ≡ a ++ b
two_appended new first second a b e f g = g ∙ ap (λ xs. xs ++ b) (f ∙ ap (λ xs. xs ++ a) e)

-- the same of four, where the first two were appended before
pub four_appended : (shape third fourth a b c d : List Finding) → shape ≡ a ++ b → third ≡ shape ++ c → fourth ≡ third ++ d → fourth ≡ ((a ++ b) ++ c) ++ d
four_appended shape third fourth a b c d e f g = g ∙ ap (λ xs. xs ++ d) (f ∙ ap (λ xs. xs ++ c) e)

-- the findings about a vector record that is neither a node nor an edge
pub shape_kinds : (c : Cell) (v : Vector) → is_node_name v.name ≡ false → is_edge_name v.name ≡ false
    → map (finding BAD_SHAPE) (bad_shape c v) ≡ findings_of_record c (V v)
unfolding six_rules
shape_kinds c v node edge =
    let all = λ (edge node : Bool). six_rules edge node (bad_shape c v) (end_count c v) (dangling_end c v) (stacked c v) (self_meet c v) (node_pointer c v) in
    sym (append-nil (map (finding BAD_SHAPE) (bad_shape c v))) ∙ ap (all false) (sym node) ∙ ap (λ edge. all edge (is_node_name v.name))
    (sym edge) ∙ sym (are_six_rules c v)
