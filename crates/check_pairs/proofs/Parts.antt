-- Which rules speak of two edges, of two nodes, and of a node and an edge.
use Rattle.std.proofs.Common.{◌≡◌, ℕ, Bool, true, false, cond, List, [], ◌++◌, Option, None, Some, map, refl, ap, ◌∙◌, ◌&&◌}
use Rattle.std.specs.Option.{option_and_then, option_map_or}
use Rattle.std.proofs.lemmas.Bool.{eqb-true}
use Rattle.std.proofs.lemmas.List.{append-nil}
use Rattle.s57_types.specs.declared.name.RecName.{RecName}
use Rattle.s57_types.specs.declared.record.Rec.TheVariants.{V}
use Rattle.s57_types.specs.declared.record.Vector.{Vector}
use Rattle.s57_types.specs.declared.cell.Cell.{Cell}
use Rattle.cell_spec.specs.declared.finding.Finding.{Finding}
use Rattle.cell_spec.specs.declared.key.Subject.TheVariants.{Pair}
use Rattle.cell_spec.specs.Lookup.{lookup_record}
use Rattle.cell_spec.specs.Names.{kind_rank}
use Rattle.geometry_spec.specs.Points.{Point}
use Rattle.rule_spec.specs.declared.kind.TheConstants.{COINCIDE, CROSS, NODE_ON_EDGE, SAME_PLACE, TOUCH}
use Rattle.rule_spec.specs.declared.line.EdgeLine.{EdgeLine}
use Rattle.rule_spec.specs.Contacts.{contact_of_lines, cross, touch, coincide, are_same_place, same_place, names_node, segment_under, node_on_edge}
use Rattle.rule_spec.specs.EdgePoints.{node_position, line_of, edge_line_of}
use Rattle.rule_spec.specs.Findings.{finding, findings_about, findings_of_subject, is_below, is_subject}
use Rattle.rule_spec.specs.Records.{node_named, edge_named, is_chain_part, is_edge_name, the_only}
use Rattle.rule_spec.specs.Rule.{Found, found_if}
use Rattle.check_pairs.specs.Contacts.{edge_contacts}

-- ---- the record of a name is an edge or a node
pub edge_is : (c : Cell) (n : RecName) (v : Vector) → lookup_record c n ≡ Some (V v) → is_edge_name v.name ≡ true → edge_named c n ≡ Some v
edge_is c n v h k = rw h (rw k refl)

pub no_edge : (c : Cell) (n : RecName) (v : Vector) → lookup_record c n ≡ Some (V v) → is_edge_name v.name ≡ false → edge_named c n ≡ None
no_edge c n v h k = rw h (rw k refl)

pub no_node : (c : Cell) (n : RecName) (v : Vector) → lookup_record c n ≡ Some (V v) → is_edge_name v.name ≡ true → node_named c n ≡ None
no_node c n v h k =
    let rank : kind_rank v.name.kind ≡ 2 = eqb-true (kind_rank v.name.kind) 2 k in
    rw h (rw rank refl)

-- ---- a rule is silent about what isn't of its kind
pub no_line : (c : Cell) (n : RecName) → edge_named c n ≡ None → edge_line_of c n ≡ None
unfolding edge_line_of
no_line c n h = ap (option_and_then (line_of c)) h

pub has_line : (c : Cell) (n : RecName) (v : Vector) → edge_named c n ≡ Some v → edge_line_of c n ≡ line_of c v
unfolding edge_line_of
has_line c n v h = ap (option_and_then (line_of c)) h

pub no_place : (c : Cell) (n : RecName) → node_named c n ≡ None → node_position c n ≡ None
no_place c n h = ap (option_and_then (λ (node : Vector). the_only node.plane)) h

none_with_first : (kind : ℕ) (c : Cell) (a b : RecName) → edge_named c a ≡ None → contact_of_lines kind c (edge_line_of c a) (edge_line_of c b) ≡ []
none_with_first kind c a b h = ap (λ x. contact_of_lines kind c x (edge_line_of c b)) (no_line c a h)

none_without_second : (kind : ℕ) (c : Cell) (first : Option EdgeLine) → contact_of_lines kind c first None ≡ []
none_without_second kind c None = refl
none_without_second kind c (Some first) = refl

none_with_second : (kind : ℕ) (c : Cell) (a b : RecName) → edge_named c b ≡ None → contact_of_lines kind c (edge_line_of c a) (edge_line_of c b) ≡ []
none_with_second kind c a b h = ap (contact_of_lines kind c (edge_line_of c a)) (no_line c b h) ∙ none_without_second kind c (edge_line_of c a)

apart_without_second : (p : Option Point) → found_if (are_same_place p None) [] ≡ []
apart_without_second None = refl
apart_without_second (Some p) = refl

not_same_first : (c : Cell) (a b : RecName) → node_named c a ≡ None → same_place c a b ≡ []
not_same_first c a b h = ap (λ p. found_if (are_same_place p (node_position c b)) []) (no_place c a h)

not_same_second : (c : Cell) (a b : RecName) → node_named c b ≡ None → same_place c a b ≡ []
not_same_second c a b h = ap (λ q. found_if (are_same_place (node_position c a) q) []) (no_place c b h) ∙ apart_without_second (node_position c a)

nothing_either_way : (test : Bool) (none : Found) → none ≡ [] → cond test [] none ≡ []
nothing_either_way true none h = refl
nothing_either_way false none h = h

not_on_node : (c : Cell) (a b : RecName) → edge_named c b ≡ None → node_on_edge c a b ≡ []
not_on_node c a b h = rw h refl

no_node_on : (c : Cell) (a b : RecName) → node_named c a ≡ None → node_on_edge c a b ≡ []
no_node_on c a b h =
    nothing_either_way (option_map_or (λ e. names_node e a) (edge_named c b) true) (segment_under (node_position c a) (edge_line_of c b))
    (ap (λ p. segment_under p (edge_line_of c b)) (no_place c a h))

-- ---- the findings of the rules that speak
abbrev all_five : Found → Found → Found → Found → Found → List Finding
all_five x7 x8 x9 x10 x11 = map (finding CROSS) x7 ++ (map (finding TOUCH) x8
    ++ (map (finding COINCIDE) x9 ++ (map (finding SAME_PLACE) x10 ++ (map (finding NODE_ON_EDGE) x11 ++ []))))

first_three : (x7 x8 x9 x10 x11 : Found) → x10 ≡ [] → x11 ≡ [] → all_five x7 x8 x9 x10 x11 ≡ map (finding CROSS) x7
    ++ (map (finding TOUCH) x8 ++ map (finding COINCIDE) x9)
first_three x7 x8 x9 x10 x11 h10 h11 = rw h10 (rw h11 (ap (λ z. map (finding CROSS) x7 ++ (map (finding TOUCH) x8 ++ z))
    (append-nil (map (finding COINCIDE) x9))))

fourth : (x7 x8 x9 x10 x11 : Found) → x7 ≡ [] → x8 ≡ [] → x9 ≡ [] → x11 ≡ [] → all_five x7 x8 x9 x10 x11 ≡ map (finding SAME_PLACE) x10
fourth x7 x8 x9 x10 x11 h7 h8 h9 h11 = rw h7 (rw h8 (rw h9 (rw h11 (append-nil (map (finding SAME_PLACE) x10)))))

fifth : (x7 x8 x9 x10 x11 : Found) → x7 ≡ [] → x8 ≡ [] → x9 ≡ [] → x10 ≡ [] → all_five x7 x8 x9 x10 x11 ≡ map (finding NODE_ON_EDGE) x11
fifth x7 x8 x9 x10 x11 h7 h8 h9 h10 = rw h7 (rw h8 (rw h9 (rw h10 (append-nil (map (finding NODE_ON_EDGE) x11)))))

pub of_edges : (c : Cell) (a b : RecName) → node_named c a ≡ None → findings_about c (Pair a b) ≡ edge_contacts c a b
of_edges c a b h = first_three (cross c a b) (touch c a b) (coincide c a b) (same_place c a b) (node_on_edge c a b) (not_same_first c a b h)
    (no_node_on c a b h)

pub of_nodes : (c : Cell) (a b : RecName) → edge_named c a ≡ None → edge_named c b ≡ None
    → findings_about c (Pair a b) ≡ map (finding SAME_PLACE) (same_place c a b)
of_nodes c a b h k = fourth (cross c a b) (touch c a b) (coincide c a b) (same_place c a b) (node_on_edge c a b)
    (none_with_first 7 c a b h) (none_with_first 8 c a b h) (none_with_first 9 c a b h) (not_on_node c a b k)

pub of_node_and_edge : (c : Cell) (a b : RecName) → edge_named c a ≡ None → node_named c b ≡ None
    → findings_about c (Pair a b) ≡ map (finding NODE_ON_EDGE) (node_on_edge c a b)
of_node_and_edge c a b h k = fifth (cross c a b) (touch c a b) (coincide c a b) (same_place c a b) (node_on_edge c a b)
    (none_with_first 7 c a b h) (none_with_first 8 c a b h) (none_with_first 9 c a b h) (not_same_second c a b k)

pub of_edge_and_node : (c : Cell) (a b : RecName) → node_named c a ≡ None → edge_named c b ≡ None → findings_about c (Pair a b) ≡ []
of_edge_and_node c a b h k = fifth (cross c a b) (touch c a b) (coincide c a b) (same_place c a b) (node_on_edge c a b)
    (none_with_second 7 c a b k) (none_with_second 8 c a b k) (none_with_second 9 c a b k) (not_same_first c a b h)
    ∙ ap (map (finding NODE_ON_EDGE)) (no_node_on c a b h)

-- ---- a subject of the cell
first_of_three : (x y z : Bool) → (x && y && z) ≡ true → x ≡ true
first_of_three true y z h = refl
first_of_three false y z h = h

pub below_from_subject : (c : Cell) (a b : RecName) → is_subject c (Pair a b) ≡ true → is_below a b ≡ true
below_from_subject c a b h = first_of_three (is_below a b) (is_chain_part c a) (is_chain_part c b) h

pub findings_of : (c : Cell) (a b : RecName) → is_subject c (Pair a b) ≡ true → findings_of_subject c (Pair a b) ≡ findings_about c (Pair a b)
unfolding findings_of_subject
findings_of c a b h = ap (λ t. cond t (findings_about c (Pair a b)) []) h
