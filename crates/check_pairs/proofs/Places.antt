-- The places of the nodes that two lines share are points of the first.
use Rattle.std.proofs.Common.{◌≡◌, ◌-◌, Bool, true, false, cond, List, [], ◌∷◌, ◌++◌, length, Option, None, Some, filter_map, map, refl, ap, subst, ◌∙◌, sym}
use Rattle.std.proofs.Common.{arith}
use Rattle.std.specs.List.{slice_get}
use Rattle.std.specs.Option.{option_map, option_and_then}
use Rattle.std.proofs.lemmas.List.{append-nil, length_push}
use Rattle.s57_types.specs.declared.name.RecName.{RecName}
use Rattle.s57_types.specs.declared.record.Vector.{Vector}
use Rattle.s57_types.specs.declared.cell.Cell.{Cell}
use Rattle.cell_spec.specs.declared.finding.Finding.{Finding}
use Rattle.geometry_spec.specs.Points.{Point}
use Rattle.rule_spec.specs.declared.kind.TheConstants.{COINCIDE, CROSS, TOUCH}
use Rattle.rule_spec.specs.declared.line.EdgeLine.{EdgeLine}
use Rattle.rule_spec.specs.Contacts.{shared_nodes, contact_of_lines}
use Rattle.rule_spec.specs.EdgePoints.{node_at, node_position, line_between, line_of, edge_line_of}
use Rattle.rule_spec.specs.Findings.{finding}
use Rattle.rule_spec.specs.Records.{edge_named}
use Rattle.check_pairs.specs.Contacts.{contact_findings, edge_contacts}
use Rattle.check_pairs.specs.SharedPlaces.{is_end_of, place_if, shared_places, first_contact}

-- ---- a line begins and ends at the places of its nodes
record HasPlaces (c : Cell) (line : EdgeLine) : Type 0 where
  pub begins : node_position c line.begins ≡ slice_get line.points 0
  pub ends : node_position c line.ends ≡ slice_get line.points (length line.points - 1)

last_of : (points : List Point) (q : Point) → slice_get (points ++ q ∷ []) (length points) ≡ Some q
last_of [] q = refl
last_of (p ∷ points) q = last_of points q

pub last_between : (p : Point) (plane : List Point) (q : Point) → slice_get (p ∷ (plane ++ q ∷ [])) (length (p ∷ (plane ++ q ∷ [])) - 1) ≡ Some q
last_between p plane q =
    let at_last : length (p ∷ (plane ++ q ∷ [])) - 1 ≡ length (p ∷ plane) = omega (arith, length_push plane q) in
    ap (slice_get (p ∷ (plane ++ q ∷ []))) at_last ∙ last_of (p ∷ plane) q

abbrev line_at : Vector → RecName → RecName → Point → Point → EdgeLine
line_at e first last p q = record { begins = first; ends = last; points = p ∷ (e.plane ++ q ∷ []) }

abbrev line_if : Vector → RecName → RecName → Option Point → Option Point → Option EdgeLine
line_if e first last p q = option_and_then (λ p. option_map (λ q. line_at e first last p q) q) p

by_places : (c : Cell) (e : Vector) (first last : RecName) (p q : Option Point) (line : EdgeLine) →
    node_position c first ≡ p → node_position c last ≡ q → line_if e first last p q ≡ Some line → HasPlaces c line
by_places c e first last None q line hp hq h = absurd (cc)
by_places c e first last (Some p) None line hp hq h = absurd (cc)
by_places c e first last (Some p) (Some q) line hp hq h =
    let same : line_at e first last p q ≡ line = cc in
    subst (HasPlaces c) same (record { begins = hp; ends = hq ∙ sym (last_between p e.plane q) })

by_nodes : (c : Cell) (e : Vector) (first last : Option RecName) (line : EdgeLine) → line_between c e first last ≡ Some line → HasPlaces c line
by_nodes c e None last line h = absurd (cc)
by_nodes c e (Some first) None line h = absurd (cc)
by_nodes c e (Some first) (Some last) line h = by_places c e first last (node_position c first) (node_position c last) line refl refl h

by_edge : (c : Cell) (e : Option Vector) (line : EdgeLine) → option_and_then (line_of c) e ≡ Some line → HasPlaces c line
by_edge c None line h = absurd (cc)
by_edge c (Some e) line h = by_nodes c e (node_at 1 e) (node_at 2 e) line h

has_places : (c : Cell) (n : RecName) (line : EdgeLine) → edge_line_of c n ≡ Some line → HasPlaces c line
unfolding edge_line_of
has_places c n line h = by_edge c (edge_named c n) line h

-- ---- the places of shared nodes
one_place : (place : RecName → Option Point) (n : RecName) (test : Bool) (p : Option Point) (rest : List RecName) → place n ≡ p →
    filter_map place (cond test (n ∷ rest) rest) ≡ place_if test p ++ filter_map place rest
one_place place n true None rest h = rw h refl
one_place place n true (Some p) rest h = rw h refl
one_place place n false None rest h = refl
one_place place n false (Some p) rest h = refl

two_places : (place : RecName → Option Point) (first last : RecName) (x y : Bool) (p q : Option Point) → place first ≡ p → place last ≡ q →
    filter_map place (cond x (first ∷ cond y (last ∷ []) []) (cond y (last ∷ []) [])) ≡ place_if x p ++ place_if y q
two_places place first last x y p q hp hq =
    one_place place first x p (cond y (last ∷ []) []) hp
    ∙ ap (λ rest. place_if x p ++ rest) (one_place place last y q [] hq ∙ append-nil (place_if y q))

shared_found : (c : Cell) (a b : EdgeLine) → HasPlaces c a → filter_map (node_position c) (shared_nodes a b) ≡ shared_places a b
shared_found c a b h = two_places (node_position c) a.begins a.ends (is_end_of b a.begins) (is_end_of b a.ends) _ _ h.begins h.ends

-- ---- the findings about two edges with lines are those about the first contact away from shared places
abbrev findings_of_lines : Cell → Option EdgeLine → Option EdgeLine → List Finding
findings_of_lines c x y =
    map (finding CROSS) (contact_of_lines CROSS c x y) ++ (map (finding TOUCH) (contact_of_lines TOUCH c x y)
    ++ map (finding COINCIDE) (contact_of_lines COINCIDE c x y))

pub contacts_found : (c : Cell) (a b : RecName) (first second : EdgeLine) → edge_line_of c a ≡ Some first → edge_line_of c b ≡ Some second →
    edge_contacts c a b ≡ contact_findings (first_contact (shared_places first second) first second)
contacts_found c a b first second ha hb =
    ap (λ x. findings_of_lines c x (edge_line_of c b)) ha
    ∙ ap (findings_of_lines c (Some first)) hb
    ∙ ap (λ places. contact_findings (first_contact places first second)) (shared_found c first second (has_places c a first ha))
