-- The lines of edges: what a line is made of, and what it is where an end moves.
use Rattle.std.proofs.Common.{◌≡◌, inl, ℕ, Bool, true, false, List, [], ◌∷◌, ◌++◌, Option, None, Some, cond, filter, length, map, refl, sym, ap, ◌∙◌}
use Rattle.std.specs.Prelude.{◌==◌, option_and_then, option_map}
use Rattle.std.proofs.lemmas.Bool.{eqb-true}
use Rattle.s57_types.specs.declared.name.RecName.{RecName}
use Rattle.s57_types.specs.declared.record.End.{End}
use Rattle.s57_types.specs.declared.record.Vector.{Vector}
use Rattle.s57_types.specs.declared.cell.Cell.{Cell}
use Rattle.geometry_spec.specs.Points.{Point}
use Rattle.rule_spec.specs.declared.line.EdgeLine.{EdgeLine}
use Rattle.rule_spec.specs.EdgePoints.{edge_line_of, line_between, line_of, node_at, node_position}
use Rattle.rule_spec.specs.Records.{edge_named, the_only}
use Rattle.answer_laws.proofs.Among.{Among, picked}
use Rattle.topo_ops.specs.Chains.{Chain, chain_by, chain_named, chain_of, no_chain, two_ended}
use Rattle.topo_ops.specs.declared.refusal.OpRefusal.TheVariants.{NoEdge}
use Rattle.topo_ops.specs.Split.{end_moved}

-- ---- an edge that can be split or joined
pub record ChainParts (c : Cell) (n : RecName) (chain : Chain) : Type 0 where
  pub edge_is : edge_named c n ≡ Some chain.edge
  pub line_is : line_of c chain.edge ≡ Some chain.line

with_line : (c : Cell) (n : RecName) (v : Vector) (chain : Chain) (o : Option EdgeLine) → edge_named c n ≡ Some v → line_of c v ≡ o
    → option_map (chain_by v) o ≡ Some chain → ChainParts c n chain
with_line c n v chain None found is e = cc
with_line c n v chain (Some line) found is e =
    let same : chain_by v line ≡ chain = cc in
    let edge : v ≡ chain.edge = ap (λ (x : Chain). x.edge) same in
    record { edge_is = found ∙ ap (λ x. Some x) edge; line_is = ap (line_of c) (sym edge) ∙ is ∙ ap (λ (x : Chain). Some x.line) same }

with_ends : (c : Cell) (n : RecName) (v : Vector) (chain : Chain) (two : Bool) → edge_named c n ≡ Some v
    → cond two (option_map (chain_by v) (line_of c v)) None ≡ Some chain → ChainParts c n chain
with_ends c n v chain true found e = with_line c n v chain (line_of c v) found refl e
with_ends c n v chain false found e = cc

with_edge : (c : Cell) (n : RecName) (chain : Chain) (o : Option Vector) → edge_named c n ≡ o → option_and_then (chain_of c) o ≡ Some chain
    → ChainParts c n chain
with_edge c n chain None found e = cc
with_edge c n chain (Some v) found e = with_ends c n v chain (length v.ends == 2) found e

pub chain_parts : (c : Cell) (n : RecName) (chain : Chain) → chain_named c n ≡ Some chain → ChainParts c n chain
unfolding chain_named
chain_parts c n chain e = with_edge c n chain (edge_named c n) refl e

pub line_found : (c : Cell) (n : RecName) (v : Vector) (line : EdgeLine) → edge_named c n ≡ Some v → line_of c v ≡ Some line → edge_line_of c n ≡ Some line
unfolding edge_line_of
line_found c n v line found is = ap (option_and_then (line_of c)) found ∙ is

-- an edge of two ends is one that can be split or joined where it has a line
two_by : (c : Cell) (v w : Vector) (two : Bool) → cond two (Some v) None ≡ Some w
    → cond two (option_map (chain_by v) (line_of c v)) None ≡ option_map (chain_by w) (line_of c w)
two_by c v w true e = let same : v ≡ w = cc in λ i. option_map (chain_by (same i)) (line_of c (same i))
two_by c v w false e = cc

chain_by_edge : (c : Cell) (w : Vector) (o : Option Vector) → option_and_then two_ended o ≡ Some w
    → option_and_then (chain_of c) o ≡ option_map (chain_by w) (option_and_then (line_of c) o)
chain_by_edge c w None e = cc
chain_by_edge c w (Some v) e = two_by c v w (length v.ends == 2) e ∙ ap (λ x. option_map (chain_by w) (line_of c x)) (sym (same_edge (length v.ends == 2) e))
  where
    same_edge : (two : Bool) → cond two (Some v) None ≡ Some w → v ≡ w
    same_edge true h = cc
    same_edge false h = cc

chain_is : (c : Cell) (n : RecName) (w : Vector) → option_and_then two_ended (edge_named c n) ≡ Some w
    → chain_named c n ≡ option_map (chain_by w) (edge_line_of c n)
unfolding chain_named edge_line_of
chain_is c n w e = chain_by_edge c w (edge_named c n) e

pub chain_there : (c : Cell) (n : RecName) (w : Vector) (line : EdgeLine) → option_and_then two_ended (edge_named c n) ≡ Some w
    → edge_line_of c n ≡ Some line → chain_named c n ≡ Some (chain_by w line)
chain_there c n w line e is = chain_is c n w e ∙ ap (option_map (chain_by w)) is

pub no_line : (c : Cell) (n : RecName) (w : Vector) → option_and_then two_ended (edge_named c n) ≡ Some w → edge_line_of c n ≡ None
    → no_chain n (chain_named c n) ≡ Some (NoEdge n.id)
no_line c n w e is = ap (no_chain n) (chain_is c n w e ∙ ap (option_map (chain_by w)) is)

none_by : (c : Cell) (v : Vector) (two : Bool) → cond two (Some v) None ≡ None → cond two (option_map (chain_by v) (line_of c v)) None ≡ None
none_by c v true e = cc
none_by c v false e = refl

no_edge_by : (c : Cell) (o : Option Vector) → option_and_then two_ended o ≡ None → option_and_then (chain_of c) o ≡ None
no_edge_by c None e = refl
no_edge_by c (Some v) e = none_by c v (length v.ends == 2) e

pub no_edge : (c : Cell) (n : RecName) → option_and_then two_ended (edge_named c n) ≡ None → no_chain n (chain_named c n) ≡ Some (NoEdge n.id)
unfolding chain_named
no_edge c n e = ap (no_chain n) (no_edge_by c (edge_named c n) e)

-- ---- the parts of a line
abbrev pub line_through : Vector → RecName → RecName → Point → Point → EdgeLine
line_through v m n p q = record { begins = m; ends = n; points = p ∷ (v.plane ++ q ∷ []) }

pub record LineParts (c : Cell) (v : Vector) (line : EdgeLine) : Type 0 where
  pub begins_at : node_at 1 v ≡ Some line.begins
  pub ends_at : node_at 2 v ≡ Some line.ends
  pub first : Point
  pub last : Point
  pub first_is : node_position c line.begins ≡ Some first
  pub last_is : node_position c line.ends ≡ Some last
  pub points_are : line.points ≡ first ∷ (v.plane ++ last ∷ [])

with_points : (c : Cell) (v : Vector) (line : EdgeLine) (m n : RecName) (o r : Option Point) → node_at 1 v ≡ Some m → node_at 2 v ≡ Some n
    → node_position c m ≡ o → node_position c n ≡ r → option_and_then (λ p. option_map (λ q. line_through v m n p q) r) o ≡ Some line → LineParts c v line
with_points c v line m n None r begins ends first last e = cc
with_points c v line m n (Some p) None begins ends first last e = cc
with_points c v line m n (Some p) (Some q) begins ends first last e =
    let same : line_through v m n p q ≡ line = cc in
    let from : m ≡ line.begins = ap (λ (x : EdgeLine). x.begins) same in
    let to : n ≡ line.ends = ap (λ (x : EdgeLine). x.ends) same in
    record {
      begins_at = begins ∙ ap (λ x. Some x) from;
      ends_at = ends ∙ ap (λ x. Some x) to;
      first = p;
      last = q;
      first_is = ap (node_position c) (sym from) ∙ first;
      last_is = ap (node_position c) (sym to) ∙ last;
      points_are = ap (λ (x : EdgeLine). x.points) (sym same);
    }

with_nodes : (c : Cell) (v : Vector) (line : EdgeLine) (o r : Option RecName) → node_at 1 v ≡ o → node_at 2 v ≡ r → line_between c v o r ≡ Some line
    → LineParts c v line
with_nodes c v line None r begins ends e = cc
with_nodes c v line (Some m) None begins ends e = cc
with_nodes c v line (Some m) (Some n) begins ends e = with_points c v line m n (node_position c m) (node_position c n) begins ends refl refl e

pub line_parts : (c : Cell) (v : Vector) (line : EdgeLine) → line_of c v ≡ Some line → LineParts c v line
line_parts c v line e = with_nodes c v line (node_at 1 v) (node_at 2 v) refl refl e

pub line_made : (c : Cell) (v : Vector) (m n : RecName) (p q : Point) → node_at 1 v ≡ Some m → node_at 2 v ≡ Some n → node_position c m ≡ Some p
    → node_position c n ≡ Some q → line_of c v ≡ Some (line_through v m n p q)
line_made c v m n p q begins ends first last =
    (λ i. line_between c v (begins i) (ends i))
    ∙ (λ i. option_and_then (λ x. option_map (λ y. line_through v m n x y) (last i)) (first i))

-- ---- ends
pub record EndAt (topi : ℕ) (v : Vector) (m : RecName) : Type 0 where
  pub end : End
  pub among : Among end v.ends
  pub topi_is : (end.topi == topi) ≡ true
  pub to_is : end.to ≡ m

only_among : {X : Type 0} (xs : List X) (x : X) → the_only xs ≡ Some x → Among x xs
only_among [] x e = cc
only_among (y ∷ []) x e = inl cc
only_among (y ∷ z ∷ rest) x e = cc

end_by : (topi : ℕ) (v : Vector) (m : RecName) (o : Option End) → the_only (filter (λ (e : End). e.topi == topi) v.ends) ≡ o
    → option_map (λ (e : End). e.to) o ≡ Some m → EndAt topi v m
end_by topi v m None is e = cc
end_by topi v m (Some x) is e =
    let hit = picked (λ (y : End). y.topi == topi) x v.ends (only_among (filter (λ (y : End). y.topi == topi) v.ends) x is) in
    record { end = x; among = hit.among; topi_is = hit.passes; to_is = cc }

pub end_at : (topi : ℕ) (v : Vector) (m : RecName) → node_at topi v ≡ Some m → EndAt topi v m
end_at topi v m e = end_by topi v m (the_only (filter (λ (x : End). x.topi == topi) v.ends)) refl e

-- ---- ends of which that at the end node moves
abbrev pub ends_with : ℕ → List End → List End
ends_with topi es = filter (λ (e : End). e.topi == topi) es

module _ (n : RecName) where
  abbrev to_node : End → End
  to_node e = record e { to = n }

  is_moved : (e : End) (two : Bool) → (e.topi == 2) ≡ two → end_moved n e ≡ cond two (to_node e) e
  is_moved e two is = ap (λ b. cond b (to_node e) e) is

  first_by : (e : End) (es : List End) (two : Bool) → (e.topi == 2) ≡ two → ends_with 1 (map (end_moved n) es) ≡ ends_with 1 es
      → ends_with 1 (end_moved n e ∷ map (end_moved n) es) ≡ ends_with 1 (e ∷ es)
  first_by e es true is rest =
      let other : (e.topi == 1) ≡ false = ap (λ k. k == 1) (eqb-true e.topi 2 is) in
      (λ i. ends_with 1 (is_moved e true is i ∷ map (end_moved n) es))
      ∙ ap (λ b. cond b (to_node e ∷ ends_with 1 (map (end_moved n) es)) (ends_with 1 (map (end_moved n) es))) other
      ∙ rest
      ∙ ap (λ b. cond b (e ∷ ends_with 1 es) (ends_with 1 es)) (sym other)
  first_by e es false is rest =
      (λ i. ends_with 1 (is_moved e false is i ∷ map (end_moved n) es)) ∙ ap (λ l. cond (e.topi == 1) (e ∷ l) l) rest

  first_kept : (es : List End) → ends_with 1 (map (end_moved n) es) ≡ ends_with 1 es
  first_kept [] = refl
  first_kept (e ∷ es) = first_by e es (e.topi == 2) refl (first_kept es)

  second_by : (e : End) (es : List End) (two : Bool) → (e.topi == 2) ≡ two → ends_with 2 (map (end_moved n) es) ≡ map to_node (ends_with 2 es)
      → ends_with 2 (end_moved n e ∷ map (end_moved n) es) ≡ map to_node (ends_with 2 (e ∷ es))
  second_by e es true is rest =
      (λ i. ends_with 2 (is_moved e true is i ∷ map (end_moved n) es))
      ∙ ap (λ b. cond b (to_node e ∷ ends_with 2 (map (end_moved n) es)) (ends_with 2 (map (end_moved n) es))) is
      ∙ ap (λ l. to_node e ∷ l) rest
      ∙ ap (λ b. map to_node (cond b (e ∷ ends_with 2 es) (ends_with 2 es))) (sym is)
  second_by e es false is rest =
      (λ i. ends_with 2 (is_moved e false is i ∷ map (end_moved n) es))
      ∙ ap (λ b. cond b (e ∷ ends_with 2 (map (end_moved n) es)) (ends_with 2 (map (end_moved n) es))) is
      ∙ rest
      ∙ ap (λ b. map to_node (cond b (e ∷ ends_with 2 es) (ends_with 2 es))) (sym is)

  second_moved : (es : List End) → ends_with 2 (map (end_moved n) es) ≡ map to_node (ends_with 2 es)
  second_moved [] = refl
  second_moved (e ∷ es) = second_by e es (e.topi == 2) refl (second_moved es)

  the_only_moved : (es : List End) → the_only (map to_node es) ≡ option_map to_node (the_only es)
  the_only_moved [] = refl
  the_only_moved (e ∷ []) = refl
  the_only_moved (e ∷ f ∷ es) = refl

  moved_to : (o : Option End) (m : RecName) → option_map (λ (e : End). e.to) o ≡ Some m → option_map (λ (e : End). e.to) (option_map to_node o) ≡ Some n
  moved_to None m e = cc
  moved_to (Some x) m e = refl

  module _ (v w : Vector) (moved : w.ends ≡ map (end_moved n) v.ends) where
    -- the beginning node stays
    pub begins_kept : node_at 1 w ≡ node_at 1 v
    begins_kept = ap (λ es. option_map (λ (e : End). e.to) (the_only (ends_with 1 es))) moved
        ∙ ap (λ es. option_map (λ (e : End). e.to) (the_only es)) (first_kept v.ends)

    -- the end node is the new one
    pub ends_moved : (m : RecName) → node_at 2 v ≡ Some m → node_at 2 w ≡ Some n
    ends_moved m e =
        ap (λ es. option_map (λ (e : End). e.to) (the_only (ends_with 2 es))) moved
        ∙ ap (λ es. option_map (λ (e : End). e.to) (the_only es)) (second_moved v.ends)
        ∙ ap (option_map (λ (e : End). e.to)) (the_only_moved (ends_with 2 v.ends))
        ∙ moved_to (the_only (ends_with 2 v.ends)) m e
