-- The line of an edge is the same in two cells that answer alike to its name and to those at its ends.
use Rattle.std.proofs.Common.{◌≡◌, ℕ, ◌==◌, Bool, [], ◌∷◌, ◌++◌, Option, None, Some, filter, IfSome, option_map, option_and_then, refl, ap, ◌∙◌}
use Rattle.std.specs.List.{AllByRecursion}
use Rattle.std.specs.Option.{option_map_or}
use Rattle.s57_types.specs.declared.name.Kind.TheVariants.{Vc}
use Rattle.s57_types.specs.declared.name.RecName.{RecName}
use Rattle.s57_types.specs.declared.record.End.{End}
use Rattle.s57_types.specs.declared.record.Vector.{Vector}
use Rattle.s57_types.specs.declared.cell.Cell.{Cell}
use Rattle.cell_spec.specs.declared.key.Key.TheVariants.{Name}
use Rattle.cell_spec.specs.Names.{is_of_kind}
use Rattle.geometry_spec.specs.Points.{Point}
use Rattle.rule_spec.specs.declared.line.EdgeLine.{EdgeLine}
use Rattle.rule_spec.specs.EdgePoints.{node_at, node_position, line_between, line_of, edge_line_of}
use Rattle.rule_spec.specs.Reads.{end_keys, end_keys_at}
use Rattle.rule_spec.specs.Records.{is_edge_name, vector_of, feature_of, node_named, edge_named, feature_named, the_only}
use Rattle.cell_spec.specs.AnswersAlike.{AnswerAlike}
use Rattle.read_laws.proofs.Lists.{each_mapped, each_filtered, of_the_only}

-- the line from a node to a node by their positions
abbrev line_from : Vector → RecName → RecName → Option Point → Option Point → Option EdgeLine
line_from e first last begins ends =
    option_and_then (λ p. option_map (λ q. record { begins = first; ends = last; points = p ∷ (e.plane ++ q ∷ []) }) ends) begins

if_mapped : {X Y : Type 0} (P : Y → Type 0) (f : X → Y) (o : Option X) → IfSome o (λ x. P (f x)) → IfSome (option_map f o) P
if_mapped P f None h = tt
if_mapped P f (Some x) h = h

module _ (c d : Cell) where
  -- the cells answer alike to a name
  abbrev pub Alike : RecName → Type 0
  Alike n = AnswerAlike c d (Name n)

  abbrev pub HasAlikeEnds : Vector → Type 0
  HasAlikeEnds e = AllByRecursion (λ (end : End). Alike end.to) e.ends

  pub same_node : (n : RecName) → Alike n → node_named c n ≡ node_named d n
  same_node n same = ap (option_and_then (vector_of (is_of_kind Vc))) same

  pub same_edge : (n : RecName) → Alike n → edge_named c n ≡ edge_named d n
  same_edge n same = ap (option_and_then (vector_of is_edge_name)) same

  pub same_feature : (n : RecName) → Alike n → feature_named c n ≡ feature_named d n
  same_feature n same = ap (option_and_then feature_of) same

  pub same_end_keys : (n : RecName) → Alike n → end_keys_at c n ≡ end_keys_at d n
  same_end_keys n same = ap (λ e. option_map_or end_keys e []) (same_edge n same)

  pub same_position : (n : RecName) → Alike n → node_position c n ≡ node_position d n
  same_position n same = ap (option_and_then (λ (node : Vector). the_only node.plane)) (same_node n same)

  pub alike_ends : (e : Vector) → AllByRecursion (AnswerAlike c d) (end_keys e) → HasAlikeEnds e
  alike_ends e all = each_mapped (AnswerAlike c d) (λ (end : End). Name end.to) e.ends all

  alike_at : (topi : ℕ) (e : Vector) → HasAlikeEnds e → IfSome (node_at topi e) Alike
  alike_at topi e ends =
      let such : End → Bool = λ end. end.topi == topi in
      if_mapped Alike (λ (end : End). end.to) (the_only (filter such e.ends))
      (of_the_only (λ (end : End). Alike end.to) (filter such e.ends) (each_filtered (λ (end : End). Alike end.to) such e.ends ends))

  line_between_same : (e : Vector) (first last : Option RecName) → IfSome first Alike → IfSome last Alike
      → line_between c e first last ≡ line_between d e first last
  line_between_same e None last f l = refl
  line_between_same e (Some first) None f l = refl
  line_between_same e (Some first) (Some last) f l = λ i. line_from e first last (same_position first f i) (same_position last l i)

  pub same_line_of : (e : Vector) → HasAlikeEnds e → line_of c e ≡ line_of d e
  same_line_of e ends = line_between_same e (node_at 1 e) (node_at 2 e) (alike_at 1 e ends) (alike_at 2 e ends)

  same_line_by : (edge : Option Vector) → AllByRecursion (AnswerAlike c d) (option_map_or end_keys edge [])
      → option_and_then (line_of c) edge ≡ option_and_then (line_of d) edge
  same_line_by None ends = refl
  same_line_by (Some e) ends = same_line_of e (alike_ends e ends)

  pub same_line : (n : RecName) → Alike n → AllByRecursion (AnswerAlike c d) (end_keys_at c n) → edge_line_of c n ≡ edge_line_of d n
  unfolding edge_line_of
  same_line n same ends = same_line_by (edge_named c n) ends ∙ ap (option_and_then (line_of d)) (same_edge n same)

  -- the cells answer alike to the nodes that a line begins and ends at
  abbrev pub HasAlikeNodes : EdgeLine → Type 0
  HasAlikeNodes line = Alike line.begins × Alike line.ends

  nodes_from : (e : Vector) (first last : RecName) (p q : Option Point) → Alike first → Alike last → IfSome (line_from e first last p q) HasAlikeNodes
  nodes_from e first last None q f l = tt
  nodes_from e first last (Some p) None f l = tt
  nodes_from e first last (Some p) (Some q) f l = (f, l)

  nodes_between : (e : Vector) (first last : Option RecName) → IfSome first Alike → IfSome last Alike → IfSome (line_between c e first last) HasAlikeNodes
  nodes_between e None last f l = tt
  nodes_between e (Some first) None f l = tt
  nodes_between e (Some first) (Some last) f l = nodes_from e first last (node_position c first) (node_position c last) f l

  nodes_by : (edge : Option Vector) → AllByRecursion (AnswerAlike c d) (option_map_or end_keys edge [])
      → IfSome (option_and_then (line_of c) edge) HasAlikeNodes
  nodes_by None ends = tt
  nodes_by (Some e) ends = let alike = alike_ends e ends in nodes_between e (node_at 1 e) (node_at 2 e) (alike_at 1 e alike) (alike_at 2 e alike)

  pub alike_nodes : (n : RecName) → AllByRecursion (AnswerAlike c d) (end_keys_at c n) → IfSome (edge_line_of c n) HasAlikeNodes
  unfolding edge_line_of
  alike_nodes n ends = nodes_by (edge_named c n) ends
