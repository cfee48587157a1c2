-- The rules on vector records give the same in two cells that answer alike to what they look up.
use Rattle.std.proofs.Common.{◌≡◌, Bool, true, false, [], None, Some, cond, not, is_some, refl, ap}
use Rattle.std.specs.List.{AllByRecursion}
use Rattle.std.specs.Option.{option_map_or}
use Rattle.s57_types.specs.declared.record.End.{End}
use Rattle.s57_types.specs.declared.record.Vector.{Vector}
use Rattle.s57_types.specs.declared.record.Rec.TheVariants.{V}
use Rattle.s57_types.specs.declared.cell.Cell.{Cell}
use Rattle.rule_spec.specs.declared.line.EdgeLine.{EdgeLine}
use Rattle.rule_spec.specs.EdgeEnds.{dangling_end}
use Rattle.rule_spec.specs.Findings.{findings_of_record}
use Rattle.rule_spec.specs.Reads.{end_keys}
use Rattle.rule_spec.specs.Records.{is_edge_name, node_named}
use Rattle.rule_spec.specs.Rule.{Found, found_at}
use Rattle.rule_spec.specs.Rules.{vector_rules}
use Rattle.rule_spec.specs.Vectors.{stacked, stacked_segment, self_meet, self_meet_of}
use Rattle.cell_spec.specs.AnswersAlike.{AnswerAlike}
use Rattle.read_laws.proofs.Lists.{each_weaker, same_places}
use Rattle.read_laws.proofs.EdgeLines.{Alike, HasAlikeEnds, same_node, same_line_of, alike_ends}
use Rattle.read_laws.proofs.RuleFindings.{same_findings}

module _ (c d : Cell) where
  same_dangling_end : (e : Vector) → HasAlikeEnds c d e → dangling_end c e ≡ dangling_end d e
  same_dangling_end e ends =
      let missing : Cell → End → Bool = λ cell end. not (is_some (node_named cell end.to)) in
      same_places (missing c) (missing d) 1 e.ends
      (each_weaker (λ (end : End). Alike c d end.to) (λ end. missing c end ≡ missing d end)
      (λ end same. ap (λ node. not (is_some node)) (same_node c d end.to same)) e.ends ends)

  same_stacked : (e : Vector) → HasAlikeEnds c d e → stacked c e ≡ stacked d e
  same_stacked e ends = ap (λ found. option_map_or (λ (line : EdgeLine). found_at (stacked_segment line.points)) found []) (same_line_of c d e ends)

  same_self_meet : (e : Vector) → HasAlikeEnds c d e → self_meet c e ≡ self_meet d e
  same_self_meet e ends = ap (λ found. option_map_or (λ (line : EdgeLine). self_meet_of line.points) found []) (same_line_of c d e ends)

  -- a rule on edges alone
  on_edges_by : (rule : Cell → Vector → Found) (v : Vector) (is_edge : Bool)
      → AllByRecursion (AnswerAlike c d) (option_map_or end_keys (cond is_edge (Some v) None) [])
      → (HasAlikeEnds c d v → rule c v ≡ rule d v) → cond is_edge (rule c v) [] ≡ cond is_edge (rule d v) []
  on_edges_by rule v true ends same = same (alike_ends c d v ends)
  on_edges_by rule v false ends same = refl

  pub same_vector_findings : (v : Vector) → AllByRecursion (AnswerAlike c d) (option_map_or end_keys (cond (is_edge_name v.name) (Some v) None) [])
      → findings_of_record c (V v) ≡ findings_of_record d (V v)
  same_vector_findings v ends =
      same_findings (λ (rule : Cell → Vector → Found). rule c v) (λ (rule : Cell → Vector → Found). rule d v) vector_rules (
        refl,
        (
          refl,
          (
            on_edges_by dangling_end v (is_edge_name v.name) ends (same_dangling_end v),
            (
              on_edges_by stacked v (is_edge_name v.name) ends (same_stacked v),
              (on_edges_by self_meet v (is_edge_name v.name) ends (same_self_meet v), (refl, tt)),
            ),
          ),
        ),
      )
