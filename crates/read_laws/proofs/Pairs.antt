-- The rules on two nodes or edges give the same in two cells that answer alike to what they look up.
use Rattle.std.proofs.Common.{◌≡◌, ℕ, ◌&&◌, ◌||◌, Bool, true, [], ◌∷◌, ◌++◌, Option, None, Some, cond, find, is_some, IfSome, refl, ap, ◌∙◌}
use Rattle.std.specs.List.{AllByRecursion, enumerate_from}
use Rattle.std.specs.Option.{option_map_or}
use Rattle.s57_types.specs.declared.name.RecName.{RecName}
use Rattle.s57_types.specs.declared.record.Vector.{Vector}
use Rattle.s57_types.specs.declared.cell.Cell.{Cell}
use Rattle.cell_spec.specs.declared.key.Subject.TheVariants.{Pair}
use Rattle.cell_spec.specs.Ascending.{ascending}
use Rattle.cell_spec.specs.Names.{key_order, same_name}
use Rattle.rule_spec.specs.declared.line.EdgeLine.{EdgeLine}
use Rattle.rule_spec.specs.Contacts.{shared_nodes, have_illegal_contact, first_illegal_contact, found_contact, contact_of_lines, are_same_place, same_place}
use Rattle.rule_spec.specs.Contacts.{names_node, segment_under, node_on_edge}
use Rattle.rule_spec.specs.EdgePoints.{segments_of, node_position, edge_line_of}
use Rattle.rule_spec.specs.Findings.{is_below, findings_of_rules, findings_of_subject}
use Rattle.rule_spec.specs.Reads.{record_keys, read_set}
use Rattle.rule_spec.specs.Records.{is_chain_part}
use Rattle.rule_spec.specs.Rule.{Found, found_if}
use Rattle.rule_spec.specs.Rules.{pair_rules}
use Rattle.rule_spec.specs.Vectors.{each_with_each}
use Rattle.cell_spec.specs.AnswersAlike.{AnswerAlike}
use Rattle.read_laws.specs.FindingsFollowReads.{AreSameAbout}
use Rattle.read_laws.proofs.Lists.{each_weaker, each_front, each_back, each_filtered, same_filter_map}
use Rattle.read_laws.proofs.EdgeLines.{Alike, HasAlikeNodes, same_node, same_edge, same_position, same_line, alike_nodes}
use Rattle.read_laws.proofs.Records.{HasAlikeRecord, alike_record, same_record_keys}
use Rattle.read_laws.proofs.RuleFindings.{same_findings}

module _ (c d : Cell) where
  same_contact : (a b : EdgeLine) → HasAlikeNodes c d a → first_illegal_contact c a b ≡ first_illegal_contact d a b
  same_contact a b nodes =
      let is_shared : RecName → Bool = λ n. same_name n b.begins || same_name n b.ends in
      let shared : AllByRecursion (Alike c d) (shared_nodes a b) = each_filtered (Alike c d) is_shared (a.begins ∷ a.ends ∷ []) (nodes.0, (nodes.1, tt)) in
      ap (λ places. find (have_illegal_contact places) (each_with_each (enumerate_from 1 (segments_of a.points)) (enumerate_from 1 (segments_of b.points))))
      (same_filter_map (node_position c) (node_position d) (shared_nodes a b)
      (each_weaker (Alike c d) (λ n. node_position c n ≡ node_position d n) (same_position c d) (shared_nodes a b) shared))

  contact_by : (kind : ℕ) (a b : Option EdgeLine) → IfSome a (HasAlikeNodes c d) → contact_of_lines kind c a b ≡ contact_of_lines kind d a b
  contact_by kind None b nodes = refl
  contact_by kind (Some a) None nodes = refl
  contact_by kind (Some a) (Some b) nodes = ap (found_contact kind) (same_contact a b nodes)

  module _ (a b : RecName) (first : HasAlikeRecord c d a) (second : HasAlikeRecord c d b) where
    first_line : edge_line_of c a ≡ edge_line_of d a
    first_line = same_line c d a first.own first.ends

    second_line : edge_line_of c b ≡ edge_line_of d b
    second_line = same_line c d b second.own second.ends

    same_lines_meet : (kind : ℕ) → contact_of_lines kind c (edge_line_of c a) (edge_line_of c b) ≡ contact_of_lines kind d (edge_line_of d a) (edge_line_of d b)
    same_lines_meet kind =
        contact_by kind (edge_line_of c a) (edge_line_of c b) (alike_nodes c d a first.ends)
        ∙ (λ i. contact_of_lines kind d (first_line i) (second_line i))

    same_same_place : same_place c a b ≡ same_place d a b
    same_same_place = λ i. found_if (are_same_place (same_position c d a first.own i) (same_position c d b second.own i)) []

    same_node_on_edge : node_on_edge c a b ≡ node_on_edge d a b
    same_node_on_edge = λ i. cond (option_map_or (λ (e : Vector). names_node e a) (same_edge c d b second.own i) true) []
        (segment_under (same_position c d a first.own i) (second_line i))

    same_pair_findings : findings_of_rules (λ (rule : Cell → RecName → RecName → Found). rule c a b) pair_rules ≡ findings_of_rules
        (λ (rule : Cell → RecName → RecName → Found). rule d a b) pair_rules
    same_pair_findings =
        same_findings (λ (rule : Cell → RecName → RecName → Found). rule c a b) (λ (rule : Cell → RecName → RecName → Found). rule d a b) pair_rules
        (same_lines_meet 7, (same_lines_meet 8, (same_lines_meet 9, (same_same_place, (same_node_on_edge, tt)))))

  same_part : (n : RecName) → Alike c d n → is_chain_part c n ≡ is_chain_part d n
  same_part n same = λ i. is_some (same_node c d n same i) || is_some (same_edge c d n same i)

  pub same_about_pair : (a b : RecName) → AllByRecursion (AnswerAlike c d) (record_keys c a ++ record_keys c b) → AreSameAbout c d (Pair a b)
  unfolding findings_of_subject read_set
  same_about_pair a b all =
      let first = alike_record c d a (each_front (AnswerAlike c d) (record_keys c a) (record_keys c b) all) in
      let second = alike_record c d b (each_back (AnswerAlike c d) (record_keys c a) (record_keys c b) all) in
      record {
        findings = λ i. cond (is_below a b && same_part a first.own i && same_part b second.own i) (same_pair_findings a b first second i) [];
        reads = λ i. ascending key_order (same_record_keys c d a first i ++ same_record_keys c d b second i);
      }
