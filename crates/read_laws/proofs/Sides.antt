-- The rules on the sides of an edge and on identifiers give the same in two cells that answer alike to what they look up.
use Rattle.std.proofs.Common.{◌≡◌, ◌==◌, ◌-◌, List, [], ◌∷◌, cond, map, find, not, length, filter_map, nat_lt, is_some, slice_get, option_map}
use Rattle.std.proofs.Common.{option_and_then, refl, ap, ◌∙◌}
use Rattle.std.specs.List.{AllByRecursion}
use Rattle.s57_types.specs.declared.name.Lnam.{Lnam}
use Rattle.s57_types.specs.declared.name.RecName.{RecName}
use Rattle.s57_types.specs.declared.record.Feature.{Feature}
use Rattle.s57_types.specs.declared.cell.Cell.{Cell}
use Rattle.cell_spec.specs.declared.key.Key.TheVariants.{Name, Refs, Foid}
use Rattle.cell_spec.specs.declared.key.Ref.{Ref}
use Rattle.cell_spec.specs.declared.key.Subject.TheVariants.{Side, Ident}
use Rattle.cell_spec.specs.Ascending.{ascending}
use Rattle.cell_spec.specs.Lookup.{lookup_pointers}
use Rattle.cell_spec.specs.Names.{key_order}
use Rattle.rule_spec.specs.declared.side.EdgeUse.{EdgeUse}
use Rattle.rule_spec.specs.Findings.{findings_of_rules, findings_of_subject}
use Rattle.rule_spec.specs.Reads.{keys_read, read_set}
use Rattle.rule_spec.specs.Rule.{Found, found_if}
use Rattle.rule_spec.specs.Rules.{side_rules, identity_rules}
use Rattle.rule_spec.specs.Sides.{use_of_row, use_by, uses_of, side_counts, numbers_of, overlaps, is_balanced, is_truncated, found_use}
use Rattle.cell_spec.specs.AnswersAlike.{AnswerAlike}
use Rattle.read_laws.specs.FindingsFollowReads.{AreSameAbout}
use Rattle.read_laws.proofs.Lists.{each_weaker, each_mapped, same_filter_map}
use Rattle.read_laws.proofs.EdgeLines.{Alike, same_edge, same_feature}
use Rattle.read_laws.proofs.RuleFindings.{same_findings}

-- what the rules on sides give by the uses of an edge
abbrev orphan_by : List EdgeUse → Found
orphan_by uses = found_if (length uses == 0) []

abbrev overlap_by : List EdgeUse → Found
overlap_by uses = found_if (overlaps (side_counts uses)) (numbers_of (side_counts uses))

abbrev unbalanced_by : List EdgeUse → Found
unbalanced_by uses = found_if (not (is_balanced (side_counts uses))) (numbers_of (side_counts uses))

abbrev truncation_by : List EdgeUse → Found
truncation_by uses = cond ((side_counts uses).coverage_forward == (side_counts uses).coverage_reverse) (found_use (find is_truncated uses)) []

module _ (c d : Cell) where
  same_use : (r : Ref) → Alike c d r.from → use_by c r ≡ use_by d r
  same_use r same = ap (option_and_then (λ (f : Feature). option_map (use_of_row r f) (slice_get f.places (r.place - 1)))) (same_feature c d r.from same)

  same_uses : (n : RecName) → AnswerAlike c d (Refs n) → AllByRecursion (λ (r : Ref). Alike c d r.from) (lookup_pointers c n) → uses_of c n ≡ uses_of d n
  unfolding uses_of
  same_uses n refs users =
      same_filter_map (use_by c) (use_by d) (lookup_pointers c n)
      (each_weaker (λ (r : Ref). Alike c d r.from) (λ r. use_by c r ≡ use_by d r) same_use (lookup_pointers c n) users)
      ∙ ap (filter_map (use_by d)) refs

  same_side_findings : (n : RecName) → uses_of c n ≡ uses_of d n
      → findings_of_rules (λ (rule : Cell → RecName → Found). rule c n) side_rules ≡ findings_of_rules (λ (rule : Cell → RecName → Found). rule d n) side_rules
  same_side_findings n same =
      same_findings (λ (rule : Cell → RecName → Found). rule c n) (λ (rule : Cell → RecName → Found). rule d n) side_rules
      (ap orphan_by same, (ap overlap_by same, (ap unbalanced_by same, (ap truncation_by same, tt))))

  pub same_about_side : (n : RecName) → AllByRecursion (AnswerAlike c d) (keys_read c (Side n)) → AreSameAbout c d (Side n)
  unfolding findings_of_subject read_set
  same_about_side n all =
      let users = each_mapped (AnswerAlike c d) (λ (r : Ref). Name r.from) (lookup_pointers c n) all.1.1 in
      let found = same_side_findings n (same_uses n all.1.0 users) in
      record {
        findings = λ i. cond (is_some (same_edge c d n all.0 i)) (found i) [];
        reads = ap (λ refs. ascending key_order (Name n ∷ Refs n ∷ map (λ (r : Ref). Name r.from) refs)) all.1.0;
      }

  same_identity_findings : (l : Lnam) → AnswerAlike c d (Foid l)
      → findings_of_rules (λ (rule : Cell → Lnam → Found). rule c l) identity_rules ≡ findings_of_rules
      (λ (rule : Cell → Lnam → Found). rule d l) identity_rules
  same_identity_findings l same =
      same_findings (λ (rule : Cell → Lnam → Found). rule c l) (λ (rule : Cell → Lnam → Found). rule d l) identity_rules
      (ap (λ bearers. found_if (nat_lt 1 (length bearers)) (length bearers ∷ [])) same, tt)

  pub same_about_identity : (l : Lnam) → AllByRecursion (AnswerAlike c d) (keys_read c (Ident l)) → AreSameAbout c d (Ident l)
  unfolding findings_of_subject read_set
  same_about_identity l all =
      let found = same_identity_findings l all.0 in
      record { findings = λ i. cond (nat_lt 0 (length (all.0 i))) (found i) []; reads = refl }
