-- The findings about a record and its keys are the same in two cells that answer alike to those keys.
use Rattle.std.proofs.Common.{◌≡◌, Bool, true, false, List, [], ◌∷◌, ◌++◌, Option, None, Some, cond, is_some, option_and_then, refl, sym, ap, ◌∙◌}
use Rattle.std.specs.List.{AllByRecursion}
use Rattle.std.specs.Option.{option_map_or}
use Rattle.s57_types.specs.declared.name.RecName.{RecName}
use Rattle.s57_types.specs.declared.record.Feature.{Feature}
use Rattle.s57_types.specs.declared.record.Rec.{Rec as Record}
use Rattle.s57_types.specs.declared.record.Rec.TheVariants.{V, F, H}
use Rattle.s57_types.specs.declared.cell.Cell.{Cell}
use Rattle.cell_spec.specs.declared.finding.Finding.{Finding}
use Rattle.cell_spec.specs.declared.key.Key.{Key}
use Rattle.cell_spec.specs.declared.key.Key.TheVariants.{Name}
use Rattle.cell_spec.specs.declared.key.Subject.TheVariants.{Rec}
use Rattle.cell_spec.specs.Ascending.{ascending}
use Rattle.cell_spec.specs.Lookup.{listed_record}
use Rattle.cell_spec.specs.Names.{is_head_name, key_order}
use Rattle.rule_spec.specs.Findings.{findings_of_record, findings_of_subject}
use Rattle.rule_spec.specs.Reads.{end_keys, end_keys_at, feature_keys, record_keys, read_set}
use Rattle.rule_spec.specs.Records.{is_edge_name, vector_of, feature_of, feature_named}
use Rattle.cell_spec.specs.AnswersAlike.{AnswerAlike}
use Rattle.read_laws.specs.FindingsFollowReads.{AreSameAbout}
use Rattle.read_laws.proofs.Lists.{each_front, each_back}
use Rattle.read_laws.proofs.EdgeLines.{Alike, same_feature, same_end_keys}
use Rattle.read_laws.proofs.VectorRules.{same_vector_findings}
use Rattle.read_laws.proofs.FeatureRules.{same_feature_keys, same_feature_findings}

-- the keys of a name's feature
abbrev pub feature_keys_at : Cell → RecName → List Key
feature_keys_at c n = option_map_or (feature_keys c) (feature_named c n) []

module _ (c d : Cell) where
  -- the cells answer alike to a name and to those that its record names
  pub record HasAlikeRecord (n : RecName) : Type 0 where
    pub own : Alike c d n
    pub ends : AllByRecursion (AnswerAlike c d) (end_keys_at c n)
    pub others : AllByRecursion (AnswerAlike c d) (feature_keys_at c n)

  pub alike_record : (n : RecName) → AllByRecursion (AnswerAlike c d) (record_keys c n) → HasAlikeRecord n
  alike_record n all = record {
    own = all.0;
    ends = each_front (AnswerAlike c d) (end_keys_at c n) (feature_keys_at c n) all.1;
    others = each_back (AnswerAlike c d) (end_keys_at c n) (feature_keys_at c n) all.1;
  }

  feature_keys_by : (found : Option Feature) → AllByRecursion (AnswerAlike c d) (option_map_or (feature_keys c) found [])
      → option_map_or (feature_keys c) found [] ≡ option_map_or (feature_keys d) found []
  feature_keys_by None others = refl
  feature_keys_by (Some f) others = same_feature_keys c d f others

  pub same_record_keys : (n : RecName) → HasAlikeRecord n → record_keys c n ≡ record_keys d n
  same_record_keys n h =
      let features : feature_keys_at c n ≡ feature_keys_at d n =
      feature_keys_by (feature_named c n) h.others ∙ ap (λ found. option_map_or (feature_keys d) found []) (same_feature c d n h.own) in
      λ i. Name n ∷ (same_end_keys c d n h.own i ++ features i)

  -- what is found about a name: nothing where no record of the lists has it
  abbrev found_about : Cell → Bool → Option Record → List Finding
  found_about cell listed found = cond listed (option_map_or (findings_of_record cell) found []) []

  found_by : (found : Option Record) → AllByRecursion (AnswerAlike c d) (option_map_or end_keys (option_and_then (vector_of is_edge_name) found) [])
      → AllByRecursion (AnswerAlike c d) (option_map_or (feature_keys c) (option_and_then feature_of found) [])
      → found_about c (is_some found) found ≡ found_about d (is_some found) found
  found_by None ends others = refl
  found_by (Some (V v)) ends others = same_vector_findings c d v ends
  found_by (Some (F f)) ends others = same_feature_findings c d f others
  found_by (Some (H h)) ends others = refl

  -- a head has no findings
  none_about_head : (cell : Cell) (listed : Bool) → found_about cell listed (Some (H cell.head)) ≡ []
  none_about_head cell true = refl
  none_about_head cell false = refl

  -- what has a name, by whether it is a head's name and by the record of the lists
  abbrev head_or : Cell → Bool → Option Record → Option Record
  head_or cell of_head listed = cond of_head (Some (H cell.head)) listed

  found_beside : (of_head : Bool) (first second : Option Record) → head_or c of_head first ≡ head_or d of_head second
      → AllByRecursion (AnswerAlike c d) (option_map_or end_keys (option_and_then (vector_of is_edge_name) (head_or c of_head first)) [])
      → AllByRecursion (AnswerAlike c d) (option_map_or (feature_keys c) (option_and_then feature_of (head_or c of_head first)) [])
      → found_about c (is_some first) (head_or c of_head first) ≡ found_about d (is_some second) (head_or d of_head second)
  found_beside true first second own ends others = none_about_head c (is_some first) ∙ sym (none_about_head d (is_some second))
  found_beside false first second own ends others = found_by first ends others ∙ ap (λ found. found_about d (is_some found) found) own

  pub same_about_record : (n : RecName) → AllByRecursion (AnswerAlike c d) (record_keys c n) → AreSameAbout c d (Rec n)
  unfolding findings_of_subject read_set
  same_about_record n all =
      let h = alike_record n all in
      record {
        findings = found_beside (is_head_name n) (listed_record c n) (listed_record d n) h.own h.ends h.others;
        reads = ap (ascending key_order) (same_record_keys n h);
      }
