-- A subject that isn't affected keeps its findings.
use Rattle.std.proofs.Common.{◌≡◌, ◌⊎◌, inl, inr, ◌&&◌, ◌||◌, Bool, true, false, List, [], ◌++◌, refl, sym, ◌∙◌}
use Rattle.std.specs.List.{AllByRecursion, list_any}
use Rattle.std.proofs.lemmas.List.Elements.{All-from_recursion}
use Rattle.s57_types.specs.declared.name.RecName.{RecName}
use Rattle.s57_types.specs.declared.cell.Cell.{Cell}
use Rattle.cell_spec.specs.declared.edit.Edit.{Edit}
use Rattle.cell_spec.specs.declared.key.Key.{Key}
use Rattle.cell_spec.specs.declared.key.Subject.{Subject}
use Rattle.cell_spec.specs.declared.key.Subject.TheVariants.{Rec, Side, Pair, Ident}
use Rattle.cell_spec.specs.AnswersAlike.{AnswerAlike}
use Rattle.cell_spec.specs.Edits.{apply_edits, touched_keys}
use Rattle.rule_spec.specs.Affected.{change_by, is_affected, is_affected_with, reads_key}
use Rattle.rule_spec.specs.Candidates.{are_candidates}
use Rattle.rule_spec.specs.Findings.{findings_of_subject, is_below, is_subject}
use Rattle.rule_spec.specs.Reads.{read_set, record_keys}
use Rattle.rule_spec.specs.Records.{is_chain_part}
use Rattle.read_laws.specs.FindingsFollowReads.{FindingsFollowReads}
use Rattle.read_laws.proofs.Keys.{each_key_read}
use Rattle.read_laws.proofs.Lists.{each_joined}
use Rattle.read_laws.proofs.Pairs.{same_about_pair}
use Rattle.answer_laws.specs.EditedAnswers.{FindTheirRecords, UntouchedKeysKeepAnswers}
use Rattle.finding_laws.specs.Pairs.{FoundPairsAreCandidates}
use Rattle.finding_laws.specs.Unaffected.{UnaffectedSubjectsKeepFindings}
use Rattle.finding_laws.proofs.KeptReads.{untouched}
use Rattle.finding_laws.proofs.Listed.{no_part, no_subject}
use Rattle.finding_laws.proofs.Tests.{first_fails, second_fails}

no_pair_by : (below first second : Bool) → (first ≡ false) ⊎ (second ≡ false) → ((below && first) && second) ≡ false
no_pair_by below first second (inl e) = rw e (zero_by below second)
  where
    zero_by : (x y : Bool) → ((x && false) && y) ≡ false
    zero_by true y = refl
    zero_by false y = refl
no_pair_by below first second (inr e) = rw e (zero_by (below && first))
  where
    zero_by : (x : Bool) → (x && false) ≡ false
    zero_by true = refl
    zero_by false = refl

module _ (edits : List Edit) (c : Cell) (fit : FindTheirRecords edits c) (follow : FindingsFollowReads) (keep : UntouchedKeysKeepAnswers)
    (tiles : FoundPairsAreCandidates) where
  abbrev d : Cell
  d = apply_edits edits c

  abbrev KeepsAnswer : Key → Type 0
  KeepsAnswer k = AnswerAlike c d k

  single_by : (s : Subject) (before after : Bool) → is_subject c s ≡ before → is_subject d s ≡ after
      → ((before || after) && list_any (λ k. reads_key c k s || reads_key d k s) (touched_keys edits c)) ≡ false
      → findings_of_subject d s ≡ findings_of_subject c s
  single_by s false false is_before is_after none = no_subject d s is_after ∙ sym (no_subject c s is_before)
  single_by s true after is_before is_after none =
      sym (follow s c d (All-from_recursion KeepsAnswer (read_set c s) (untouched edits c fit keep s none))).findings
  single_by s false true is_before is_after none =
      sym (follow s c d (All-from_recursion KeepsAnswer (read_set c s) (untouched edits c fit keep s none))).findings

  -- ---- two nodes or edges
  keys_kept : (a b : RecName) → AllByRecursion KeepsAnswer (read_set c (Rec a)) → AllByRecursion KeepsAnswer (read_set c (Rec b))
      → AllByRecursion KeepsAnswer (record_keys c a ++ record_keys c b)
  unfolding read_set
  keys_kept a b first second =
      each_joined KeepsAnswer (record_keys c a) (record_keys c b)
      (each_key_read KeepsAnswer (record_keys c a) (All-from_recursion KeepsAnswer (read_set c (Rec a)) first))
      (each_key_read KeepsAnswer (record_keys c b) (All-from_recursion KeepsAnswer (read_set c (Rec b)) second))

  abbrev reads_touched : RecName → Bool
  reads_touched n = list_any (λ k. reads_key c k (Rec n) || reads_key d k (Rec n)) (touched_keys edits c)

  abbrev is_in_one : RecName → Bool
  is_in_one n = is_subject c (Rec n) || is_subject d (Rec n)

  -- a name that no record has, before or after, is in no pair
  not_a_pair : (a b : RecName) (cell : Cell) → (is_subject cell (Rec a) ≡ false) ⊎ (is_subject cell (Rec b) ≡ false) → findings_of_subject cell (Pair a b) ≡ []
  not_a_pair a b cell (inl none) =
      no_subject cell (Pair a b) (no_pair_by (is_below a b) (is_chain_part cell a) (is_chain_part cell b) (inl (no_part cell a none)))
  not_a_pair a b cell (inr none) =
      no_subject cell (Pair a b) (no_pair_by (is_below a b) (is_chain_part cell a) (is_chain_part cell b) (inr (no_part cell b none)))

  -- neither record is affected
  apart_by : (a b : RecName) (first second : Bool) → is_in_one a ≡ first → is_in_one b ≡ second → (first && reads_touched a) ≡ false
      → (second && reads_touched b) ≡ false
      → findings_of_subject d (Pair a b) ≡ findings_of_subject c (Pair a b)
  apart_by a b false second is_a is_b no_a no_b =
      not_a_pair a b d (inl (second_fails (is_subject c (Rec a)) (is_subject d (Rec a)) is_a))
      ∙ sym (not_a_pair a b c (inl (first_fails (is_subject c (Rec a)) (is_subject d (Rec a)) is_a)))
  apart_by a b true false is_a is_b no_a no_b =
      not_a_pair a b d (inr (second_fails (is_subject c (Rec b)) (is_subject d (Rec b)) is_b))
      ∙ sym (not_a_pair a b c (inr (first_fails (is_subject c (Rec b)) (is_subject d (Rec b)) is_b)))
  apart_by a b true true is_a is_b no_a no_b =
      sym (same_about_pair c d a b (keys_kept a b (untouched edits c fit keep (Rec a) no_a) (untouched edits c fit keep (Rec b) no_b))).findings

  -- one record is affected, so the two may not touch
  far : (a b : RecName) → (are_candidates c a b || are_candidates d a b) ≡ false → findings_of_subject d (Pair a b) ≡ findings_of_subject c (Pair a b)
  far a b none =
      tiles.given d a b (second_fails (are_candidates c a b) (are_candidates d a b) none)
      ∙ sym (tiles.given c a b (first_fails (are_candidates c a b) (are_candidates d a b) none))

  far_turned : (a b : RecName) → (are_candidates c b a || are_candidates d b a) ≡ false → findings_of_subject d (Pair a b) ≡ findings_of_subject c (Pair a b)
  far_turned a b none =
      tiles.turned d a b (second_fails (are_candidates c b a) (are_candidates d b a) none)
      ∙ sym (tiles.turned c a b (first_fails (are_candidates c b a) (are_candidates d b a) none))

  pair_by : (a b : RecName) (first second : Bool) → (is_in_one a && reads_touched a) ≡ first → (is_in_one b && reads_touched b) ≡ second
      → (first && (are_candidates c a b || are_candidates d a b)) ≡ false → (second && (are_candidates c b a || are_candidates d b a)) ≡ false
      → findings_of_subject d (Pair a b) ≡ findings_of_subject c (Pair a b)
  pair_by a b true second is_a is_b first_far second_far = far a b first_far
  pair_by a b false true is_a is_b first_far second_far = far_turned a b second_far
  pair_by a b false false is_a is_b first_far second_far = apart_by a b (is_in_one a) (is_in_one b) refl refl is_a is_b

  below_by : (a b : RecName) (below : Bool) → is_below a b ≡ below
      → (below && (is_affected_with (change_by edits c) a b || is_affected_with (change_by edits c) b a)) ≡ false
      → findings_of_subject d (Pair a b) ≡ findings_of_subject c (Pair a b)
  below_by a b false is none = no_subject d (Pair a b) (rw is refl) ∙ sym (no_subject c (Pair a b) (rw is refl))
  below_by a b true is none =
      let w = is_affected_with (change_by edits c) a b in
      let v = is_affected_with (change_by edits c) b a in
      pair_by a b (is_in_one a && reads_touched a) (is_in_one b && reads_touched b) refl refl (first_fails w v none) (second_fails w v none)

  kept : (s : Subject) → is_affected (change_by edits c) s ≡ false → findings_of_subject d s ≡ findings_of_subject c s
  kept (Rec n) none = single_by (Rec n) (is_subject c (Rec n)) (is_subject d (Rec n)) refl refl none
  kept (Side n) none = single_by (Side n) (is_subject c (Side n)) (is_subject d (Side n)) refl refl none
  kept (Pair a b) none = below_by a b (is_below a b) refl none
  kept (Ident l) none = single_by (Ident l) (is_subject c (Ident l)) (is_subject d (Ident l)) refl refl none

pub findings_kept : FindingsFollowReads → UntouchedKeysKeepAnswers → FoundPairsAreCandidates → UnaffectedSubjectsKeepFindings
findings_kept follow keep tiles edits c fit = kept edits c fit follow keep tiles
