-- What isn't affected reads no touched key, and so keeps its read set and its segments.
use Rattle.std.proofs.Common.{◌≡◌, ◌&&◌, ◌||◌, Bool, true, false, List, [], ◌∷◌, ◌++◌, refl, sym, ◌∙◌}
use Rattle.std.specs.Prelude.{map, option_map, option_to_list}
use Rattle.std.specs.Cmp.{eq_by_cmp_equiv}
use Rattle.std.specs.List.{AllByRecursion, list_any}
use Rattle.std.specs.Option.{option_map_or}
use Rattle.std.proofs.lemmas.List.Elements.{All-from_recursion}
use Rattle.s57_types.specs.declared.name.RecName.{RecName}
use Rattle.s57_types.specs.declared.cell.Cell.{Cell}
use Rattle.cell_spec.specs.declared.edit.Edit.{Edit}
use Rattle.cell_spec.specs.declared.key.Key.{Key}
use Rattle.cell_spec.specs.declared.key.Subject.{Subject}
use Rattle.cell_spec.specs.declared.key.Subject.TheVariants.{Rec, Side, Pair, Ident}
use Rattle.cell_spec.specs.AnswersAlike.{AnswerAlike}
use Rattle.cell_spec.specs.Edits.{apply_edits, touched_keys}
use Rattle.cell_spec.specs.Names.{same_key}
use Rattle.cell_spec.proofs.Orders.{total_keys}
use Rattle.geometry_spec.specs.Points.{Point}
use Rattle.rule_spec.specs.declared.line.EdgeLine.{EdgeLine}
use Rattle.rule_spec.specs.Affected.{change_by, is_affected, is_single, reads_key}
use Rattle.rule_spec.specs.Candidates.{segments_named}
use Rattle.rule_spec.specs.EdgePoints.{segments_of}
use Rattle.rule_spec.specs.Findings.{is_subject}
use Rattle.rule_spec.specs.Reads.{read_set, record_keys}
use Rattle.read_laws.specs.FindingsFollowReads.{FindingsFollowReads}
use Rattle.read_laws.proofs.EdgeLines.{same_line, same_position}
use Rattle.read_laws.proofs.Keys.{each_key_read}
use Rattle.read_laws.proofs.Lists.{each_weaker}
use Rattle.read_laws.proofs.Records.{HasAlikeRecord, alike_record}
use Rattle.answer_laws.specs.EditedAnswers.{FindTheirRecords, UntouchedKeysKeepAnswers, is_touched}
use Rattle.answer_laws.proofs.Tests.{any_same}
use Rattle.finding_laws.specs.Unaffected.{UnaffectedRecordsKeepSegments, UnaffectedSinglesKeepReads}
use Rattle.finding_laws.proofs.Listed.{no_segments, none_or_some}
use Rattle.finding_laws.proofs.Tests.{any_either, first_fails, second_fails}

-- ---- tests
any_first : {X : Type 0} (p q : X → Bool) (xs : List X) → list_any (λ x. p x || q x) xs ≡ false → list_any p xs ≡ false
any_first p q xs e = first_fails (list_any p xs) (list_any q xs) (sym (any_either p q xs) ∙ e)

any_second : {X : Type 0} (p q : X → Bool) (xs : List X) → list_any (λ x. p x || q x) xs ≡ false → list_any q xs ≡ false
any_second p q xs e = second_fails (list_any p xs) (list_any q xs) (sym (any_either p q xs) ∙ e)

-- where no touched key is read, no key read is touched
pub none_read : (touched reads : List Key) → list_any (λ t. list_any (same_key t) reads) touched ≡ false
    → AllByRecursion (λ k. list_any (same_key k) touched ≡ false) reads
none_read touched [] e = tt
none_read touched (k ∷ reads) e =
    let here = any_first (λ t. same_key t k) (λ t. list_any (same_key t) reads) touched e in
    let later = any_second (λ t. same_key t k) (λ t. list_any (same_key t) reads) touched e in
    (any_same (same_key k) (λ t. same_key t k) ((eq_by_cmp_equiv total_keys).symm k) touched ∙ here, none_read touched reads later)

module _ (edits : List Edit) (c : Cell) (fit : FindTheirRecords edits c) (keep : UntouchedKeysKeepAnswers) where
  abbrev d : Cell
  d = apply_edits edits c

  -- whether a subject reads a touched key before or after
  abbrev pub reads_touched : Subject → Bool
  reads_touched s = list_any (λ k. reads_key c k s || reads_key d k s) (touched_keys edits c)

  -- what reads no touched key reads keys that keep their answers
  pub untouched : (s : Subject) → reads_touched s ≡ false → AllByRecursion (AnswerAlike c d) (read_set c s)
  untouched s none =
      let before = any_first (λ k. reads_key c k s) (λ k. reads_key d k s) (touched_keys edits c) none in
      each_weaker (λ k. is_touched edits c k ≡ false) (AnswerAlike c d) (keep edits c fit) (read_set c s)
      (none_read (touched_keys edits c) (read_set c s) before)

  -- ---- read sets
  module _ (follow : FindingsFollowReads) where
    reads_by : (s : Subject) (known : Bool) → known ≡ true → (known && reads_touched s) ≡ false → read_set d s ≡ read_set c s
    reads_by s true is none = sym (follow s c d (All-from_recursion (AnswerAlike c d) (read_set c s) (untouched s none))).reads
    reads_by s false is none = cc

    same_reads : (s : Subject) → is_single s ≡ true → (is_subject c s || is_subject d s) ≡ true → is_affected (change_by edits c) s ≡ false
        → read_set d s ≡ read_set c s
    same_reads (Rec n) single is none = reads_by (Rec n) (is_subject c (Rec n) || is_subject d (Rec n)) is none
    same_reads (Side n) single is none = reads_by (Side n) (is_subject c (Side n) || is_subject d (Side n)) is none
    same_reads (Pair a b) single is none = cc
    same_reads (Ident l) single is none = reads_by (Ident l) (is_subject c (Ident l) || is_subject d (Ident l)) is none

  -- ---- segments
  segments_alike : (n : RecName) → HasAlikeRecord c d n → segments_named d n ≡ segments_named c n
  unfolding segments_named
  segments_alike n alike =
      let place = same_position c d n alike.own in
      let line = same_line c d n alike.own alike.ends in
      sym (λ i. map (λ (p : Point). (p, p)) (option_to_list (place i)) ++ option_map_or segments_of (option_map (λ (x : EdgeLine). x.points) (line i)) [])

  segments_untouched : (n : RecName) → reads_touched (Rec n) ≡ false → segments_named d n ≡ segments_named c n
  unfolding read_set
  segments_untouched n none =
      let reads = All-from_recursion (AnswerAlike c d) (read_set c (Rec n)) (untouched (Rec n) none) in
      segments_alike n (alike_record c d n (each_key_read (AnswerAlike c d) (record_keys c n) reads))

  segments_by : (n : RecName) (before after : Bool) → is_subject c (Rec n) ≡ before → is_subject d (Rec n) ≡ after
      → ((before || after) && reads_touched (Rec n)) ≡ false
      → segments_named d n ≡ segments_named c n
  segments_by n false false is_before is_after none = no_segments d n (none_or_some _ is_after) ∙ sym (no_segments c n (none_or_some _ is_before))
  segments_by n true after is_before is_after none = segments_untouched n none
  segments_by n false true is_before is_after none = segments_untouched n none

pub reads_kept : FindingsFollowReads → UntouchedKeysKeepAnswers → UnaffectedSinglesKeepReads
reads_kept follow keep edits c fit = same_reads edits c fit keep follow

pub segments_kept : UntouchedKeysKeepAnswers → UnaffectedRecordsKeepSegments
segments_kept keep edits c fit n none = segments_by edits c fit keep n (is_subject c (Rec n)) (is_subject (apply_edits edits c) (Rec n)) refl refl none
