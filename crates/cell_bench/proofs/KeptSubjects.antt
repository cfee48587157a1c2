-- A record, a side or an identifier that isn't affected is a subject of the edited cell exactly where it was one of the cell.
use Rattle.std.proofs.Common.{◌≡◌, ◌&&◌, ◌||◌, Bool, true, false, List, Some, cond, is_some, length, refl, sym, ap, ◌∙◌}
use Rattle.std.specs.Prelude.{nat_lt, option_and_then}
use Rattle.std.proofs.lemmas.List.Elements.{All-from_recursion}
use Rattle.s57_types.specs.declared.name.RecName.{RecName}
use Rattle.s57_types.specs.declared.record.Rec.TheVariants.{H}
use Rattle.s57_types.specs.declared.cell.Cell.{Cell}
use Rattle.s57_types.specs.Heads.{head_name}
use Rattle.cell_spec.specs.declared.edit.Edit.{Edit}
use Rattle.cell_spec.specs.declared.key.Subject.{Subject}
use Rattle.cell_spec.specs.declared.key.Subject.TheVariants.{Rec, Side, Pair, Ident}
use Rattle.cell_spec.specs.AnswersAlike.{AnswerAlike}
use Rattle.cell_spec.specs.Edits.{apply_edits}
use Rattle.cell_spec.specs.Lookup.{listed_record}
use Rattle.cell_spec.specs.Names.{same_name}
use Rattle.rule_spec.specs.Affected.{change_by, is_affected, is_single}
use Rattle.rule_spec.specs.Findings.{is_subject}
use Rattle.rule_spec.specs.Reads.{keys_read, read_set, record_keys}
use Rattle.rule_spec.specs.Records.{is_edge_name, vector_of}
use Rattle.read_laws.proofs.Keys.{each_key_read}
use Rattle.answer_laws.specs.EditedAnswers.{FindTheirRecords, UntouchedKeysKeepAnswers}
use Rattle.answer_laws.proofs.EditedNames.{no_head_after}
use Rattle.answer_laws.proofs.EditedRecords.{no_head}
use Rattle.finding_laws.proofs.KeptReads.{reads_touched, untouched}
use Rattle.finding_laws.proofs.Tests.{first_fails, second_fails}
use Rattle.cell_bench.proofs.HeadNames.{no_record}

module _ (edits : List Edit) (c : Cell) (fit : FindTheirRecords edits c) (keep : UntouchedKeysKeepAnswers) where
  abbrev d : Cell
  d = apply_edits edits c

  listed_by : (n : RecName) (head : Bool) → same_name n head_name ≡ head
      → cond head (Some (H c.head)) (listed_record c n) ≡ cond head (Some (H d.head)) (listed_record d n)
      → is_some (listed_record d n) ≡ is_some (listed_record c n)
  listed_by n true is same =
      no_record d (no_head_after edits c fit) n is (listed_record d n) refl ∙ sym (no_record c (no_head edits c fit) n is (listed_record c n) refl)
  listed_by n false is same = ap is_some (sym same)

  -- what reads no touched key is a subject of both or of none
  by_reads : (s : Subject) → is_single s ≡ true → reads_touched edits c fit keep s ≡ false → is_subject d s ≡ is_subject c s
  unfolding read_set
  by_reads (Rec n) single none =
      let all = each_key_read (AnswerAlike c d) (record_keys c n)
      (All-from_recursion (AnswerAlike c d) (read_set c (Rec n)) (untouched edits c fit keep (Rec n) none)) in
      listed_by n (same_name n head_name) refl all.0
  by_reads (Side n) single none =
      let all = each_key_read (AnswerAlike c d) (keys_read c (Side n))
      (All-from_recursion (AnswerAlike c d) (read_set c (Side n)) (untouched edits c fit keep (Side n) none)) in
      ap (λ o. is_some (option_and_then (vector_of is_edge_name) o)) (sym all.0)
  by_reads (Pair a b) single none = cc
  by_reads (Ident l) single none =
      let all = each_key_read (AnswerAlike c d) (keys_read c (Ident l))
      (All-from_recursion (AnswerAlike c d) (read_set c (Ident l)) (untouched edits c fit keep (Ident l) none)) in
      ap (λ (ns : List RecName). nat_lt 0 (length ns)) (sym all.0)

  kept_by : (s : Subject) → is_single s ≡ true → (known : Bool) → (is_subject c s || is_subject d s) ≡ known
      → (known && reads_touched edits c fit keep s) ≡ false → is_subject d s ≡ is_subject c s
  kept_by s single true is none = by_reads s single none
  kept_by s single false is none = second_fails (is_subject c s) (is_subject d s) is ∙ sym (first_fails (is_subject c s) (is_subject d s) is)

  pub subjects_kept : (s : Subject) → is_single s ≡ true → is_affected (change_by edits c) s ≡ false → is_subject d s ≡ is_subject c s
  subjects_kept (Rec n) single none = kept_by (Rec n) single (is_subject c (Rec n) || is_subject d (Rec n)) refl none
  subjects_kept (Side n) single none = kept_by (Side n) single (is_subject c (Side n) || is_subject d (Side n)) refl none
  subjects_kept (Pair a b) single none = cc
  subjects_kept (Ident l) single none = kept_by (Ident l) single (is_subject c (Ident l) || is_subject d (Ident l)) refl none
