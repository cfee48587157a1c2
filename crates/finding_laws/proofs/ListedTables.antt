-- Tables of verdicts and of reads that are right for each subject are those that the cell's subjects list.
use Rattle.std.proofs.Common.{◌≡◌, ◌&&◌, Bool, true, false, List, None, Some, cond, length, refl, sym, ap, ◌∙◌}
use Rattle.std.specs.Prelude.{nat_lt}
use Rattle.std.specs.List.{list_any}
use Rattle.s57_types.specs.declared.cell.Cell.{Cell}
use Rattle.cell_spec.specs.declared.finding.Finding.{Finding}
use Rattle.cell_spec.specs.declared.key.Key.{Key}
use Rattle.cell_spec.specs.declared.key.Subject.{Subject}
use Rattle.cell_spec.specs.Names.{same_key, subject_order}
use Rattle.cell_spec.proofs.Ascending.{holds}
use Rattle.rule_spec.specs.Affected.{is_single}
use Rattle.rule_spec.specs.Findings.{all_findings, findings_of_subject, is_subject, subjects}
use Rattle.rule_spec.specs.Reads.{read_set}
use Rattle.finding_laws.specs.Tables.{IsReadsOf, IsVerdictTable, ReadersAreListed, VerdictTablesAreAll, reads_in, reads_listed, readers_in, verdict_in}
use Rattle.finding_laws.proofs.Listed.{holds_subject, no_subject, sorted_subjects}
use Rattle.finding_laws.proofs.Rows.{is_made, keys_chosen, made_ascends, value_made}
use Rattle.cell_spec.proofs.SubjectOrder.{exact_subjects, total_subjects}

-- ---- verdicts
abbrev has_some : Subject × List Finding → Bool
has_some row = nat_lt 0 (length row.1)

verdict_by : (c : Cell) (s : Subject) (subject : Bool) → is_subject c s ≡ subject
    → verdict_in c s ≡ cond (subject && has_some (s, findings_of_subject c s)) (Some (findings_of_subject c s)) None
verdict_by c s true is = refl
verdict_by c s false is = ap (λ (found : List Finding). cond (nat_lt 0 (length found)) (Some found) None) (no_subject c s is)

pub verdicts_are_all : VerdictTablesAreAll
unfolding all_findings
verdicts_are_all c rows right =
    is_made subject_order total_subjects exact_subjects (findings_of_subject c) has_some (subjects c) rows (sorted_subjects c) right.ascending
    (λ s. right.exact s ∙ verdict_by c s (holds subject_order s (subjects c)) (sym (holds_subject c s)))

pub all_is_right : (c : Cell) → IsVerdictTable c (all_findings c)
unfolding all_findings
all_is_right c = record {
  ascending = made_ascends subject_order total_subjects exact_subjects (findings_of_subject c) has_some (subjects c) (sorted_subjects c);
  exact = λ s. value_made subject_order total_subjects exact_subjects (findings_of_subject c) has_some s (subjects c)
      ∙ sym (verdict_by c s (holds subject_order s (subjects c)) (sym (holds_subject c s)));
}

-- ---- reads
turned : (a b : Bool) → (a && b) ≡ (b && a)
turned true true = refl
turned true false = refl
turned false true = refl
turned false false = refl

abbrev one_of_single : Subject × List Key → Bool
one_of_single row = is_single row.0

reads_by : (c : Cell) (s : Subject) → reads_in c s ≡ cond (holds subject_order s (subjects c) && is_single s) (Some (read_set c s)) None
reads_by c s = ap (λ b. cond b (Some (read_set c s)) None) (turned (is_single s) (is_subject c s) ∙ ap (λ b. b && is_single s) (sym (holds_subject c s)))

pub readers_listed : ReadersAreListed
readers_listed c rows right k =
    ap (λ those. readers_in those k)
    (is_made subject_order total_subjects exact_subjects (read_set c) one_of_single (subjects c) rows (sorted_subjects c) right.ascending
    (λ s. right.exact s ∙ reads_by c s))
    ∙ keys_chosen subject_order total_subjects exact_subjects (read_set c) one_of_single (λ row. list_any (same_key k) row.1) (subjects c)

pub reads_are_right : (c : Cell) → IsReadsOf c (reads_listed c)
reads_are_right c = record {
  ascending = made_ascends subject_order total_subjects exact_subjects (read_set c) one_of_single (subjects c) (sorted_subjects c);
  exact = λ s. value_made subject_order total_subjects exact_subjects (read_set c) one_of_single s (subjects c) ∙ sym (reads_by c s);
}
