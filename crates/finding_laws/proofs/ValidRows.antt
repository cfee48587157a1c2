-- A valid row stays exact on a newer cell.
use Rattle.std.proofs.Common.{◌≡◌, false, ap, ◌∙◌, subst}
use Rattle.std.specs.List.{list_any, AllByRecursion}
use Rattle.std.proofs.lemmas.Bool.{not-true}
use Rattle.std.proofs.lemmas.List.Elements.{All-from_recursion}
use Rattle.cell_spec.specs.declared.finding.Row.{Row}
use Rattle.cell_spec.specs.Edits.{apply_edits}
use Rattle.cell_spec.specs.Names.{same_key}
use Rattle.rule_spec.specs.Reads.{read_set}
use Rattle.read_laws.specs.FindingsFollowReads.{FindingsFollowReads}
use Rattle.cell_spec.specs.AnswersAlike.{AnswerAlike}
use Rattle.read_laws.proofs.Lists.{each_weaker}
use Rattle.answer_laws.specs.EditedAnswers.{EditedAnswersAreLocal}
use Rattle.finding_laws.specs.Unaffected.{ValidRowsStayExact}
use Rattle.finding_laws.proofs.KeptReads.{none_read}

module _ (follow : FindingsFollowReads) (local : EditedAnswersAreLocal) where
  pub stay : ValidRowsStayExact
  stay edits c d fit_c fit_d stale kept row exact valid =
      let e = apply_edits edits c in
      let f = apply_edits edits d in
      let clear : AllByRecursion (λ k. list_any (same_key k) stale ≡ false) row.reads = none_read stale row.reads (not-true _ valid) in
      let alike : AllByRecursion (λ k. AnswerAlike e f k) row.reads =
      each_weaker (λ k. list_any (same_key k) stale ≡ false) (λ k. AnswerAlike e f k)
      (λ k none. local edits c d fit_c fit_d k (kept k none)) row.reads clear in
      let reads : row.reads ≡ read_set e row.subject = ap (λ (r : Row). r.reads) exact in
      let same = follow row.subject e f (All-from_recursion (λ k. AnswerAlike e f k) (read_set e row.subject)
      (subst (AllByRecursion (λ k. AnswerAlike e f k)) reads alike)) in
      exact ∙ (λ i. record { subject = row.subject; findings = same.findings i; reads = same.reads i })
