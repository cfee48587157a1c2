-- What the steps of judging anew come to.
use Rattle.std.proofs.Common.{◌≡◌, ◌+◌, List, [], ◌∷◌, length, map, refl, sym, ap, ◌∙◌, subst, arith}
use Rattle.std.proofs.lemmas.List.Folds.{fold-map}
use Rattle.std.proofs.lemmas.List.Sums.{sum_by-cons}
use Rattle.s57_types.specs.declared.cell.Cell.{Cell}
use Rattle.cell_spec.specs.declared.edit.Edit.{Edit}
use Rattle.cell_spec.specs.declared.finding.Finding.{Finding}
use Rattle.cell_spec.specs.declared.finding.Row.{Row}
use Rattle.cell_spec.specs.declared.key.Subject.{Subject}
use Rattle.cell_spec.specs.Edits.{apply_edits}
use Rattle.rule_spec.specs.Findings.{findings_of_subject}
use Rattle.rule_spec.specs.Affected.{affected_list, change_by, exact_row}
use Rattle.affected_subjects.specs.Reached.{gone_list}
use Rattle.cell_bench.specs.declared.refusal.PlanRefusal.{PlanRefusal}
use Rattle.cell_bench.specs.Limits.{IsFull}
use Rattle.cell_bench.specs.Rejudging.{Rejudging, fresh_among, fresh_in, judged_in, unchanged, with_row_of, with_rows, without_all}
use Rattle.cell_bench.proofs.Counted.{fresh_cons, fresh_left}

-- the rows of subjects are those that judging them gives
pub rows_as : (d : Cell) (r : Rejudging) (judged : List Subject) → with_rows r (map (exact_row d) judged) ≡ judged_in d r judged
rows_as d r judged = fold-map with_row_of (exact_row d) r judged

pub fresh_as : (d : Cell) (judged : List Subject) → fresh_among (map (exact_row d) judged) ≡ fresh_in d judged
fresh_as d [] = refl
fresh_as d (s ∷ judged) =
    sum_by-cons (λ (row : Row). length row.findings) (exact_row d s) (map (exact_row d) judged)
    ∙ ap (λ n. length (findings_of_subject d s) + n) (fresh_as d judged)
    ∙ sym (fresh_cons d s judged)

-- what a look, a start, what goes and what is judged are for edits of a cell
pub record AreOf (edits : List Edit) (c : Cell) (rows : List (Subject × List Finding)) (over : Cell) (start after : Rejudging)
    (gone judged : List Subject) : Type 0 where
  pub over_is : over ≡ apply_edits edits c
  pub start_is : start ≡ unchanged rows
  pub gone_is : gone ≡ gone_list (change_by edits c)
  pub judged_is : judged ≡ affected_list (change_by edits c)
  pub after_is : after ≡ without_all start gone

pub are_of : {edits : List Edit} {c : Cell} {rows : List (Subject × List Finding)} {over : Cell} {start after : Rejudging} {gone judged : List Subject}
    → over ≡ apply_edits edits c → start ≡ unchanged rows → gone ≡ gone_list (change_by edits c) → judged ≡ affected_list (change_by edits c)
    → after ≡ without_all start gone → AreOf edits c rows over start after gone judged
are_of over_is start_is gone_is judged_is after_is =
    record { over_is = over_is; start_is = start_is; gone_is = gone_is; judged_is = judged_is; after_is = after_is }

module _ (edits : List Edit) (c : Cell) (rows : List (Subject × List Finding)) (over : Cell) (start after : Rejudging) (gone judged : List Subject)
    (are : AreOf edits c rows over start after gone judged) where
  pub ended : (end : Rejudging) → end ≡ judged_in over after judged
      → end ≡ judged_in (apply_edits edits c) (without_all (unchanged rows) (gone_list (change_by edits c))) (affected_list (change_by edits c))
  ended end is = is ∙ (λ i. judged_in (are.over_is i) ((are.after_is ∙ (λ j. without_all (are.start_is j) (are.gone_is j))) i) (are.judged_is i))

  pub full_so : (why : PlanRefusal) → IsFull (after.fresh + fresh_in over judged) why
      → IsFull (fresh_in (apply_edits edits c) (affected_list (change_by edits c))) why
  full_so why is =
      let none : after.fresh ≡ 0 = ap (λ (r : Rejudging). r.fresh) (are.after_is ∙ ap (λ r. without_all r gone) are.start_is)
      ∙ fresh_left gone (unchanged rows) in
      let same : fresh_in over judged ≡ fresh_in (apply_edits edits c) (affected_list (change_by edits c)) = λ i. fresh_in (are.over_is i) (are.judged_is i) in
      let sum : after.fresh + fresh_in over judged ≡ fresh_in (apply_edits edits c) (affected_list (change_by edits c)) = omega (arith, none, same) in
      subst (λ count. IsFull count why) sum is
