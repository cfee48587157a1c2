-- Subjects that are judged anew, one after the other, and the others as they were: in the end these are the tables of the edited cell.
use Rattle.std.proofs.Common.{append-nil, ◌≡◌, ◌&&◌, ◌||◌, Bool, true, false, List, [], ◌∷◌, ◌++◌, Option, None, Some, cond, filter, length, refl}
use Rattle.std.proofs.Common.{sym, ap, ◌∙◌, subst}
use Rattle.std.proofs.Common.{append_assoc}
use Rattle.std.specs.Prelude.{All, IsTrue, nat_lt, not}
use Rattle.std.specs.Cmp.{Equal-is}
use Rattle.std.specs.List.{AllByRecursion}
use Rattle.std.proofs.lemmas.Bool.{both_ways as contradiction}
use Rattle.std.proofs.lemmas.Cmp.{eq_by_cmp_equiv}
use Rattle.std.proofs.lemmas.List.Elements.{All-from_recursion}
use Rattle.std.proofs.lemmas.List.Folds.{list_any-append}
use Rattle.std.proofs.lemmas.List.Sums.{fold-append}
use Rattle.std.proofs.lemmas.Map.Views.{any-filter_same}
use Rattle.s57_types.specs.declared.cell.Cell.{Cell}
use Rattle.cell_spec.specs.declared.edit.Edit.{Edit}
use Rattle.cell_spec.specs.declared.finding.Finding.{Finding}
use Rattle.cell_spec.specs.declared.key.Key.{Key}
use Rattle.cell_spec.specs.declared.key.Subject.{Subject}
use Rattle.cell_spec.specs.Edits.{apply_edits}
use Rattle.cell_spec.specs.Names.{same_subject, subject_order}
use Rattle.cell_spec.proofs.SubjectOrder.{exact_subjects, total_subjects}
use Rattle.rule_spec.specs.Affected.{affected_list, change_by, considered, each_once, exact_row, is_affected, is_single}
use Rattle.rule_spec.specs.Findings.{findings_of_subject, is_subject}
use Rattle.rule_spec.specs.Reads.{read_set}
use Rattle.row_spec.specs.Rows.{IsAscending, value_of, with_row, without_key}
use Rattle.row_spec.proofs.Ascending.{IsAscending-with_row, IsAscending-without_key}
use Rattle.row_spec.proofs.Changes.{value_of-with_row, value_of-without_key}
use Rattle.answer_laws.specs.EditedAnswers.{FindTheirRecords}
use Rattle.finding_laws.specs.Tables.{IsReadsOf, IsVerdictTable, reads_in, verdict_in}
use Rattle.finding_laws.specs.Unaffected.{AffectedAreConsidered, UnaffectedSinglesKeepReads, UnaffectedSubjectsKeepFindings}
use Rattle.finding_laws.proofs.Listed.{no_subject}
use Rattle.finding_laws.proofs.Moved.{each_tested}
use Rattle.depend_map.specs.declared.change.ReadChange.{ReadChange}
use Rattle.depend_map.specs.Changes.{ChangesSetTheirSubjects, after_changes, is_change_of, reads_after}
use Rattle.affected_subjects.specs.Reached.{gone_list}
use Rattle.cell_bench.specs.Rejudging.{IsRejudged, IsRejudgedBy, Rejudging, change_of, is_done, judged_in, unchanged, with_change, with_row_of, without}
use Rattle.cell_bench.specs.Rejudging.{without_all}

-- ---- tests
pub turned : (s t : Subject) → same_subject s t ≡ same_subject t s
turned s t = (eq_by_cmp_equiv total_subjects).symm s t

pub one : (t s : Subject) → same_subject t s ≡ true → t ≡ s
one t s e = exact_subjects t s ((Equal-is (subject_order t s)).0 e)

done_more : (done : List Subject) (t s : Subject) → is_done (done ++ t ∷ []) s ≡ (is_done done s || (same_subject t s || false))
done_more done t s = list_any-append (same_subject s) done (t ∷ []) ∙ ap (λ b. is_done done s || (b || false)) (turned s t)

-- the value at the one subject or at the other, where they are one
at_either : {X : Type 0} (f : Subject → X) (t s : Subject) (x : X) (tie : Bool) → same_subject t s ≡ tie → cond tie (f t) x ≡ cond tie (f s) x
at_either f t s x true is = ap f (one t s is)
at_either f t s x false is = refl

verdict_step : {X : Type 0} (tie was : Bool) (new old : X) → cond tie new (cond was new old) ≡ cond (was || (tie || false)) new old
verdict_step true true new old = refl
verdict_step true false new old = refl
verdict_step false true new old = refl
verdict_step false false new old = refl

reads_step : {X : Type 0} (single tie was known : Bool) (some none had : X)
    → cond (single && tie) (cond known some none) (cond (single && was) (cond (single && known) some none) had)
    ≡ cond (single && (was || (tie || false))) (cond (single && known) some none) had
reads_step true true true known some none had = refl
reads_step true true false known some none had = refl
reads_step true false true known some none had = refl
reads_step true false false known some none had = refl
reads_step false tie was known some none had = refl

-- ---- one subject
-- the findings of a subject that are put, or that go
put_by : (rows : List (Subject × List Finding)) (t s : Subject) (fs : List Finding) (some : Bool) → IsAscending subject_order rows
    → value_of subject_order (cond some (with_row subject_order rows t fs) (without_key subject_order rows t)) s
    ≡ cond (same_subject t s) (cond some (Some fs) None) (value_of subject_order rows s)
put_by rows t s fs true ascending = value_of-with_row subject_order total_subjects rows t s fs
put_by rows t s fs false ascending = value_of-without_key subject_order total_subjects rows t s ascending

ascends_by : (rows : List (Subject × List Finding)) (t : Subject) (fs : List Finding) (some : Bool) → IsAscending subject_order rows
    → IsAscending subject_order (cond some (with_row subject_order rows t fs) (without_key subject_order rows t))
ascends_by rows t fs true ascending = IsAscending-with_row subject_order total_subjects rows t fs ascending
ascends_by rows t fs false ascending = IsAscending-without_key subject_order rows t ascending

abbrev reads_of : Cell → Subject → Option (List Key)
reads_of d s = cond (is_subject d s) (Some (read_set d s)) None

change_at : (d : Cell) (t s : Subject) (prev : Option (List Key)) (tie : Bool) → same_subject t s ≡ tie
    → cond (is_single t && tie) (reads_of d t) prev ≡ cond (is_single s && tie) (reads_of d s) prev
change_at d t s prev true is = ap (λ u. cond (is_single u && true) (reads_of d u) prev) (one t s is)
change_at d t s prev false is = nothing (is_single t) (reads_of d t) ∙ sym (nothing (is_single s) (reads_of d s))
  where
    nothing : (b : Bool) (x : Option (List Key)) → cond (b && false) x prev ≡ prev
    nothing true x = refl
    nothing false x = refl

-- a change leaves what a subject had, but for the subject that it is of; there is none of a pair
changed_by : (t s : Subject) (reads prev : Option (List Key)) (single : Bool) → is_single t ≡ single
    → reads_after prev (cond single (record { subject = t; reads = reads } ∷ []) []) s ≡ cond (is_single t && same_subject t s) reads prev
changed_by t s reads prev true is = refl
changed_by t s reads prev false is = sym (ap (λ single. cond (single && same_subject t s) reads prev) is)

-- the rows, and the changes, with one subject more
abbrev with_subject : Cell → Rejudging → Subject → Rejudging
with_subject d r t = with_change r t (findings_of_subject d t) (reads_of d t)

step : (c d : Cell) (done : List Subject) (r : Rejudging) (t : Subject) → IsRejudged c d done r → IsRejudged c d (done ++ t ∷ []) (with_subject d r t)
step c d done r t is = record {
  ascending = ascends_by r.rows t (findings_of_subject d t) (nat_lt 0 (length (findings_of_subject d t))) is.ascending;
  verdicts = λ s.
      put_by r.rows t s (findings_of_subject d t) (nat_lt 0 (length (findings_of_subject d t))) is.ascending
      ∙ at_either (verdict_in d) t s (value_of subject_order r.rows s) (same_subject t s) refl
      ∙ ap (λ prev. cond (same_subject t s) (verdict_in d s) prev) (is.verdicts s)
      ∙ verdict_step (same_subject t s) (is_done done s) (verdict_in d s) (verdict_in c s)
      ∙ ap (λ b. cond b (verdict_in d s) (verdict_in c s)) (sym (done_more done t s));
  reads = λ had s.
      fold-append (λ has (change : ReadChange). cond (is_change_of s change) change.reads has) had r.changes (change_of t (reads_of d t))
      ∙ changed_by t s (reads_of d t) (reads_after had r.changes s) (is_single t) refl
      ∙ change_at d t s (reads_after had r.changes s) (same_subject t s) refl
      ∙ ap (λ prev. cond (is_single s && same_subject t s) (reads_of d s) prev) (is.reads had s)
      ∙ reads_step (is_single s) (same_subject t s) (is_done done s) (is_subject d s) (Some (read_set d s)) None had
      ∙ ap (λ b. cond (is_single s && b) (reads_in d s) had) (sym (done_more done t s));
}

gone_as : (d : Cell) (r : Rejudging) (t : Subject) → is_subject d t ≡ false → with_subject d r t ≡ without r t
gone_as d r t none = let found = no_subject d t none in λ i. with_change r t (found i) (cond (none i) (Some (read_set d t)) None)

judged_as : (d : Cell) (r : Rejudging) (t : Subject) → is_subject d t ≡ true → with_subject d r t ≡ with_row_of r (exact_row d t)
judged_as d r t some = λ i. with_change r t (findings_of_subject d t) (cond (some i) (Some (read_set d t)) None)

-- ---- one after the other
all_gone : (c d : Cell) (done gone : List Subject) (r : Rejudging) → AllByRecursion (λ s. is_subject d s ≡ false) gone → IsRejudged c d done r
    → IsRejudged c d (done ++ gone) (without_all r gone)
all_gone c d done [] r none is = subst (λ all. IsRejudged c d all r) (sym (append-nil done)) is
all_gone c d done (t ∷ gone) r none is =
    subst (λ all. IsRejudged c d all (without_all (without r t) gone)) (append_assoc done (t ∷ []) gone)
    (all_gone c d (done ++ t ∷ []) gone (without r t) none.1 (subst (IsRejudged c d (done ++ t ∷ [])) (gone_as d r t none.0) (step c d done r t is)))

all_judged : (c d : Cell) (done judged : List Subject) (r : Rejudging) → AllByRecursion (λ s. is_subject d s ≡ true) judged → IsRejudged c d done r
    → IsRejudged c d (done ++ judged) (judged_in d r judged)
all_judged c d done [] r some is = subst (λ all. IsRejudged c d all r) (sym (append-nil done)) is
all_judged c d done (t ∷ judged) r some is =
    subst (λ all. IsRejudged c d all (judged_in d (with_row_of r (exact_row d t)) judged)) (append_assoc done (t ∷ []) judged)
    (all_judged c d (done ++ t ∷ []) judged (with_row_of r (exact_row d t)) some.1
    (subst (IsRejudged c d (done ++ t ∷ [])) (judged_as d r t some.0) (step c d done r t is)))

-- ---- what is done in the end
covered : (a b : Bool) → (a || (not a && b)) ≡ (a || b)
covered true b = refl
covered false b = refl

once_done : (ss : List Subject) (s : Subject) → is_done (each_once ss) s ≡ is_done ss s
once_done [] s = refl
once_done (t ∷ ss) s =
    ap (λ b. same_subject s t || b) (any-filter_same (same_subject s) (λ u. not (same_subject t u)) (not (same_subject t s))
    (λ u tie. ap (λ v. not (same_subject t v)) (sym (one s u tie))) (each_once ss))
    ∙ ap (λ b. same_subject s t || (not b && is_done (each_once ss) s)) (turned t s)
    ∙ covered (same_subject s t) (is_done (each_once ss) s)
    ∙ ap (λ b. same_subject s t || b) (once_done ss s)

either_part : (b x : Bool) → ((not b && x) || (b && x)) ≡ x
either_part true x = refl
either_part false true = refl
either_part false false = refl

opposite : (b : Bool) → not b ≡ true → b ≡ false
opposite true e = cc
opposite false e = refl

module _ (edits : List Edit) (c : Cell) (fit : FindTheirRecords edits c) (findings_stay : UnaffectedSubjectsKeepFindings)
    (reads_stay : UnaffectedSinglesKeepReads)
    (considered_all : AffectedAreConsidered) (subjects_stay : (s : Subject) → is_single s ≡ true → is_affected (change_by edits c) s ≡ false
    → is_subject (apply_edits edits c) s ≡ is_subject c s) where
  abbrev d : Cell
  d = apply_edits edits c

  abbrev once : List Subject
  once = each_once (considered (change_by edits c))

  abbrev done : List Subject
  done = gone_list (change_by edits c) ++ affected_list (change_by edits c)

  kept_part : (p : Subject → Bool) (s : Subject) → is_done (filter p once) s ≡ (p s && is_done once s)
  kept_part p s = any-filter_same (same_subject s) p (p s) (λ u tie. ap p (sym (one s u tie))) once

  all_done : (s : Subject) → is_done done s ≡ is_done (considered (change_by edits c)) s
  unfolding affected_list
  all_done s =
      list_any-append (same_subject s) (gone_list (change_by edits c)) (affected_list (change_by edits c))
      ∙ (λ i. kept_part (λ t. not (is_subject d t)) s i || kept_part (is_subject d) s i)
      ∙ either_part (is_subject d s) (is_done once s)
      ∙ once_done (considered (change_by edits c)) s

  -- what isn't looked at isn't affected
  unaffected : (s : Subject) → is_done done s ≡ false → is_affected (change_by edits c) s ≡ false
  unaffected s none = by (is_affected (change_by edits c) s) refl
    where
      by : (b : Bool) → is_affected (change_by edits c) s ≡ b → b ≡ false
      by true hit = absurd (contradiction (is_done done s) none (all_done s ∙ considered_all edits c fit s hit))
      by false clear = refl

  verdict_end : (s : Subject) (b : Bool) → is_done done s ≡ b → cond b (verdict_in d s) (verdict_in c s) ≡ verdict_in d s
  verdict_end s true is = refl
  verdict_end s false is = ap (λ (fs : List Finding). cond (nat_lt 0 (length fs)) (Some fs) None) (sym (findings_stay edits c fit s (unaffected s is)))

  reads_by : (s : Subject) → is_single s ≡ true → is_affected (change_by edits c) s ≡ false → (known : Bool) → is_subject c s ≡ known
      → cond known (Some (read_set c s)) None ≡ cond known (Some (read_set d s)) None
  reads_by s single none true is = ap Some (sym (reads_stay edits c fit s single (ap (λ b. b || is_subject d s) is) none))
  reads_by s single none false is = refl

  reads_end : (s : Subject) (single b : Bool) → is_single s ≡ single → is_done done s ≡ b
      → cond (single && b) (cond (single && is_subject d s) (Some (read_set d s)) None) (cond (single && is_subject c s) (Some (read_set c s)) None)
      ≡ cond (single && is_subject d s) (Some (read_set d s)) None
  reads_end s false b single is = refl
  reads_end s true true single is = refl
  reads_end s true false single is =
      let none = unaffected s is in
      reads_by s single none (is_subject c s) refl ∙ ap (λ known. cond known (Some (read_set d s)) None) (sym (subjects_stay s single none))

  started : (rows : List (Subject × List Finding)) → IsVerdictTable c rows → IsRejudged c d [] (unchanged rows)
  started rows table = record {
    ascending = table.ascending;
    verdicts = table.exact;
    reads = λ had s. nothing had (is_single s) (reads_in d s);
  }
    where
      nothing : (had : Option (List Key)) (single : Bool) (x : Option (List Key)) → had ≡ cond (single && false) x had
      nothing had true x = refl
      nothing had false x = refl

  abbrev pub rejudged : List (Subject × List Finding) → Rejudging
  rejudged rows = judged_in d (without_all (unchanged rows) (gone_list (change_by edits c))) (affected_list (change_by edits c))

  rejudged_is : (rows : List (Subject × List Finding)) → IsVerdictTable c rows → IsRejudged c d done (rejudged rows)
  unfolding affected_list
  rejudged_is rows table =
      all_judged c d (gone_list (change_by edits c)) (affected_list (change_by edits c)) (without_all (unchanged rows) (gone_list (change_by edits c)))
      (each_tested (λ s. is_subject d s ≡ true) (is_subject d) (λ s e. e) once)
      (all_gone c d [] (gone_list (change_by edits c)) (unchanged rows)
      (each_tested (λ s. is_subject d s ≡ false) (λ s. not (is_subject d s)) (λ s e. opposite (is_subject d s) e) once) (started rows table))

  -- the findings are those of the edited cell
  pub verdicts_are : (rows : List (Subject × List Finding)) → IsVerdictTable c rows → IsVerdictTable d (rejudged rows).rows
  verdicts_are rows table =
      let is = rejudged_is rows table in
      record { ascending = is.ascending; exact = λ s. is.verdicts s ∙ verdict_end s (is_done done s) refl }

  -- and so are the read sets after the changes
  pub reads_are : (rows : List (Subject × List Finding)) (reads : List (Subject × List Key)) → IsVerdictTable c rows → IsReadsOf c reads
      → ChangesSetTheirSubjects
      → IsReadsOf d (after_changes reads (rejudged rows).changes)
  reads_are rows reads table map sets =
      let is = rejudged_is rows table in
      record {
        ascending = sets.ascending reads (rejudged rows).changes map.ascending;
        exact = λ s.
            sets.reads reads (rejudged rows).changes s map.ascending
            ∙ is.reads (value_of subject_order reads s) s
            ∙ ap (λ had. cond (is_single s && is_done done s) (reads_in d s) had) (map.exact s)
            ∙ reads_end s (is_single s) (is_done done s) refl refl;
      }

  pub rejudged_by : (rows : List (Subject × List Finding)) (r : Rejudging) → IsVerdictTable c rows → ChangesSetTheirSubjects
      → r ≡ rejudged rows → IsRejudgedBy c edits r
  rejudged_by rows r table sets is = subst (IsRejudgedBy c edits) (sym is) (record {
    verdicts_are = verdicts_are rows table;
    reads_are = λ reads map. reads_are rows reads table map sets;
  })

-- the affected list has subjects of the edited cell alone
pub judged_there : (edits : List Edit) (c : Cell) → All (λ s. IsTrue (is_subject (apply_edits edits c) s)) (affected_list (change_by edits c))
unfolding affected_list
judged_there edits c =
    All-from_recursion (λ s. is_subject (apply_edits edits c) s ≡ true) (affected_list (change_by edits c))
    (each_tested (λ s. is_subject (apply_edits edits c) s ≡ true) (is_subject (apply_edits edits c)) (λ s e. e) (each_once (considered (change_by edits c))))
