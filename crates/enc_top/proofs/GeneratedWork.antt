-- What the words behind `make` and `drill` ask for.
use Rattle.std.proofs.Common.{◌≡◌, inl, inr, ℕ, ◌<◌, Bool, true, false, List, length, Option, Some, None, Result, Ok, Err, cond, refl, sym, ap, ◌∙◌, subst}
use Rattle.std.proofs.Common.{arith}
use Rattle.std.specs.Prelude.{nat_lt}
use Rattle.std.proofs.lemmas.Bool.Decides.{nat_tests}
use Rattle.cell_make.specs.GeneratedCell.{generated_cell}
use Rattle.drill_run.specs.Drills.{IsDrilled}
use Rattle.drill_run.specs.DrillText.{drill_line, made_line}
use Rattle.drill_run.specs.declared.counts.Drilled.{Drilled}
use Rattle.enc_outside.specs.Files.{Files}
use Rattle.file_spec.specs.DecodedCell.{decoded_cell}
use Rattle.file_spec.specs.EncodedCell.{encoded_cell}
use Rattle.history_spec.specs.Steps.{finding_limit}
use Rattle.rule_spec.specs.Findings.{finding_total}
use Rattle.s57_types.specs.declared.cell.Cell.{Cell}
use Rattle.call_files.specs.Inputs.{IsJudged}
use Rattle.enc_top.specs.Inputs.{drill_answer}
use Rattle.enc_top.specs.Outcome.{IsAskedBy, IsMakeOf}
use Rattle.call_files.specs.Task.{Task, task_of}
use Rattle.enc_top.specs.Task.{drill_task, make_task}
use Rattle.enc_top.specs.Words.{Form, drill_form, make_form}
use Rattle.call_files.specs.declared.work.Work.{Work}
use Rattle.report_text.specs.declared.status.Status.{Status}
use Rattle.report_text.specs.declared.status.Status.TheVariants.{NoMemory, TooManyFindings}
use Rattle.enc_top.proofs.Completed.{drilled}

pub asked_make : (form : Form) (n : ℕ) (out : List ℕ) (files : Option Files) (count : ℕ) (work : Work) → form ≡ make_form n out
    → IsMakeOf n out (task_of work) → IsAskedBy ⊥ form files count count (Ok work)
asked_make form n out files count work is made =
    subst (λ (f : Form). IsAskedBy ⊥ f files count count (Ok work)) (sym is) (made, (ap (λ (task : Task). Ok task) made.is, refl))

pub no_room_to_make : (form : Form) (n : ℕ) (out : List ℕ) (files : Option Files) (count : ℕ) → form ≡ make_form n out
    → IsAskedBy ⊥ form files count count (Err NoMemory)
no_room_to_make form n out files count is = subst (λ (f : Form). IsAskedBy ⊥ f files count count (Err NoMemory)) (sym is) refl

same_err : (x y : Status) → ◌≡◌ {A = Result Task Status} (Err x) (Err y) → x ≡ y
same_err x y e = cc

not_ok : (task : Task) (status : Status) → ◌≡◌ {A = Result Task Status} (Ok task) (Err status) → ⊥
not_ok task status e = cc

-- a drill that ends with another status than out of memory ends with too many findings
full_drill : (n sessions : ℕ) (status : Status) → drill_answer n sessions ≡ Err status → TooManyFindings ≡ status
full_drill n sessions status is = by (nat_lt finding_limit (finding_total (generated_cell n))) is
  where
    by : (full : Bool) → cond full (Err TooManyFindings) (Ok (drill_task n sessions)) ≡ Err status → TooManyFindings ≡ status
    by true e = same_err TooManyFindings status e
    by false e = absurd (not_ok (drill_task n sessions) status e)

drill_asked : (n sessions : ℕ) (files : Option Files) (count : ℕ) (result : Result Work Status)
    → IsJudged task_of (drill_answer n sessions) result → IsAskedBy ⊥ (drill_form n sessions) files count count result
drill_asked n sessions files count (Ok work) is = (is, (sym is, refl))
drill_asked n sessions files count (Err status) (inr none) =
    subst (λ (s : Status). IsAskedBy ⊥ (drill_form n sessions) files count count (Err s)) (sym none) refl
drill_asked n sessions files count (Err status) (inl is) =
    let full = full_drill n sessions status is in
    subst (λ (s : Status). IsAskedBy ⊥ (drill_form n sessions) files count count (Err s)) full
    (tt, (sym (is ∙ ap (λ (s : Status). Err s) (sym full)), refl))

pub asked_drill : (form : Form) (n sessions : ℕ) (files : Option Files) (count : ℕ) (result : Result Work Status)
    → form ≡ drill_form n sessions → IsJudged task_of (drill_answer n sessions) result → IsAskedBy ⊥ form files count count result
asked_drill form n sessions files count result is judged =
    subst (λ (f : Form). IsAskedBy ⊥ f files count count result) (sym is) (drill_asked n sessions files count result judged)

-- ---- the tasks, by their parts
above : (limit n : ℕ) → limit < n → nat_lt limit n ≡ true
above limit n more = grind (arith, nat_tests)

pub too_full : (n sessions : ℕ) → finding_limit < finding_total (generated_cell n) → drill_answer n sessions ≡ Err TooManyFindings
too_full n sessions many = rw (above finding_limit (finding_total (generated_cell n)) many) refl

abbrev text_alone : List ℕ → Task
text_alone text = record { text = text; file = None }

pub drilled_is : (n sessions : ℕ) (counts : Drilled) (text : List ℕ) → IsDrilled n sessions counts → text ≡ drill_line n sessions counts
    → drill_answer n sessions ≡ Ok (text_alone text)
drilled_is n sessions counts text is told = drilled n sessions is.few ∙ ap (λ (t : List ℕ). Ok (text_alone t))
    (sym (told ∙ ap (drill_line n sessions) is.counts))

abbrev text_and_file : List ℕ → List ℕ → List ℕ → Task
text_and_file out text bytes = record { text = text; file = Some (out, bytes) }

pub made_is : (n : ℕ) (out : List ℕ) (cell : Cell) (name text bytes : List ℕ) → cell ≡ generated_cell n → name ≡ out
    → text ≡ made_line cell (length bytes) → bytes ≡ encoded_cell cell → decoded_cell (encoded_cell cell) ≡ Ok cell
    → IsMakeOf n out (text_and_file name text bytes)
made_is n out cell name text bytes is_cell is_name is_text is_bytes back =
    record {
      is = by (is_text ∙ ap (λ (b : List ℕ). made_line cell (length b)) is_bytes);
      read_back = subst (λ (c : Cell). decoded_cell (encoded_cell c) ≡ Ok c) is_cell back;
    }
  where
    by : text ≡ made_line cell (length (encoded_cell cell)) → text_and_file name text bytes ≡ make_task n out
    by told = (λ i. text_and_file (is_name i) (told i) (is_bytes i))
        ∙ ap (λ (c : Cell). text_and_file out (made_line c (length (encoded_cell c))) (encoded_cell c)) is_cell
