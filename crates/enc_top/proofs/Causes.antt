-- The cause of each status, from what the files ask for and what was put.
use Rattle.std.proofs.Common.{◌≡◌, ◌⊎◌, inl, inr, ℕ, List, Option, Some, Result, Ok, Err, refl, sym, subst}
use Rattle.enc_outside.specs.Files.{Files}
use Rattle.enc_top.specs.Inputs.{IsInputOf, OutputIs}
use Rattle.call_files.specs.Outside.{IsCut, IsDoneWork, IsSilent, IsSmooth, Outside}
use Rattle.enc_top.specs.Outcome.{Asks, IsAsked, IsAskedBy, IsBuilt, IsBuiltFor, IsCause, IsCauseOf, IsExact, IsExpected, IsOutput, IsStuckAt}
use Rattle.call_files.specs.Task.{Task, task_of}
use Rattle.enc_top.specs.Words.{Form, apply_form, check_form, drill_form, edge_form, form_of, make_form, no_form, probe_form, replay_form, room_form}
use Rattle.report_text.specs.declared.status.Status.{Status}
use Rattle.report_text.specs.declared.status.Status.TheVariants.{Done, Usage, Absent, BadCell, BadScript, ReadFault, WriteFault, TooLarge, NoMemory}
use Rattle.report_text.specs.declared.status.Status.TheVariants.{BadOrder, Stuck, TooManyFindings, BadUpdate, Refused, BadJournal, DiskFault, OpRefused}
use Rattle.report_text.specs.declared.status.Status.TheVariants.{JournalFull}
use Rattle.call_files.specs.declared.work.Work.{Work}
use Rattle.call_files.proofs.DoneWork.{of_told}

pub work_cause : (sticks : Type 0) (form : Form) (before after : Outside) (work : Work) (status : Status)
    → IsOutput form before.files (task_of work) → IsAsked before after form (Ok (task_of work)) → IsDoneWork (task_of work) before after status
    → IsCauseOf sticks form before after status
work_cause sticks form before after work Done output asked done = (task_of work, output, asked, done)
work_cause sticks form before after work WriteFault output asked cut = (task_of work, output, asked, cut)
work_cause sticks form before after work Usage output asked done = absurd done
work_cause sticks form before after work (Absent name) output asked done = absurd done
work_cause sticks form before after work (BadCell fault) output asked done = absurd done
work_cause sticks form before after work (BadScript session line code) output asked done = absurd done
work_cause sticks form before after work (ReadFault name) output asked done = absurd done
work_cause sticks form before after work (TooLarge name) output asked done = absurd done
work_cause sticks form before after work NoMemory output asked done = absurd done
work_cause sticks form before after work (BadOrder place) output asked done = absurd done
work_cause sticks form before after work (Stuck desk serial) output asked done = absurd done
work_cause sticks form before after work TooManyFindings output asked done = absurd done
work_cause sticks form before after work (BadUpdate fault) output asked done = absurd done
work_cause sticks form before after work (Refused refusal) output asked done = absurd done
work_cause sticks form before after work (BadJournal place) output asked done = absurd done
work_cause sticks form before after work DiskFault output asked done = absurd done
work_cause sticks form before after work (OpRefused cause) output asked done = absurd done
work_cause sticks form before after work (JournalFull count) output asked done = absurd done

-- what was asked stays so while no more is read
pub asked_still : (form : Form) (before mid after : Outside) (answer : Result Task Status) → after.read_faults ≡ mid.read_faults
    → IsAsked before mid form answer → IsAsked before after form answer
asked_still form before mid after answer same asked =
    subst (λ (reads : ℕ). Asks form before.files before.read_faults reads answer) (sym same) asked

pub refused_cause : (sticks : Type 0) (form : Form) (before after : Outside) (status : Status) → IsSilent before after
    → IsAskedBy sticks form before.files before.read_faults after.read_faults (Err status) → IsCauseOf sticks form before after status
refused_cause sticks form before after Done silent asked = absurd asked
refused_cause sticks form before after WriteFault silent asked = absurd asked
refused_cause sticks form before after Usage silent asked = (asked.0, silent, asked.1)
refused_cause sticks form before after (Absent name) silent asked = (asked.0, (asked.1, silent, asked.2))
refused_cause sticks form before after (BadCell fault) silent asked = (asked.0, silent, asked.1)
refused_cause sticks form before after (BadScript session line code) silent asked = (asked.0, (asked.1, silent, asked.2))
refused_cause sticks form before after (ReadFault name) silent asked = (asked.0, silent, asked.1, asked.2)
refused_cause sticks form before after (TooLarge name) silent asked = (asked.0, (asked.1, silent, asked.2))
refused_cause sticks form before after NoMemory silent asked = (asked, silent)
refused_cause sticks form before after (BadOrder place) silent asked = (asked.0, (asked.1, silent, asked.2))
refused_cause sticks form before after (Stuck desk serial) silent asked = (asked.0, silent, asked.1)
refused_cause sticks form before after TooManyFindings silent asked = (asked.0, silent, asked.1)
refused_cause sticks form before after (BadUpdate fault) silent asked = (asked.0, (asked.1, silent, asked.2))
refused_cause sticks form before after (Refused refusal) silent asked = (asked.0, asked.1, (asked.2, silent, asked.3))
refused_cause sticks form before after (BadJournal place) silent asked = absurd asked
refused_cause sticks form before after DiskFault silent asked = absurd asked
refused_cause sticks form before after (OpRefused cause) silent asked = (asked.0, (asked.1, silent, asked.2))
refused_cause sticks form before after (JournalFull count) silent asked = absurd asked

-- ---- where no device failed
told_of_asks : (form : Form) (told : Option Files) (files : Files) (before after : ℕ) (answer : Result Task Status) → told ≡ Some files
    → Asks form told before after answer → OutputIs form files answer
told_of_asks (check_form cell) told files before after answer is asks = of_told told files (λ fs. OutputIs (check_form cell) fs answer) is asks
told_of_asks (replay_form cell out order scripts) told files before after answer is asks =
    of_told told files (λ fs. OutputIs (replay_form cell out order scripts) fs answer) is asks
told_of_asks (room_form cell out scripts) told files before after answer is asks =
    of_told told files (λ fs. OutputIs (room_form cell out scripts) fs answer) is asks
told_of_asks (make_form n out) told files before after answer is asks = asks.0
told_of_asks (drill_form n sessions) told files before after answer is asks = asks.0
told_of_asks (edge_form cell out operation) told files before after answer is asks =
    of_told told files (λ fs. OutputIs (edge_form cell out operation) fs answer) is asks
told_of_asks (probe_form cell at) told files before after answer is asks = of_told told files (λ fs. OutputIs (probe_form cell at) fs answer) is asks
told_of_asks (apply_form cell out update) told files before after answer is asks =
    of_told told files (λ fs. OutputIs (apply_form cell out update) fs answer) is asks
told_of_asks no_form told files before after answer is asks = asks.0

asked_of : (form : Form) (before after : Outside) (files : Files) (answer : Result Task Status) → IsSmooth before after files
    → IsAsked before after form answer → OutputIs form files answer
asked_of form before after files answer smooth asked =
    told_of_asks form before.files files before.read_faults after.read_faults answer smooth.told asked

none_asked : (form : Form) (files : Files) → form ≡ no_form → OutputIs form files (Err Usage)
none_asked form files is = subst (λ (f : Form). OutputIs f files (Err Usage)) (sym is) refl

no_cut : (task : Task) (before after : Outside) (files : Files) → IsSmooth before after files → IsCut task before after → ⊥
no_cut task before after files smooth (inl text) = smooth.puts text.rose
no_cut task before after files smooth (inr file) = smooth.writes file.rose

exact_of : (sticks : Type 0) (form : Form) (before after : Outside) (status : Status) → IsCauseOf sticks form before after status
    → (files : Files) → IsSmooth before after files → ¬ sticks → IsExpected form files status ⊎ (status ≡ NoMemory)
exact_of sticks form before after Done cause files smooth calm = inl (cause.0, asked_of form before after files (Ok cause.0) smooth cause.2)
exact_of sticks form before after WriteFault cause files smooth calm = absurd (no_cut cause.0 before after files smooth cause.3)
exact_of sticks form before after Usage cause files smooth calm = inl (none_asked form files cause.0)
exact_of sticks form before after (Absent name) cause files smooth calm = inl (asked_of form before after files (Err (Absent name)) smooth cause.1.2)
exact_of sticks form before after (BadCell fault) cause files smooth calm = inl (asked_of form before after files (Err (BadCell fault)) smooth cause.2)
exact_of sticks form before after (BadScript session line code) cause files smooth calm =
    inl (asked_of form before after files (Err (BadScript session line code)) smooth cause.1.2)
exact_of sticks form before after (ReadFault name) cause files smooth calm = absurd (smooth.reads cause.2)
exact_of sticks form before after (TooLarge name) cause files smooth calm = inl (asked_of form before after files (Err (TooLarge name)) smooth cause.1.2)
exact_of sticks form before after NoMemory cause files smooth calm = inr refl
exact_of sticks form before after (BadOrder place) cause files smooth calm = inl (asked_of form before after files (Err (BadOrder place)) smooth cause.1.2)
exact_of sticks form before after (Stuck desk serial) cause files smooth calm = absurd (calm cause.0)
exact_of sticks form before after TooManyFindings cause files smooth calm = inl (asked_of form before after files (Err TooManyFindings) smooth cause.2)
exact_of sticks form before after (BadUpdate fault) cause files smooth calm = inl (asked_of form before after files (Err (BadUpdate fault)) smooth cause.1.2)
exact_of sticks form before after (Refused refusal) cause files smooth calm = inl (asked_of form before after files (Err (Refused refusal)) smooth cause.2.2)
exact_of sticks form before after (BadJournal place) cause files smooth calm = absurd cause
exact_of sticks form before after DiskFault cause files smooth calm = absurd cause
exact_of sticks form before after (OpRefused why) cause files smooth calm = inl (asked_of form before after files (Err (OpRefused why)) smooth cause.1.2)
exact_of sticks form before after (JournalFull count) cause files smooth calm = absurd cause

pub exact_from_cause : (sticks : Type 0) (words : List (List ℕ)) (before after : Outside) (status : Status)
    → IsCause sticks words before after status → IsExact sticks words before after status
exact_from_cause sticks words before after status cause = exact_of sticks (form_of words) before after status cause

-- ---- words of no form
no_input : (form : Form) (name : List ℕ) → IsInputOf form name → form ≡ no_form → ⊥
no_input form name is none = subst (λ (f : Form). IsInputOf f name) none is

not_built : (form : Form) → IsBuilt form → form ≡ no_form → ⊥
not_built form built none = subst IsBuilt none built

not_built_for : (form : Form) (before after : ℕ) → IsBuiltFor form before after → form ≡ no_form → ⊥
not_built_for form before after built none = subst (λ (f : Form). IsBuiltFor f before after) none built

no_output : (form : Form) (files : Option Files) (task : Task) → IsOutput form files task → form ≡ no_form → ⊥
no_output form files task output none = subst (λ (f : Form). IsOutput f files task) none output

pub usage_of_none : (sticks : Type 0) (form : Form) (before after : Outside) (status : Status) → IsCauseOf sticks form before after status
    → form ≡ no_form → status ≡ Usage
usage_of_none sticks form before after Done cause none = absurd (no_output form before.files cause.0 cause.1 none)
usage_of_none sticks form before after WriteFault cause none = absurd (no_output form before.files cause.0 cause.1 none)
usage_of_none sticks form before after Usage cause none = refl
usage_of_none sticks form before after (Absent name) cause none = absurd (no_input form name cause.0 none)
usage_of_none sticks form before after (BadCell fault) cause none = absurd (not_built form cause.0 none)
usage_of_none sticks form before after (BadScript session line code) cause none = absurd (not_built form cause.1.0 none)
usage_of_none sticks form before after (ReadFault name) cause none = absurd (no_input form name cause.0 none)
usage_of_none sticks form before after (TooLarge name) cause none = absurd (no_input form name cause.0 none)
usage_of_none sticks form before after NoMemory cause none = absurd (not_built_for form before.read_faults after.read_faults cause.0 none)
usage_of_none sticks form before after (BadOrder place) cause none = absurd (not_built form cause.1.0 none)
usage_of_none sticks form before after (Stuck desk serial) cause none = absurd (subst (λ (f : Form). IsStuckAt f before.files desk serial) none cause.2)
usage_of_none sticks form before after TooManyFindings cause none = absurd (not_built form cause.0 none)
usage_of_none sticks form before after (BadUpdate fault) cause none = absurd (not_built form cause.1.0 none)
usage_of_none sticks form before after (Refused refusal) cause none = absurd (not_built form cause.2.0 none)
usage_of_none sticks form before after (BadJournal place) cause none = absurd cause
usage_of_none sticks form before after DiskFault cause none = absurd cause
usage_of_none sticks form before after (OpRefused why) cause none = absurd (not_built form cause.1.0 none)
usage_of_none sticks form before after (JournalFull count) cause none = absurd cause

pub none_of_usage : (sticks : Type 0) (form : Form) (before after : Outside) (status : Status) → IsCauseOf sticks form before after status
    → status ≡ Usage → form ≡ no_form
none_of_usage sticks form before after status cause is = (subst (IsCauseOf sticks form before after) is cause).0

-- ---- where no rendezvous may give up, as where one may
pub with_sticks : (sticks : Type 0) (form : Form) (before after : Outside) (status : Status) → IsCauseOf ⊥ form before after status
    → IsCauseOf sticks form before after status
with_sticks sticks form before after Done cause = cause
with_sticks sticks form before after WriteFault cause = cause
with_sticks sticks form before after Usage cause = cause
with_sticks sticks form before after (Absent name) cause = cause
with_sticks sticks form before after (BadCell fault) cause = cause
with_sticks sticks form before after (BadScript session line code) cause = cause
with_sticks sticks form before after (ReadFault name) cause = cause
with_sticks sticks form before after (TooLarge name) cause = cause
with_sticks sticks form before after NoMemory cause = cause
with_sticks sticks form before after (BadOrder place) cause = cause
with_sticks sticks form before after TooManyFindings cause = cause
with_sticks sticks form before after (BadUpdate fault) cause = cause
with_sticks sticks form before after (Refused refusal) cause = cause
with_sticks sticks form before after (BadJournal place) cause = cause
with_sticks sticks form before after DiskFault cause = cause
with_sticks sticks form before after (OpRefused why) cause = cause
with_sticks sticks form before after (JournalFull count) cause = cause
with_sticks sticks form before after (Stuck desk serial) cause = absurd cause.0
