-- What the answers of steps tell of the steps that they are part of.
use Rattle.std.proofs.Common.{◌≡◌, ◌⊎◌, inl, inr, ℕ, zero, suc, ◌+◌, ◌<◌, ◌≤◌, List, [], ◌∷◌, ◌++◌, length, get_or, map, Option, Some, None, Result, Ok, Err}
use Rattle.std.proofs.Common.{String, Global, string_bytes, refl, sym, ap, ◌∙◌, subst, length-append, arith}
use Rattle.std.specs.Prelude.{IfErr, IfOk, IfSome, slice_index_or}
use Rattle.std.proofs.lemmas.List.{get_or-map}
use Rattle.std.proofs.lemmas.Bool.{cases_lt}
use Rattle.enc_outside.specs.Count.{Rose}
use Rattle.enc_outside.specs.Files.{Files}
use Rattle.text_spec.specs.declared.command.Command.{Command}
use Rattle.call_files.specs.Inputs.{AreScripts, IsInputStatus, IsReachedScript, ScriptIs, ScriptsAre}
use Rattle.call_files.specs.Inputs.{EndTellsReads, Tells, TellsReads}
use Rattle.report_text.specs.declared.status.Status.{Status}
use Rattle.report_text.specs.declared.status.Status.TheVariants.{Done, Usage, Absent, BadCell, BadScript, ReadFault, WriteFault, TooLarge, NoMemory}
use Rattle.report_text.specs.declared.status.Status.TheVariants.{BadOrder, Stuck, TooManyFindings, BadUpdate, Refused, BadJournal, DiskFault, OpRefused}
use Rattle.report_text.specs.declared.status.Status.TheVariants.{JournalFull}

pub both_told : {P Q R : Files → Type 0} (files : Option Files) → IfSome files P → IfSome files Q → ((fs : Files) → P fs → Q fs → R fs) → IfSome files R
both_told None p q make = tt
both_told (Some fs) p q make = make fs p q

pub rose_earlier : (before mid after : ℕ) → before ≤ mid → Rose mid after → Rose before after
rose_earlier before mid after le rose = omega (arith, le, rose)

-- the status at which a later step ended, as that of the whole
pub tells_later : {A B C D : Type 0} (seen : A → B) (other : C → D) (Step : Files → Result B Status → Type 0)
    (Whole : Files → Result D Status → Type 0) (Near Far : Files → List ℕ → Type 0) (P : Files → Type 0) (files : Option Files)
    (before mid after : ℕ) (status : Status)
    → before ≤ mid → IfSome files P → ((fs : Files) → P fs → Step fs (Err status) → Whole fs (Err status))
    → ((fs : Files) (name : List ℕ) → P fs → Near fs name → Far fs name)
    → Tells seen Step Near files mid after (Err status) → Tells other Whole Far files before after (Err status)
tells_later seen other Step Whole Near Far P files before mid after Done le known make reach tells = both_told files known tells make
tells_later seen other Step Whole Near Far P files before mid after Usage le known make reach tells = both_told files known tells make
tells_later seen other Step Whole Near Far P files before mid after (Absent name) le known make reach tells = both_told files known tells make
tells_later seen other Step Whole Near Far P files before mid after (BadCell fault) le known make reach tells = both_told files known tells make
tells_later seen other Step Whole Near Far P files before mid after (BadScript session line code) le known make reach tells = both_told files known tells make
tells_later seen other Step Whole Near Far P files before mid after (ReadFault name) le known make reach tells =
    (rose_earlier before mid after le tells.0, both_told files known tells.1 (λ fs p near. reach fs name p near))
tells_later seen other Step Whole Near Far P files before mid after WriteFault le known make reach tells = both_told files known tells make
tells_later seen other Step Whole Near Far P files before mid after (TooLarge name) le known make reach tells = both_told files known tells make
tells_later seen other Step Whole Near Far P files before mid after NoMemory le known make reach tells = tt
tells_later seen other Step Whole Near Far P files before mid after (BadOrder place) le known make reach tells = both_told files known tells make
tells_later seen other Step Whole Near Far P files before mid after (Stuck desk serial) le known make reach tells = both_told files known tells make
tells_later seen other Step Whole Near Far P files before mid after TooManyFindings le known make reach tells = both_told files known tells make
tells_later seen other Step Whole Near Far P files before mid after (BadUpdate fault) le known make reach tells = both_told files known tells make
tells_later seen other Step Whole Near Far P files before mid after (Refused refusal) le known make reach tells = both_told files known tells make
tells_later seen other Step Whole Near Far P files before mid after (BadJournal place) le known make reach tells = both_told files known tells make
tells_later seen other Step Whole Near Far P files before mid after DiskFault le known make reach tells = both_told files known tells make
tells_later seen other Step Whole Near Far P files before mid after (OpRefused cause) le known make reach tells = both_told files known tells make
tells_later seen other Step Whole Near Far P files before mid after (JournalFull count) le known make reach tells = both_told files known tells make

pub status_of_more : (P Q : List ℕ → Type 0) (status : Status) → ((name : List ℕ) → P name → Q name) → IsInputStatus P status → IsInputStatus Q status
status_of_more P Q Done more is = is
status_of_more P Q Usage more is = is
status_of_more P Q (Absent name) more is = more name is
status_of_more P Q (BadCell fault) more is = is
status_of_more P Q (BadScript session line code) more is = is
status_of_more P Q (ReadFault name) more is = more name is
status_of_more P Q WriteFault more is = is
status_of_more P Q (TooLarge name) more is = more name is
status_of_more P Q NoMemory more is = is
status_of_more P Q (BadOrder place) more is = is
status_of_more P Q (Stuck desk serial) more is = is
status_of_more P Q TooManyFindings more is = is
status_of_more P Q (BadUpdate fault) more is = is
status_of_more P Q (Refused refusal) more is = is
status_of_more P Q (BadJournal place) more is = is
status_of_more P Q DiskFault more is = is
status_of_more P Q (OpRefused cause) more is = is
status_of_more P Q (JournalFull count) more is = is

-- ---- what is told of failed reads
pub none_failed : (before after : ℕ) (status : Status) → after ≡ before → EndTellsReads before after status
none_failed before after (ReadFault name) same = tt
none_failed before after NoMemory same = tt
none_failed before after status same = same

pub none_read : {A : Type 0} (n : ℕ) (result : Result A Status) → TellsReads n n result
none_read n (Ok a) = refl
none_read n (Err status) = none_failed n n status refl

-- none failed, and then an answer told
pub told_behind : {A : Type 0} (before mid after : ℕ) (result : Result A Status) → mid ≡ before → TellsReads mid after result
    → TellsReads before after result
told_behind before mid after result same tells = subst (λ n. TellsReads n after result) same tells

-- ---- scripts one after the other
pub name_there : (names : List (String Global)) (k : ℕ) (name : String Global) → k < length names → name ≡ get_or names k name
    → slice_index_or (map string_bytes names) k [] ≡ string_bytes name
name_there names k name within is = get_or-map string_bytes names k name [] within ∙ ap string_bytes (sym is)

pub at_last : (scripts : List (List Command)) (script : List Command) → slice_index_or (scripts ++ (script ∷ [])) (length scripts) [] ≡ script
at_last [] script = refl
at_last (first ∷ scripts) script = at_last scripts script

pub at_earlier : (scripts : List (List Command)) (script : List Command) (k : ℕ) → k < length scripts
    → slice_index_or (scripts ++ (script ∷ [])) k [] ≡ slice_index_or scripts k []
at_earlier [] script k within = absurd (omega (arith, within))
at_earlier (first ∷ scripts) script zero within = refl
at_earlier (first ∷ scripts) script (suc k) within = at_earlier scripts script k (omega (arith, within))

pub scripts_more : (names : List (List ℕ)) (fs : Files) (scripts : List (List Command)) (name : List ℕ) (script : List Command)
    → slice_index_or names (length scripts) [] ≡ name
    → AreScripts names fs scripts → ScriptIs (length scripts + 1) name fs (Ok script) → AreScripts names fs (scripts ++ (script ∷ []))
scripts_more names fs scripts name script there good next = record { each = λ k within. by_place k within (cases_lt k (length scripts)) }
  where
    by_place : (k : ℕ) → k < length (scripts ++ (script ∷ [])) → (k < length scripts) ⊎ (length scripts ≤ k)
        → ScriptIs (k + 1) (slice_index_or names k []) fs (Ok (slice_index_or (scripts ++ (script ∷ [])) k []))
    by_place k within (inl below) = subst (λ s. ScriptIs (k + 1) (slice_index_or names k []) fs (Ok s)) (sym (at_earlier scripts script k below))
        (good.each k below)
    by_place k within (inr past) =
        let last : length scripts ≡ k = omega (arith, within, past, length-append scripts (script ∷ [])) in
        subst (λ n. ScriptIs (n + 1) (slice_index_or names n []) fs (Ok (slice_index_or (scripts ++ (script ∷ [])) n []))) last
        (subst (λ n. ScriptIs (length scripts + 1) n fs (Ok (slice_index_or (scripts ++ (script ∷ [])) (length scripts) []))) (sym there)
        (subst (λ s. ScriptIs (length scripts + 1) name fs (Ok s)) (sym (at_last scripts script)) next))

pub first_bad : (names : List (List ℕ)) (fs : Files) (scripts : List (List Command)) (name : List ℕ) (status : Status)
    → length scripts < length names → slice_index_or names (length scripts) [] ≡ name
    → AreScripts names fs scripts → ScriptIs (length scripts + 1) name fs (Err status) → ScriptsAre names fs (Err status)
first_bad names fs scripts name status within there good bad =
    record { before = scripts; within = within; good = good; bad = subst (λ n. ScriptIs (length scripts + 1) n fs (Err status)) (sym there) bad }

-- and one whose file a read failed
pub reached_script : (names : List (List ℕ)) (fs : Files) (scripts : List (List Command)) (name other : List ℕ) → length scripts < length names
    → slice_index_or names (length scripts) [] ≡ name
    → AreScripts names fs scripts → other ≡ name → IsReachedScript names fs other
reached_script names fs scripts name other within there good is = record { before = scripts; within = within; good = good; is = is ∙ sym there }

pub any_told : (files : Option Files) → IfSome files (λ fs. Unit {0})
any_told None = tt
any_told (Some fs) = tt

-- the status at which a first step ended, as that of the whole
pub tells_first : {A B C D : Type 0} (seen : A → B) (other : C → D) (Step : Files → Result B Status → Type 0)
    (Whole : Files → Result D Status → Type 0) (Near Far : Files → List ℕ → Type 0) (files : Option Files) (before after : ℕ) (status : Status)
    → ((fs : Files) → Step fs (Err status) → Whole fs (Err status)) → ((fs : Files) (name : List ℕ) → Near fs name → Far fs name)
    → Tells seen Step Near files before after (Err status) → Tells other Whole Far files before after (Err status)
tells_first seen other Step Whole Near Far files before after status make reach tells =
    tells_later seen other Step Whole Near Far (λ fs. Unit {0}) files before before after status (omega arith) (any_told files)
    (λ fs _ step. make fs step) (λ fs name _ near. reach fs name near) tells

-- what a last step answered, as the answer of the whole
pub tells_last : {A B : Type 0} (seen : A → B) (Step Whole : Files → Result B Status → Type 0) (Near Far : Files → List ℕ → Type 0)
    (P : Files → Type 0) (files : Option Files) (before mid after : ℕ) (result : Result A Status)
    → before ≤ mid → IfSome files P → ((fs : Files) (answer : Result B Status) → P fs → Step fs answer → Whole fs answer)
    → ((fs : Files) (name : List ℕ) → P fs → Near fs name → Far fs name)
    → Tells seen Step Near files mid after result → Tells seen Whole Far files before after result
tells_last seen Step Whole Near Far P files before mid after (Ok a) le known make reach tells =
    both_told files known tells (λ fs p step. make fs (Ok (seen a)) p step)
tells_last seen Step Whole Near Far P files before mid after (Err status) le known make reach tells =
    tells_later seen seen Step Whole Near Far P files before mid after status le known (λ fs p step. make fs (Err status) p step) reach tells

pub if_err_more : {A : Type 0} (P Q : List ℕ → Type 0) (result : Result A Status) → ((name : List ℕ) → P name → Q name)
    → IfErr result (IsInputStatus P) → IfErr result (IsInputStatus Q)
if_err_more P Q (Ok a) more is = is
if_err_more P Q (Err status) more is = status_of_more P Q status more is

pub if_ok_more : {A E : Type 0} (P Q : A → Type 0) (result : Result A E) → ((a : A) → P a → Q a) → IfOk result P → IfOk result Q
if_ok_more P Q (Ok a) more is = more a is
if_ok_more P Q (Err e) more is = tt

pub if_err_so : {A : Type 0} (P Q : Status → Type 0) (result : Result A Status) → ((status : Status) → P status → Q status) → IfErr result P → IfErr result Q
if_err_so P Q (Ok a) more is = tt
if_err_so P Q (Err status) more is = more status is
