-- What the answers of steps tell of the steps that they are part of.
use Rattle.std.proofs.Common.{ℕ, List, Option, Result, Ok, Err}
use Rattle.std.specs.Prelude.{IfErr, IfOk, IfSome}
use Rattle.enc_outside.specs.Files.{Files}
use Rattle.call_files.specs.Inputs.{IsInputStatus, IsNotOfOrder, IsNotOfText}
use Rattle.enc_top.specs.Inputs.{IsInputOf, IsReached, OutputIs}
use Rattle.call_files.specs.Inputs.{Tells}
use Rattle.enc_top.specs.Outcome.{Asks, HasOrder, HasScripts, IsAskedBy, IsBuilt, IsBuiltFor, IsOutput}
use Rattle.call_files.specs.Task.{Task, task_of}
use Rattle.enc_top.specs.Words.{Form, apply_form, check_form, drill_form, edge_form, make_form, no_form, probe_form, replay_form, room_form}
use Rattle.call_files.specs.declared.work.Work.{Work}
use Rattle.report_text.specs.declared.status.Status.{Status}
use Rattle.report_text.specs.declared.status.Status.TheVariants.{Done, Usage, Absent, BadCell, BadScript, ReadFault, WriteFault, TooLarge, NoMemory}
use Rattle.report_text.specs.declared.status.Status.TheVariants.{BadOrder, Stuck, TooManyFindings, BadUpdate, Refused, BadJournal, DiskFault, OpRefused}
use Rattle.report_text.specs.declared.status.Status.TheVariants.{JournalFull}

-- ---- forms that have input files
abbrev pub HasInput : Form → Type 0
HasInput (make_form n out) = ⊥
HasInput (drill_form n sessions) = ⊥
HasInput no_form = ⊥
HasInput form = Unit {0}

built_of_input : (form : Form) → HasInput form → IsBuilt form
built_of_input (check_form cell) has = tt
built_of_input (replay_form cell out order scripts) has = tt
built_of_input (room_form cell out scripts) has = tt
built_of_input (make_form n out) has = tt
built_of_input (drill_form n sessions) has = tt
built_of_input (edge_form cell out operation) has = tt
built_of_input (probe_form cell at) has = tt
built_of_input (apply_form cell out update) has = tt
built_of_input no_form has = has

built_for_input : (form : Form) (before after : ℕ) → HasInput form → IsBuiltFor form before after
built_for_input (check_form cell) before after has = tt
built_for_input (replay_form cell out order scripts) before after has = tt
built_for_input (room_form cell out scripts) before after has = tt
built_for_input (make_form n out) before after has = absurd has
built_for_input (drill_form n sessions) before after has = absurd has
built_for_input (edge_form cell out operation) before after has = tt
built_for_input (probe_form cell at) before after has = tt
built_for_input (apply_form cell out update) before after has = tt
built_for_input no_form before after has = absurd has

asks_of_told : (form : Form) (files : Option Files) (before after : ℕ) (answer : Result Task Status) → HasInput form
    → IfSome files (λ fs. OutputIs form fs answer) → Asks form files before after answer
asks_of_told (check_form cell) files before after answer has told = told
asks_of_told (replay_form cell out order scripts) files before after answer has told = told
asks_of_told (room_form cell out scripts) files before after answer has told = told
asks_of_told (make_form n out) files before after answer has told = absurd has
asks_of_told (drill_form n sessions) files before after answer has told = absurd has
asks_of_told (edge_form cell out operation) files before after answer has told = told
asks_of_told (probe_form cell at) files before after answer has told = told
asks_of_told (apply_form cell out update) files before after answer has told = told
asks_of_told no_form files before after answer has told = absurd has

-- ---- statuses of a script or an order come where the words name one
abbrev pub Fits : Form → Status → Type 0
Fits form (BadScript session line code) = HasScripts form
Fits form (BadOrder place) = HasOrder form
Fits form other = Unit {0}

pub fits_no_text : (form : Form) (status : Status) → IsNotOfText status → Fits form status
fits_no_text form (BadScript session line code) is = absurd is
fits_no_text form (BadOrder place) is = absurd is
fits_no_text form other is = tt

pub fits_no_order : (form : Form) (status : Status) → HasScripts form → IsNotOfOrder status → Fits form status
fits_no_order form (BadScript session line code) has is = has
fits_no_order form (BadOrder place) has is = absurd is
fits_no_order form other has is = tt

pub fits_replay : (cell out order : List ℕ) (scripts : List (List ℕ)) (status : Status) → Fits (replay_form cell out order scripts) status
fits_replay cell out order scripts (BadScript session line code) = tt
fits_replay cell out order scripts (BadOrder place) = tt
fits_replay cell out order scripts other = tt

-- the status at which the input files of a form end a call
pub asked_status : (sticks : Type 0) (form : Form) (files : Option Files) (before after : ℕ) (status : Status) → HasInput form
    → Fits form status → IsInputStatus (IsInputOf form) status
    → Tells task_of (OutputIs form) (IsReached form) files before after (Err status) → IsAskedBy sticks form files before after (Err status)
asked_status sticks form files before after Done has fits is tells = absurd is
asked_status sticks form files before after Usage has fits is tells = absurd is
asked_status sticks form files before after (Absent name) has fits is tells =
    (is, built_of_input form has, asks_of_told form files before after (Err (Absent name)) has tells)
asked_status sticks form files before after (BadCell fault) has fits is tells =
    (built_of_input form has, asks_of_told form files before after (Err (BadCell fault)) has tells)
asked_status sticks form files before after (BadScript session line code) has fits is tells =
    (fits, built_of_input form has, asks_of_told form files before after (Err (BadScript session line code)) has tells)
asked_status sticks form files before after (ReadFault name) has fits is tells = (is, tells.0, tells.1)
asked_status sticks form files before after WriteFault has fits is tells = absurd is
asked_status sticks form files before after (TooLarge name) has fits is tells =
    (is, built_of_input form has, asks_of_told form files before after (Err (TooLarge name)) has tells)
asked_status sticks form files before after NoMemory has fits is tells = built_for_input form before after has
asked_status sticks form files before after (BadOrder place) has fits is tells =
    (fits, built_of_input form has, asks_of_told form files before after (Err (BadOrder place)) has tells)
asked_status sticks form files before after (Stuck desk serial) has fits is tells = absurd is
asked_status sticks form files before after TooManyFindings has fits is tells =
    (built_of_input form has, asks_of_told form files before after (Err TooManyFindings) has tells)
asked_status sticks form files before after (BadUpdate fault) has fits is tells = absurd is
asked_status sticks form files before after (Refused refusal) has fits is tells = absurd is
asked_status sticks form files before after (BadJournal place) has fits is tells = absurd is
asked_status sticks form files before after DiskFault has fits is tells = absurd is
asked_status sticks form files before after (OpRefused cause) has fits is tells = absurd is
asked_status sticks form files before after (JournalFull count) has fits is tells = absurd is

-- an answer of a form that has input files
pub asked_answer : (sticks : Type 0) (form : Form) (files : Option Files) (before after : ℕ) (result : Result Work Status)
    → HasInput form → ((status : Status) → Fits form status) → IfOk result (λ work. IsOutput form files (task_of work))
    → IfErr result (IsInputStatus (IsInputOf form))
    → Tells task_of (OutputIs form) (IsReached form) files before after result → IsAskedBy sticks form files before after result
asked_answer sticks form files before after (Ok work) has fits output is tells = (output, asks_of_told form files before after (Ok (task_of work)) has tells)
asked_answer sticks form files before after (Err status) has fits output is tells = asked_status sticks form files before after status has (fits status) is
    tells
