-- Good input files leave no refusal, and what is left in OUT is read back.
use mathlib.Core.List.{IsPrefix}
use Rattle.std.proofs.Common.{◌≡◌, ◌⊎◌, inl, inr, ℕ, ◌<◌, ◌≤◌, ◌^◌, Bool, true, false, List, [], ◌∷◌, length, Option, Some, None, Ok, Err, codes, cond, refl}
use Rattle.std.proofs.Common.{sym, subst, ℤ, arith}
use Rattle.std.specs.Prelude.{count_by}
use Rattle.std.proofs.lemmas.Bool.Decides.{nat_tests}
use Rattle.std.proofs.lemmas.List.{length-map}
use Rattle.cell_make.specs.GeneratedCell.{generated_cell}
use Rattle.enc_outside.specs.Files.{Files, Told}
use Rattle.file_spec.specs.EncodedCell.{encoded_cell}
use Rattle.history_spec.specs.ReportText.{final_cell}
use Rattle.history_spec.specs.Steps.{finding_limit}
use Rattle.rule_spec.specs.Findings.{finding_total}
use Rattle.text_spec.specs.OrderLine.{order_line}
use Rattle.text_spec.specs.ScriptLines.{is_shared}
use Rattle.text_spec.specs.declared.command.Command.{Command}
use Rattle.cell_spec.specs.Edits.{apply_edits}
use Rattle.s57_types.specs.declared.cell.Cell.{Cell}
use Rattle.enc_top.specs.declared.operation.Operation.{Operation}
use Rattle.enc_top.specs.Complete.{AreGood, IsComplete, IsGoodOperation, IsGoodUpdate}
use Rattle.enc_top.specs.Operations.{operated, operation_edits}
use Rattle.enc_top.specs.Updates.{left_by_update, updated}
use Rattle.room_laws.specs.Orders.{quotas_of}
use Rattle.call_files.specs.Inputs.{cell_limit}
use Rattle.enc_top.specs.Inputs.{OutputIs, RoomIs, drill_answer}
use Rattle.call_files.specs.Outside.{AreWritten, Outside}
use Rattle.enc_top.specs.Outcome.{IsCause, IsCauseOf, IsEdgeReadBack, IsEdgeWorkOf, IsExact, IsExpected, IsFormReadBack, IsMadeReadBack, IsMakeOf}
use Rattle.enc_top.specs.Outcome.{IsOutReadBack, IsReadBackFrom, IsReplayOf, IsRoomOf, IsRoomReadBack, IsUpdateReadBack, IsUpdateWorkOf}
use Rattle.whole_files.specs.Output.{Adds}
use Rattle.enc_top.specs.Output.{AddsFrom}
use Rattle.call_files.specs.Task.{Task}
use Rattle.enc_top.specs.Task.{check_task, drill_task, left_task, make_task, probe_task, run_task}
use Rattle.enc_top.specs.Words.{Form, apply_among, apply_form, check_among, check_form, coordinate_of, drill_among, drill_form, drill_of, edge_among}
use Rattle.enc_top.specs.Words.{edge_form, edge_of, form_of, is_between, join_in, make_among, make_form, make_of, no_form, number_up_to, probe_among}
use Rattle.enc_top.specs.Words.{probe_form, probe_of, replay_among, replay_form, room_among, room_form, split_in}
use Rattle.call_files.specs.Words.{is_word}
use Rattle.report_text.specs.declared.status.Status.{Status}
use Rattle.report_text.specs.declared.status.Status.TheVariants.{Done, Usage, Absent, BadCell, BadScript, ReadFault, WriteFault, TooLarge, NoMemory}
use Rattle.report_text.specs.declared.status.Status.TheVariants.{BadOrder, Stuck, TooManyFindings, BadUpdate, Refused, BadJournal, DiskFault, OpRefused}
use Rattle.report_text.specs.declared.status.Status.TheVariants.{JournalFull}
use Rattle.enc_top.proofs.OneAnswer.{apart, one_output}
use Rattle.call_files.proofs.OneAnswer.{ok_not_err, one_cell, one_scripts}
use Rattle.call_files.proofs.GoodFiles.{cell_is, content_is, not_above, order_is, scripts_are}

-- ---- the words name few scripts
abbrev FewScripts : Form → Type 0
FewScripts (replay_form cell out order scripts) = length scripts ≤ 16
FewScripts other = Unit {0}

few_by : (b : Bool) (x y : Form) → FewScripts x → FewScripts y → FewScripts (cond b x y)
few_by true x y p q = p
few_by false x y p q = q

few_checked : (others : List (List ℕ)) → FewScripts (check_among others)
few_checked [] = tt
few_checked (a ∷ []) = tt
few_checked (a ∷ b ∷ rest) = tt

few_between : (b : Bool) (cell out order : List ℕ) (scripts : List (List ℕ)) → is_between 1 16 (length scripts) ≡ b
    → FewScripts (cond b (replay_form cell out order scripts) no_form)
few_between true cell out order scripts is = grind (arith, nat_tests)
few_between false cell out order scripts is = tt

few_replayed : (others : List (List ℕ)) → FewScripts (replay_among others)
few_replayed [] = tt
few_replayed (a ∷ []) = tt
few_replayed (a ∷ b ∷ []) = tt
few_replayed (a ∷ b ∷ d ∷ rest) = few_between (is_between 1 16 (length rest)) a b d rest refl

few_by_count : (b : Bool) (cell out : List ℕ) (scripts : List (List ℕ)) → FewScripts (cond b (room_form cell out scripts) no_form)
few_by_count true cell out scripts = tt
few_by_count false cell out scripts = tt

few_roomed : (others : List (List ℕ)) → FewScripts (room_among others)
few_roomed [] = tt
few_roomed (a ∷ []) = tt
few_roomed (a ∷ b ∷ rest) = few_by_count (is_between 1 16 (length rest)) a b rest

few_made_of : (out : List ℕ) (n : Option ℕ) → FewScripts (make_of out n)
few_made_of out None = tt
few_made_of out (Some n) = tt

few_made : (others : List (List ℕ)) → FewScripts (make_among others)
few_made [] = tt
few_made (a ∷ []) = tt
few_made (a ∷ b ∷ []) = few_made_of b (number_up_to 100 a)
few_made (a ∷ b ∷ d ∷ rest) = tt

few_drilled_of : (n sessions : Option ℕ) → FewScripts (drill_of n sessions)
few_drilled_of None sessions = tt
few_drilled_of (Some n) None = tt
few_drilled_of (Some n) (Some sessions) = tt

few_drilled : (others : List (List ℕ)) → FewScripts (drill_among others)
few_drilled [] = tt
few_drilled (a ∷ []) = tt
few_drilled (a ∷ b ∷ []) = few_drilled_of (number_up_to 100 a) (number_up_to 16 b)
few_drilled (a ∷ b ∷ d ∷ rest) = tt

few_edge_of : (cell out : List ℕ) (operation : Option Operation) → FewScripts (edge_of cell out operation)
few_edge_of cell out None = tt
few_edge_of cell out (Some operation) = tt

few_edge : (reading : List (List ℕ) → Option Operation) (others : List (List ℕ)) → FewScripts (edge_among reading others)
few_edge reading [] = tt
few_edge reading (a ∷ []) = tt
few_edge reading (a ∷ b ∷ rest) = few_edge_of a b (reading rest)

few_probed_of : (cell : List ℕ) (y x : Option ℤ) → FewScripts (probe_of cell y x)
few_probed_of cell None x = tt
few_probed_of cell (Some y) None = tt
few_probed_of cell (Some y) (Some x) = tt

few_probed : (others : List (List ℕ)) → FewScripts (probe_among others)
few_probed [] = tt
few_probed (a ∷ []) = tt
few_probed (a ∷ b ∷ []) = tt
few_probed (a ∷ b ∷ d ∷ []) = few_probed_of a (coordinate_of b) (coordinate_of d)
few_probed (a ∷ b ∷ d ∷ e ∷ rest) = tt

few_applied : (others : List (List ℕ)) → FewScripts (apply_among others)
few_applied [] = tt
few_applied (a ∷ []) = tt
few_applied (a ∷ b ∷ []) = tt
few_applied (a ∷ b ∷ d ∷ []) = tt
few_applied (a ∷ b ∷ d ∷ e ∷ rest) = tt

few_scripts : (words : List (List ℕ)) → FewScripts (form_of words)
unfolding form_of
few_scripts [] = tt
few_scripts (first ∷ others) =
    let applied = cond (is_word (codes "apply") first) (apply_among others) no_form in
    let probed = cond (is_word (codes "probe") first) (probe_among others) applied in
    let joined = cond (is_word (codes "join") first) (edge_among join_in others) probed in
    let split = cond (is_word (codes "split") first) (edge_among split_in others) joined in
    let drilled = cond (is_word (codes "drill") first) (drill_among others) split in
    let made = cond (is_word (codes "make") first) (make_among others) drilled in
    let replayed = cond (is_word (codes "replay") first) (replay_among others) made in
    let checked = cond (is_word (codes "check") first) (check_among others) replayed in
    few_by (is_word (codes "room") first) (room_among others) checked (few_roomed others)
    (few_by (is_word (codes "check") first) (check_among others) replayed (few_checked others)
    (few_by (is_word (codes "replay") first) (replay_among others) made (few_replayed others)
    (few_by (is_word (codes "make") first) (make_among others) drilled (few_made others)
    (few_by (is_word (codes "drill") first) (drill_among others) split (few_drilled others)
    (few_by (is_word (codes "split") first) (edge_among split_in others) joined (few_edge split_in others)
    (few_by (is_word (codes "join") first) (edge_among join_in others) probed (few_edge join_in others)
    (few_by (is_word (codes "probe") first) (probe_among others) applied (few_probed others)
    (few_by (is_word (codes "apply") first) (apply_among others) no_form (few_applied others) tt))))))))

-- ---- good files ask for a task
few_quotas : (names : List (List ℕ)) (commands : List (List Command)) → length names ≤ 16 → length commands ≡ length names
    → length (quotas_of commands) < 2 ^ 32
few_quotas names commands few many = let same : length (quotas_of commands) ≡ length commands = length-map commands (count_by is_shared) in
    omega (arith, few, many, same)

-- good files of a form that asks for one task
abbrev IsSteady : Form → Files → Type 0
IsSteady (check_form cell) files = AreGood (check_form cell) files
IsSteady (replay_form cell out order scripts) files = AreGood (replay_form cell out order scripts) files
IsSteady (room_form cell out scripts) files = ⊥
IsSteady (make_form n out) files = AreGood (make_form n out) files
IsSteady (drill_form n sessions) files = AreGood (drill_form n sessions) files
IsSteady (edge_form cell out operation) files = AreGood (edge_form cell out operation) files
IsSteady (probe_form cell at) files = AreGood (probe_form cell at) files
IsSteady (apply_form cell out update) files = AreGood (apply_form cell out update) files
IsSteady no_form files = ⊥

pub drilled : (n sessions : ℕ) → finding_total (generated_cell n) ≤ finding_limit → drill_answer n sessions ≡ Ok (drill_task n sessions)
drilled n sessions few = rw (not_above finding_limit (finding_total (generated_cell n)) few) refl

good_operated : (c : Cell) (operation : Operation) → IsGoodOperation c operation → operated c operation ≡ Ok (apply_edits (operation_edits c operation) c)
good_operated c operation good = rw good.possible (rw good.taken refl)

good_updated : (c : Cell) (name : List ℕ) (files : Files) (good : IsGoodUpdate c name files) → updated c good.bytes ≡ Ok good.left
good_updated c name files good = λ i. left_by_update (good.taken i) (good.faultless i)

good_output : (form : Form) (files : Files) → FewScripts form → IsSteady form files → (task : Task) × OutputIs form files (Ok task)
good_output (check_form cell) files few good = (check_task good.start, inl (good.start, cell_is cell files good, refl))
good_output (replay_form cell out order scripts) files few good =
    let commands = good.1.0 in
    let are = good.1.1 in
    let sessions = good.1.2.sessions in (
      run_task good.0.start out commands sessions,
      inl (
        good.0.start,
        cell_is cell files good.0,
        inl (
          commands,
          scripts_are scripts files commands are,
          inl (sessions, order_is (quotas_of commands) order files good.1.2 (few_quotas scripts commands few are.many), refl),
        ),
      ),
    )
good_output (room_form cell out scripts) files few good = absurd good
good_output (make_form n out) files few good = (make_task n out, refl)
good_output (drill_form n sessions) files few good = (drill_task n sessions, sym (drilled n sessions good))
good_output (edge_form cell out operation) files few good =
    let c = good.0.start in
    let left = apply_edits (operation_edits c operation) c in
    (left_task left out, inl (c, cell_is cell files good.0, inl (left, good_operated c operation good.1, refl)))
good_output (probe_form cell at) files few good = (probe_task good.start at, inl (good.start, cell_is cell files good, refl))
good_output (apply_form cell out update) files few good =
    let c = good.0.start in
    let bytes = good.1.bytes in
    let left = good.1.left in (
      left_task left out,
      inl (
        c,
        cell_is cell files good.0,
        inl (bytes, content_is cell_limit update bytes files good.1.file, inl (left, good_updated c update files good.1, refl)),
      ),
    )
good_output no_form files few good = absurd good

-- a status that is asked for beside a task is Done
done_of : (form : Form) (files : Files) (task : Task) (status : Status) → OutputIs form files (Ok task) → IsExpected form files status → status ≡ Done
done_of form files task Done good is = refl
done_of form files task Usage good is = absurd (apart form task Usage (one_output form files (Ok task) (Err Usage) good is))
done_of form files task (Absent name) good is = absurd (apart form task (Absent name) (one_output form files (Ok task) (Err (Absent name)) good is))
done_of form files task (BadCell fault) good is = absurd (apart form task (BadCell fault) (one_output form files (Ok task) (Err (BadCell fault)) good is))
done_of form files task (BadScript session line code) good is =
    absurd (apart form task (BadScript session line code) (one_output form files (Ok task) (Err (BadScript session line code)) good is))
done_of form files task (ReadFault name) good is = absurd (apart form task (ReadFault name) (one_output form files (Ok task) (Err (ReadFault name)) good is))
done_of form files task WriteFault good is = absurd (apart form task WriteFault (one_output form files (Ok task) (Err WriteFault) good is))
done_of form files task (TooLarge name) good is = absurd (apart form task (TooLarge name) (one_output form files (Ok task) (Err (TooLarge name)) good is))
done_of form files task NoMemory good is = absurd (apart form task NoMemory (one_output form files (Ok task) (Err NoMemory) good is))
done_of form files task (BadOrder place) good is = absurd (apart form task (BadOrder place) (one_output form files (Ok task) (Err (BadOrder place)) good is))
done_of form files task (Stuck desk serial) good is = absurd
    (apart form task (Stuck desk serial) (one_output form files (Ok task) (Err (Stuck desk serial)) good is))
done_of form files task TooManyFindings good is = absurd (apart form task TooManyFindings (one_output form files (Ok task) (Err TooManyFindings) good is))
done_of form files task (BadUpdate fault) good is = absurd (apart form task (BadUpdate fault) (one_output form files (Ok task) (Err (BadUpdate fault)) good is))
done_of form files task (Refused refusal) good is = absurd (apart form task (Refused refusal) (one_output form files (Ok task) (Err (Refused refusal)) good is))
done_of form files task (BadJournal place) good is = absurd (apart form task (BadJournal place)
    (one_output form files (Ok task) (Err (BadJournal place)) good is))
done_of form files task DiskFault good is = absurd (apart form task DiskFault (one_output form files (Ok task) (Err DiskFault) good is))
done_of form files task (OpRefused cause) good is = absurd (apart form task (OpRefused cause) (one_output form files (Ok task) (Err (OpRefused cause)) good is))
done_of form files task (JournalFull count) good is = absurd (apart form task (JournalFull count)
    (one_output form files (Ok task) (Err (JournalFull count)) good is))

-- good files of sessions in threads leave no refusal
no_bad_room : (cell out : List ℕ) (scripts : List (List ℕ)) (files : Files) (status : Status) → AreGood (room_form cell out scripts) files
    → OutputIs (room_form cell out scripts) files (Err status) → ⊥
no_bad_room cell out scripts files status good (inr p) = ok_not_err good.0.start p.0
    (one_cell cell files (Ok good.0.start) (Err p.0) (cell_is cell files good.0) p.1)
no_bad_room cell out scripts files status good (inl p) = by p.2
  where
    by : RoomIs p.0 out scripts files (Err status) → ⊥
    by (inr q) = ok_not_err good.1.0 q.0 (one_scripts scripts files (Ok good.1.0) (Err q.0) (scripts_are scripts files good.1.0 good.1.1) q.1)
    by (inl q) = ok_not_err _ status (sym q.2.2)

room_done : (cell out : List ℕ) (scripts : List (List ℕ)) (files : Files) (status : Status) → AreGood (room_form cell out scripts) files
    → IsExpected (room_form cell out scripts) files status → status ≡ Done
room_done cell out scripts files Done good is = refl
room_done cell out scripts files Usage good is = absurd (no_bad_room cell out scripts files Usage good is)
room_done cell out scripts files (Absent name) good is = absurd (no_bad_room cell out scripts files (Absent name) good is)
room_done cell out scripts files (BadCell fault) good is = absurd (no_bad_room cell out scripts files (BadCell fault) good is)
room_done cell out scripts files (BadScript session line code) good is = absurd (no_bad_room cell out scripts files (BadScript session line code) good is)
room_done cell out scripts files (ReadFault name) good is = absurd (no_bad_room cell out scripts files (ReadFault name) good is)
room_done cell out scripts files WriteFault good is = absurd (no_bad_room cell out scripts files WriteFault good is)
room_done cell out scripts files (TooLarge name) good is = absurd (no_bad_room cell out scripts files (TooLarge name) good is)
room_done cell out scripts files NoMemory good is = absurd (no_bad_room cell out scripts files NoMemory good is)
room_done cell out scripts files (BadOrder place) good is = absurd (no_bad_room cell out scripts files (BadOrder place) good is)
room_done cell out scripts files (Stuck desk serial) good is = absurd (no_bad_room cell out scripts files (Stuck desk serial) good is)
room_done cell out scripts files TooManyFindings good is = absurd (no_bad_room cell out scripts files TooManyFindings good is)
room_done cell out scripts files (BadUpdate fault) good is = absurd (no_bad_room cell out scripts files (BadUpdate fault) good is)
room_done cell out scripts files (Refused refusal) good is = absurd (no_bad_room cell out scripts files (Refused refusal) good is)
room_done cell out scripts files (BadJournal place) good is = absurd (no_bad_room cell out scripts files (BadJournal place) good is)
room_done cell out scripts files DiskFault good is = absurd (no_bad_room cell out scripts files DiskFault good is)
room_done cell out scripts files (OpRefused cause) good is = absurd (no_bad_room cell out scripts files (OpRefused cause) good is)
room_done cell out scripts files (JournalFull count) good is = absurd (no_bad_room cell out scripts files (JournalFull count) good is)

good_done : (form : Form) (files : Files) (status : Status) → FewScripts form → IsSteady form files → IsExpected form files status → status ≡ Done
good_done form files status few good is = let output = good_output form files few good in done_of form files output.0 status output.1 is

expected_done : (form : Form) (files : Files) (status : Status) → FewScripts form → AreGood form files → IsExpected form files status
    ⊎ (status ≡ NoMemory) → (status ≡ Done) ⊎ (status ≡ NoMemory)
expected_done form files status few good (inr none) = inr none
expected_done (check_form cell) files status few good (inl is) = inl (good_done (check_form cell) files status few good is)
expected_done (replay_form cell out order scripts) files status few good (inl is) =
    inl (good_done (replay_form cell out order scripts) files status few good is)
expected_done (room_form cell out scripts) files status few good (inl is) = inl (room_done cell out scripts files status good is)
expected_done (make_form n out) files status few good (inl is) = inl (good_done (make_form n out) files status few good is)
expected_done (drill_form n sessions) files status few good (inl is) = inl (good_done (drill_form n sessions) files status few good is)
expected_done (edge_form cell out operation) files status few good (inl is) =
    inl (good_done (edge_form cell out operation) files status few good is)
expected_done (probe_form cell at) files status few good (inl is) = inl (good_done (probe_form cell at) files status few good is)
expected_done (apply_form cell out update) files status few good (inl is) =
    inl (good_done (apply_form cell out update) files status few good is)
expected_done no_form files status few good (inl is) = absurd good

pub complete_from_exact : (sticks : Type 0) (words : List (List ℕ)) (before after : Outside) (status : Status)
    → IsExact sticks words before after status → IsComplete sticks words before after status
complete_from_exact sticks words before after status exact =
    λ files smooth calm good. expected_done (form_of words) files status (few_scripts words) good (exact files smooth calm)

-- ---- what is left in OUT
out_read_back : (cell out order : List ℕ) (scripts : List (List ℕ)) (task : Task) (a b : Option Files) → IsReplayOf cell out order scripts a task
    → AreWritten task.file a b → Told (IsOutReadBack cell out order scripts) a b
out_read_back cell out order scripts task None b run written = tt
out_read_back cell out order scripts task (Some fs) None run written = tt
out_read_back cell out order scripts task (Some fs) (Some gs) run written = record {
  start = run.start;
  cell_is = run.told;
  commands = run.run.commands;
  scripts_are = run.run.told;
  sessions = run.run.run.sessions;
  order_is = run.run.run.told;
  bytes = encoded_cell (final_cell run.start run.run.commands run.run.run.sessions);
  there = (subst (λ (t : Task). AreWritten t.file (Some fs) (Some gs)) run.run.run.is written).written;
  decoded = run.run.run.read_back;
}

-- a text that was put begins as it does
put_from : (front text : List ℕ) (a b : Option (List ℕ)) → IsPrefix front text → Told (Adds text) a b → Told (AddsFrom front) a b
put_from front text None b begins put = tt
put_from front text (Some old) None begins put = tt
put_from front text (Some old) (Some new) begins put = (text, put, begins)

room_read_back : (cell out : List ℕ) (scripts : List (List ℕ)) (task : Task) (before after : Outside) (a b : Option Files) → IsRoomOf cell out scripts a task
    → Told (Adds task.text) before.written after.written → AreWritten task.file a b → Told (IsRoomReadBack cell out scripts before after) a b
room_read_back cell out scripts task before after None b run put written = tt
room_read_back cell out scripts task before after (Some fs) None run put written = tt
room_read_back cell out scripts task before after (Some fs) (Some gs) run put written =
    let ran = run.run.run in
    record {
      start = run.start;
      cell_is = run.told;
      commands = run.run.commands;
      scripts_are = run.run.told;
      sessions = ran.sessions;
      order = ran.order;
      line = put_from (order_line ran.sessions) task.text before.written after.written ran.begins put;
      bytes = encoded_cell (final_cell run.start run.run.commands ran.sessions);
      there = (subst (λ (t : Task). AreWritten t.file (Some fs) (Some gs)) ran.is written).written;
      decoded = ran.read_back;
    }

made_read_back : (n : ℕ) (out : List ℕ) (task : Task) (a b : Option Files) → IsMakeOf n out task → AreWritten task.file a b
    → Told (λ old new. IsMadeReadBack n out new) a b
made_read_back n out task None b made written = tt
made_read_back n out task (Some fs) None made written = tt
made_read_back n out task (Some fs) (Some gs) made written =
    let wrote = subst (λ (t : Task). AreWritten t.file (Some fs) (Some gs)) made.is written in
    record { bytes = encoded_cell (generated_cell n); there = wrote.written; decoded = made.read_back }

edge_read_back : (cell out : List ℕ) (operation : Operation) (task : Task) (a b : Option Files) → IsEdgeWorkOf cell out operation a task
    → AreWritten task.file a b → Told (IsEdgeReadBack cell out operation) a b
edge_read_back cell out operation task None b work written = tt
edge_read_back cell out operation task (Some fs) None work written = tt
edge_read_back cell out operation task (Some fs) (Some gs) work written = record {
  start = work.start;
  cell_is = work.told;
  left = work.left;
  is_left = work.left_by.is_left;
  kept = work.left_by.kept;
  bytes = encoded_cell work.left;
  there = (subst (λ (t : Task). AreWritten t.file (Some fs) (Some gs)) work.is written).written;
  decoded = work.left_by.read_back;
}

update_read_back : (cell out update : List ℕ) (task : Task) (a b : Option Files) → IsUpdateWorkOf cell out update a task → AreWritten task.file a b
    → Told (IsUpdateReadBack cell out update) a b
update_read_back cell out update task None b work written = tt
update_read_back cell out update task (Some fs) None work written = tt
update_read_back cell out update task (Some fs) (Some gs) work written =
    let wrote = subst (λ (t : Task). AreWritten t.file (Some fs) (Some gs)) work.is written in
    record {
      start = work.start;
      cell_is = work.told;
      given = work.bytes;
      update_is = work.given;
      left = work.left;
      is_left = work.left_by.cell_is;
      bytes = encoded_cell work.left;
      there = wrote.written;
      decoded = work.left_by.read_back;
    }

nothing_left : (a b : Option Files) → Told (λ old new. Unit {0}) a b
nothing_left None b = tt
nothing_left (Some fs) None = tt
nothing_left (Some fs) (Some gs) = tt

form_read_back : (sticks : Type 0) (form : Form) (before after : Outside) → IsCauseOf sticks form before after Done
    → Told (IsFormReadBack form before after) before.files after.files
form_read_back sticks (check_form cell) before after cause = nothing_left before.files after.files
form_read_back sticks (replay_form cell out order scripts) before after cause =
    out_read_back cell out order scripts cause.0 before.files after.files cause.1 cause.3.files
form_read_back sticks (room_form cell out scripts) before after cause =
    room_read_back cell out scripts cause.0 before after before.files after.files cause.1 cause.3.written cause.3.files
form_read_back sticks (make_form n out) before after cause = made_read_back n out cause.0 before.files after.files cause.1 cause.3.files
form_read_back sticks (drill_form n sessions) before after cause = nothing_left before.files after.files
form_read_back sticks (edge_form cell out operation) before after cause =
    edge_read_back cell out operation cause.0 before.files after.files cause.1 cause.3.files
form_read_back sticks (probe_form cell at) before after cause = nothing_left before.files after.files
form_read_back sticks (apply_form cell out update) before after cause =
    update_read_back cell out update cause.0 before.files after.files cause.1 cause.3.files
form_read_back sticks no_form before after cause = nothing_left before.files after.files

pub read_back_from_cause : (sticks : Type 0) (words : List (List ℕ)) (before after : Outside) (status : Status)
    → IsCause sticks words before after status → IsReadBackFrom words before after status
read_back_from_cause sticks words before after status cause =
    λ done. form_read_back sticks (form_of words) before after (subst (IsCauseOf sticks (form_of words) before after) done cause)
