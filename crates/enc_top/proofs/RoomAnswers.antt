-- What the steps of `room` answer, as answers of the whole.
use Rattle.std.proofs.Common.{◌≡◌, inl, inr, ℕ, ◌≤◌, List, length, Option, Ok, Err, Global, refl, ap, arith}
use Rattle.std.specs.Prelude.{IfSome, Vec}
use Rattle.enc_outside.specs.Files.{Files}
use Rattle.s57_types.specs.declared.cell.Cell.{Cell}
use Rattle.script_text.specs.declared.script.Script.{Script}
use Rattle.text_spec.specs.declared.command.Command.{Command}
use Rattle.room_run.specs.Rooms.{IsRunEnd}
use Rattle.room_run.specs.declared.run.RunEnd.TheVariants as end
use Rattle.enc_outside.specs.declared.meet.Stuck.{Stuck as Place}
use Rattle.report_text.specs.declared.status.Status.{Status}
use Rattle.report_text.specs.declared.status.Status.TheVariants.{Stuck}
use Rattle.call_files.specs.Inputs.{CellIs, IsAmong, IsFile, IsInputStatus, IsNotOfOrder, IsNotOfText, IsReachedScript}
use Rattle.enc_top.specs.Inputs.{IsInputOf, IsReached, IsRunInRoom}
use Rattle.enc_top.specs.Inputs.{OutputIs}
use Rattle.call_files.specs.Inputs.{ScriptsAre, Tells}
use Rattle.enc_top.specs.Outcome.{IsAskedBy}
use Rattle.call_files.specs.Task.{task_of}
use Rattle.enc_top.specs.Words.{room_form}
use Rattle.call_files.specs.declared.work.Work.{Work}
use Rattle.enc_top.proofs.Answered.{asked_status, fits_no_order, fits_no_text}
use Rattle.call_files.proofs.Answered.{both_told, status_of_more, tells_first, tells_later}

module _ (sticks : Type 0) (cell out : List ℕ) (names : List (List ℕ)) (files : Option Files) where
  -- the cell's file ends the call
  pub cell_ends : (before after : ℕ) (status : Status) → IsNotOfText status → IsInputStatus (λ n. n ≡ cell) status
      → Tells (λ (c : Cell). c) (CellIs cell) (IsFile cell) files before after (Err status)
      → IsAskedBy sticks (room_form cell out names) files before after (Err status)
  cell_ends before after status text is tells =
      asked_status sticks (room_form cell out names) files before after status tt (fits_no_text (room_form cell out names) status text)
      (status_of_more (λ n. n ≡ cell) (IsInputOf (room_form cell out names)) status (λ n same. inl same) is)
      (tells_first (λ (c : Cell). c) task_of (CellIs cell) (OutputIs (room_form cell out names)) (IsFile cell)
      (IsReached (room_form cell out names)) files before after status
      (λ fs bad. inr (status, bad, refl)) (λ fs n is. inl is) tells)

  module _ (start : Cell) (good : IfSome files (λ fs. CellIs cell fs (Ok start))) where
    -- a script ends the call
    pub scripts_end : (before mid after : ℕ) (status : Status) → before ≤ mid → IsNotOfOrder status → IsInputStatus (IsAmong names) status
        → Tells (λ (scripts : Vec Script Global). scripts.items) (ScriptsAre names) (λ fs n. IsReachedScript names fs n) files mid after (Err status)
        → IsAskedBy sticks (room_form cell out names) files before after (Err status)
    scripts_end before mid after status le kind is tells =
        asked_status sticks (room_form cell out names) files before after status tt (fits_no_order (room_form cell out names) status tt kind)
        (status_of_more (IsAmong names) (IsInputOf (room_form cell out names)) status (λ n other. inr other) is)
        (tells_later (λ (scripts : Vec Script Global). scripts.items) task_of (ScriptsAre names) (OutputIs (room_form cell out names))
        (λ fs n. IsReachedScript names fs n) (IsReached (room_form cell out names))
        (λ fs. CellIs cell fs (Ok start)) files before mid after status le good (λ fs at bad. inl (start, at, inr (status, bad, refl)))
        (λ fs n at near. inr (start, at, near)) tells)

    module _ (commands : List (List Command)) (are : IfSome files (λ fs. ScriptsAre names fs (Ok commands))) (before after : ℕ) where
      -- the run has a report
      pub run_asked : (work : Work) → IsRunInRoom start out commands (task_of work) → IsAskedBy sticks (room_form cell out names) files before after (Ok work)
      run_asked work run = (
        record { start = start; told = good; run = record { commands = commands; told = are; run = run } },
        both_told files good are (λ fs at those. inl (start, at, inl (commands, those, (run.sessions, run.order, ap Ok run.is)))),
      )

      -- a session was stuck
      pub stuck_asked : (place : Place) → length commands ≡ length names → IsRunEnd sticks commands (end.Stuck place)
          → IsAskedBy sticks (room_form cell out names) files before after (Err (Stuck place.desk place.serial))
      stuck_asked place many ends = (
        ends.0,
        (
          ends.1,
          (let high = ends.2 in omega (arith, many, high)),
          ends.3,
          both_told files good are (λ fs at those. record { start = start; cell_is = at; commands = commands; scripts_are = those; within = ends.4 }),
        ),
      )
