-- What is told of the disk's failed calls.
use Rattle.std.proofs.Common.{◌≡◌, ℕ, List, Result, Ok, Err, sym, subst, ◌∙◌}
use Rattle.book_journal.specs.Opening.{CountsFaults}
use Rattle.book_journal.specs.declared.refusal.KeepRefusal.{KeepRefusal}
use Rattle.book_journal.specs.declared.refusal.KeepRefusal.TheVariants as keep_refusal
use Rattle.book_journal.specs.declared.refusal.OpenRefusal.{OpenRefusal}
use Rattle.book_journal.specs.declared.refusal.OpenRefusal.TheVariants as open_refusal
use Rattle.report_text.specs.declared.status.Status.{Status}
use Rattle.report_text.specs.declared.status.Status.TheVariants.{DiskFault}
use Rattle.call_files.specs.declared.work.Work.{Work}
use Rattle.keep_run.specs.Causes.{EndTellsDisk, IsWorkOf, TellsDisk}
use Rattle.keep_run.specs.Keeps.{status_of, stop_status}
use Rattle.keep_run.specs.Stops.{IsStop}
use Rattle.keep_run.specs.declared.report.Kept.{Kept}

pub no_disk_fault : (faults faults_now : ℕ) (status : Status) → faults_now ≡ faults → EndTellsDisk faults faults_now status
no_disk_fault faults faults_now DiskFault same = tt
no_disk_fault faults faults_now status same = same

-- a journal that isn't opened
pub open_told : (faults now : ℕ) (why : OpenRefusal) → CountsFaults faults now why → EndTellsDisk faults now (status_of why)
open_told faults now open_refusal.DiskFault counted = tt
open_told faults now (open_refusal.BadJournal place) counted = counted
open_told faults now (open_refusal.JournalFull count) counted = counted
open_told faults now open_refusal.FindingsFull counted = counted
open_told faults now open_refusal.NoMemory counted = counted

-- a session that doesn't go on, over a journal that was opened without a fault
pub stop_told : (faults mid now : ℕ) (why : KeepRefusal) → mid ≡ faults → IsStop mid now why → EndTellsDisk faults now (stop_status why)
stop_told faults mid now keep_refusal.DiskFault same stop = tt
stop_told faults mid now keep_refusal.NoMemory same stop = stop ∙ same
stop_told faults mid now keep_refusal.Broken same stop = absurd stop
stop_told faults mid now (keep_refusal.EntryTooLong bytes) same stop = absurd stop
stop_told faults mid now keep_refusal.LogFull same stop = absurd stop

-- what is left of a session to put and to write
pub work_told : (faults now : ℕ) (out : List ℕ) (kept : Result Kept Status) (work : Result Work Status) → TellsDisk faults now kept → IsWorkOf out kept work
    → TellsDisk faults now work
work_told faults now out (Ok kept) (Ok work) told is = told
work_told faults now out (Ok kept) (Err status) told is = no_disk_fault faults now status told
work_told faults now out (Err why) (Ok work) told is = absurd is
work_told faults now out (Err why) (Err status) told is = subst (EndTellsDisk faults now) (sym is) told
