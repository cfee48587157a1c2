-- The report of sessions in threads.
use mathlib.Core.List.{IsPrefix}
use Rattle.std.proofs.Common.{◌≡◌, ℕ, ◌<◌, ◌^◌, List, [], ◌∷◌, ◌++◌, length, refl, sym, ap, subst}
use Rattle.s57_types.specs.declared.cell.Cell.{Cell}
use Rattle.text_spec.specs.OrderLine.{IsOrder, order_line}
use Rattle.text_spec.specs.declared.command.Command.{Command}
use Rattle.history_spec.specs.Entries.{AreInterleaved, order_of_entries}
use Rattle.history_spec.specs.EntriesReport.{AreTranscripts}
use Rattle.history_spec.specs.ReportText.{report}
use Rattle.export_laws.specs.ExportedCells.{IsReadBack}
use Rattle.room_laws.specs.Orders.{quotas_of}
use Rattle.run_laws.specs.Course.{IsCourse}
use Rattle.commit_book.specs.Books.{BookState}
use Rattle.room_run.specs.Rooms.{IsHeld}
use Rattle.sessions.specs.declared.run.Replayed.{Replayed}
use Rattle.enc_top.specs.Inputs.{IsRunInRoom}
use Rattle.call_files.specs.Task.{Task, task_of}
use Rattle.enc_top.specs.Task.{run_task}
use Rattle.call_files.specs.declared.work.Work.{Work}

first_part : (a b c d : List ℕ) → IsPrefix a (a ++ b ++ c ++ d)
first_part [] b c d = (b ++ c ++ d, refl)
first_part (x ∷ a) b c d = let rest = first_part a b c d in (rest.0, ap (λ xs. x ∷ xs) rest.1)

-- a report begins with the line of its order
report_begins : (c : Cell) (scripts : List (List Command)) (order : List ℕ) → IsPrefix (order_line order) (report c scripts order)
unfolding report
report_begins c scripts order = first_part (order_line order) _ _ _

abbrev BeginsOnce : Type 0
BeginsOnce = (quotas order other text : List ℕ) → length quotas < 2 ^ 32 → IsOrder quotas order → IsOrder quotas other
    → IsPrefix (order_line order) text → IsPrefix (order_line other) text → order ≡ other

pub run_in_room : (c : Cell) (out : List ℕ) (scripts : List (List Command)) (order : List ℕ) (task : Task) → BeginsOnce
    → length (quotas_of scripts) < 2 ^ 32 → IsOrder (quotas_of scripts) order
    → task ≡ run_task c out scripts order → IsCourse c scripts order → IsReadBack c scripts order → IsRunInRoom c out scripts task
run_in_room c out scripts order task once few o is course back =
    let begins = subst (λ (t : Task). IsPrefix (order_line order) t.text) (sym is) (report_begins c scripts order) in
    record {
      sessions = order;
      order = o;
      is = is;
      begins = begins;
      only = λ others p line. once (quotas_of scripts) others order task.text few p o line begins;
      course = course;
      read_back = back;
    }

-- work that is made of a log and of the lines of its sessions
abbrev pub IsMadeOf : Work → List ℕ → BookState → List (List ℕ) → Type 0
IsMadeOf work out book texts = (commands : List (List Command)) → AreInterleaved book.opening commands book.entries
    → AreTranscripts book.opening book.entries 1 commands texts → task_of work ≡ run_task book.opening out commands (order_of_entries book.entries)

-- the log and the lines of a run are those of the scripts, and the work is made of them
pub held_task : (bench : Cell) (out : List ℕ) (scripts : List (List Command)) (held : Replayed) (work : Work) → IsHeld bench scripts held
    → IsMadeOf work out held.book held.transcripts.items
    → task_of work ≡ run_task bench out scripts (order_of_entries held.book.entries)
held_task bench out scripts held work is made =
    subst (λ (c : Cell). task_of work ≡ run_task c out scripts (order_of_entries held.book.entries)) is.opening
    (made scripts (subst (λ (c : Cell). AreInterleaved c scripts held.book.entries) (sym is.opening) is.entries)
    (subst (λ (c : Cell). AreTranscripts c held.book.entries 1 scripts held.transcripts.items) (sym is.opening) is.lines))
