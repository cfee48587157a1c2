use Rattle.std.proofs.Common.{subst, sym}
use Rattle.std.specs.Prelude.{IfSome}
use Rattle.s57_types.specs.declared.cell.Cell.{Cell}
use Rattle.commit_book.specs.Books.{history_of}
use Rattle.crash_disk.specs.Disk.{LeavesOnly}
use Rattle.book_journal.specs.Keeping.{IsStanding}
use Rattle.report_text.specs.declared.status.Status.{Status}
use Rattle.keep_run.specs.Causes.{EndTellsDisk}
use Rattle.keep_run.specs.Keeps.{IsKeepEnd, IsKeptOn}
use Rattle.keep_run.specs.Runs.{IsKeptTo}
use Rattle.keep_run.proofs.Opened.{open_end, open_ends, while_opened, while_run}
use Rattle.keep_run.proofs.Told.{open_told, stop_told}
use Rattle.keep_run.proofs.keep.keep.Goals as goal

pub status_of-requires : goal.status_of-requires
status_of-requires g c =
    let old = c.args.disk.now in
    let mid = c.open_book.new.disk in
    open_end c.args.cell (g.D.Disk.content old) (g.D.Disk.content mid) (g.D.Disk.faults old) (g.D.Disk.faults mid) c.requires.few c.in-Err.why
    c.in-Err.ensures.err

pub returns-in-Err-clause-err : goal.returns-in-Err-clause-err
returns-in-Err-clause-err g c =
    let old = c.args.disk.now in
    let mid = c.open_book.new.disk in
    let content = g.D.Disk.content in
    let faults = g.D.Disk.faults in
    subst (λ (status : Status). IsKeepEnd c.args.cell (content old) (content mid) (faults old) (faults mid) status) (sym c.status_of.ensures)
    (open_ends c.args.cell (content old) (content mid) (faults old) (faults mid) c.requires.few c.in-Err.why c.in-Err.ensures.err c.in-Err.ensures.left)

pub returns-in-Err-clause-moments : goal.returns-in-Err-clause-moments
returns-in-Err-clause-moments g c =
    while_opened g.D.Disk.moment g.D.Disk.left_since g.D.Disk.content g.D.Disk.images c.args.cell c.args.script.now c.args.disk.now c.open_book.new.disk
    c.in-Err.ensures.moments

pub run_over-requires-clause-standing : goal.run_over-requires-clause-standing
run_over-requires-clause-standing g c κs within =
    let mid = c.open_book.new.disk in
    let book = c.in-Ok.opened.0 in
    subst (λ (cell : Cell). IfSome (g.D.Disk.content mid) (IsStanding cell (history_of book).commits c.in-Ok.opened.1 (g.D.Disk.images mid)))
    (sym c.in-Ok.ensures.book.opening) c.in-Ok.ensures.opened.standing

pub returns-in-Ok-run_over-clause-ok : goal.returns-in-Ok-run_over-clause-ok
returns-in-Ok-run_over-clause-ok g c =
    let new = c.run_over.new.disk in
    let commits = (history_of c.in-Ok.opened.0).commits in
    record {
      commits = commits;
      journal = c.in-Ok.ensures.opened.journal;
      few = c.in-Ok.ensures.book.few;
      run = subst (λ (cell : Cell). IsKeptOn cell commits c.args.script.now (g.D.Disk.content new) (g.D.Disk.images new) c.in-Ok-run_over.kept)
          c.in-Ok.ensures.book.opening c.in-Ok-run_over.ensures.ok;
    }

pub returns-in-Ok-run_over-clause-moments : goal.returns-in-Ok-run_over-clause-moments
returns-in-Ok-run_over-clause-moments g c =
    let mid = c.open_book.new.disk in
    let new = c.run_over.new.disk in
    let commits = (history_of c.in-Ok.opened.0).commits in
    while_run g.D.Disk.moment g.D.Disk.left_since g.D.Disk.content g.D.Disk.images c.args.cell c.args.script.now c.args.disk.now mid
    c.in-Ok.ensures.moments new commits c.in-Ok.ensures.opened.journal c.in-Ok.ensures.stays_told.1
    (subst (λ (cell : Cell). IfSome (g.D.Disk.content mid)
    (λ _. LeavesOnly g.D.Disk.moment g.D.Disk.left_since mid new (IsKeptTo cell commits c.args.script.now))) c.in-Ok.ensures.book.opening
    c.in-Ok-run_over.ensures.moments)

pub returns-in-Err-clause-told_disk : goal.returns-in-Err-clause-told_disk
returns-in-Err-clause-told_disk g c =
    let old = g.D.Disk.faults c.args.disk.now in
    let mid = g.D.Disk.faults c.open_book.new.disk in
    subst (EndTellsDisk old mid) (sym c.status_of.ensures) (open_told old mid c.in-Err.why c.in-Err.ensures.counted)

pub returns-clause-told_disk : goal.returns-clause-told_disk
returns-clause-told_disk g c =
    let old = g.D.Disk.faults c.args.disk.now in
    let mid = g.D.Disk.faults c.open_book.new.disk in
    let new = g.D.Disk.faults c.run_over.new.disk in
    subst (EndTellsDisk old new) (sym c.status_of_stop.ensures)
    (stop_told old mid new c.in-Err-run_over.why c.in-Ok.ensures.counted c.in-Err-run_over.ensures.err)
