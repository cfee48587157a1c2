use Rattle.std.proofs.Common.{◌≡◌, ◌↔◌, drop, false}
use Rattle.std.specs.Prelude.{IfSome, IsSome}
use Rattle.crash_disk.specs.Disk.{LeavesOnly}
use Rattle.commit_book.specs.Books.{history_of}
use Rattle.book_journal.specs.Standing.{IsStill}
use Rattle.keep_run.specs.Runs.{IsKeptTo}
use Rattle.keep_run.specs.Sessions.{IsRunTo, draft_of}
use Rattle.keep_run.proofs.keep.run_kept.Given as goal

-- the commands so far are done, and a crash has left what they keep
abbrev pub invariant-loop-command : goal.invariant-loop-command
invariant-loop-command g l = record {
  still : IsStill g.D.Disk.content g.D.Disk.images l.journal;
  same_reference : l.journal.disk.ghost_name ≡ l.initial.journal.disk.ghost_name;
  whole : l.journal.broken ≡ false;
  stays_told : IsSome (g.D.Disk.content l.journal.disk.now) ↔ IsSome (g.D.Disk.content l.initial.journal.disk.now);
  run : IsRunTo l.initial.journal.book.opening (history_of l.initial.journal.book).commits l.script (drop l.command-index l.command-items) l.journal.book
      (draft_of l.session) l.session.transcript;
  moments : IfSome (g.D.Disk.content l.initial.journal.disk.now) (λ _. LeavesOnly g.D.Disk.moment g.D.Disk.left_since l.initial.journal.disk.now
      l.journal.disk.now (IsKeptTo l.initial.journal.book.opening (history_of l.initial.journal.book).commits l.script));
  counted : g.D.Disk.faults l.journal.disk.now ≡ g.D.Disk.faults l.initial.journal.disk.now;
}
