use Rattle.std.proofs.Common.{List, ℕ, length, refl, ap, subst, sym, ◌∙◌}
use Rattle.text_spec.specs.declared.command.Command.{Command}
use Rattle.history_spec.specs.Served.{Draft, no_draft}
use Rattle.commit_book.specs.Books.{BookState, history_of}
use Rattle.keep_run.specs.Runs.{kept_history}
use Rattle.keep_run.specs.Sessions.{IsRunTo, draft_of}
use Rattle.keep_run.proofs.Going.{not_yet}
use Rattle.keep_run.proofs.Looping.{at_start, ended, fits_next, next_done, so_far}
use Rattle.keep_run.proofs.Opened.{kept_with, left_on}
use Rattle.keep_run.proofs.keep.run_kept.Goals as goal

pub loop-command-init : goal.loop-command-init
loop-command-init g c =
    let journal = c.args.journal.now in
    let book = journal.book in
    let commits = (history_of book).commits in
    let session = c.make-session.result in
    let script = c.args.script.now in
    let begun = subst (λ (d : Draft). IsRunTo book.opening commits script script book d session.transcript) (sym c.make-session.ensures.draft)
    (subst (λ (l : List ℕ). IsRunTo book.opening commits script script book no_draft l) (sym c.make-session.ensures.lines)
    (not_yet book script c.requires.entries c.requires.few c.requires.within)) in
    record {
      still = c.requires.still;
      same_reference = refl;
      whole = c.requires.whole;
      stays_told = (λ told. told, λ told. told);
      run = subst (λ (rest : List Command). IsRunTo book.opening commits script rest book (draft_of session) session.transcript)
          (sym c.commands-command-items.ensures) begun;
      moments = at_start g.D.Disk.content g.D.Disk.images g.D.Disk.moment g.D.Disk.left_since journal script (draft_of session) session.transcript
          begun c.requires.still c.requires.whole (g.met.D.Disk.only_now journal.disk.now);
      counted = refl;
    }

pub serve-requires-clause-fit : goal.serve-requires-clause-fit
serve-requires-clause-fit g c κs within =
    let old = c.args.journal.now in
    fits_next old.book.opening (history_of old.book).commits c.args.script.now c.commands-command-items.result.now c.loop-command.command-index
    c.command-item.result c.loop-command-test.true c.command-item.is c.loop-command.journal.book c.loop-command.session c.loop-command.invariant.run

-- what a crash leaves up to a command that isn't done
pub returns-in_err-serve-clause-moments : goal.returns-in_err-serve-clause-moments
returns-in_err-serve-clause-moments g c =
    let old = c.args.journal.now in
    let before = c.loop-command.invariant in
    so_far old.book.opening (history_of old.book).commits c.args.script.now c.commands-command-items.result.now c.loop-command.command-index
    c.command-item.result c.loop-command-test.true c.command-item.is c.loop-command.journal.book c.loop-command.session before.run g.D.Disk.moment
    g.D.Disk.left_since g.D.Disk.content old.disk.now c.loop-command.journal.disk.now c.serve.new.journal.disk.now before.moments before.stays_told.1
    c.serve.ensures.moments

pub loop-command-preserved : goal.loop-command-preserved
loop-command-preserved g c =
    let old = c.args.journal.now in
    let before = c.loop-command.invariant in
    let step = c.in_ok-serve.ensures in
    record {
      still = step.still;
      same_reference = step.same_reference ∙ before.same_reference;
      whole = step.whole;
      stays_told = (λ told. before.stays_told.0 (step.stays_told.0 told), λ told. step.stays_told.1 (before.stays_told.1 told));
      run = next_done old.book.opening (history_of old.book).commits c.args.script.now c.commands-command-items.result.now c.loop-command.command-index
          c.command-item.result c.loop-command-test.true c.command-item.is c.loop-command.journal.book c.loop-command.session before.run
          c.serve.new.journal.book c.serve.new.session step.ok;
      moments = so_far old.book.opening (history_of old.book).commits c.args.script.now c.commands-command-items.result.now
          c.loop-command.command-index c.command-item.result c.loop-command-test.true c.command-item.is c.loop-command.journal.book
          c.loop-command.session before.run g.D.Disk.moment g.D.Disk.left_since g.D.Disk.content old.disk.now c.loop-command.journal.disk.now
          c.serve.new.journal.disk.now before.moments before.stays_told.1 step.moments;
      counted = step.counted ∙ before.counted;
    }

-- no command is left
pub returns-clause-ok : goal.returns-clause-ok
returns-clause-ok g c =
    let old = c.args.journal.now in
    let commits = (history_of old.book).commits in
    let script = c.args.script.now in
    let new = c.loop-command.journal in
    let run = ended old.book.opening commits script c.commands-command-items.result.now c.loop-command.command-index new.book c.loop-command.session
    c.loop-command-test.false c.loop-command.invariant.run in
    kept_with old.book.opening commits script new.book c.book-2.result.now c.loop-command.session.transcript c.into_transcript-transcript.result
    c.commits-count.result c.in_ok-report.field-0 (g.D.Disk.content new.disk.now) (g.D.Disk.images new.disk.now) run
    (c.commits-count.ensures ∙ ap (λ (b : BookState). length (history_of b).commits) c.book.ensures) c.book-2.ensures
    c.into_transcript-transcript.ensures c.in_ok-report.ensures.text c.in_ok-report.ensures.bench
    (left_on g.D.Disk.content g.D.Disk.images old.book.opening (kept_history old.book.opening commits script).commits new run.opening run.commits_are
    c.loop-command.invariant.still c.loop-command.invariant.whole)
