-- A journal that is opened and kept: what ends it, what it gives, and what a crash leaves meanwhile.
use Rattle.std.proofs.Common.{◌≡◌, inl, inr, false, ℕ, ◌≤◌, List, length, Option, None, Some, refl, ap, ◌∙◌, subst, arith}
use Rattle.std.specs.Prelude.{IfSome, IsSome}
use Rattle.std.proofs.lemmas.Bool.{false≢true}
use Rattle.call_files.proofs.Answered.{rose_earlier}
use Rattle.s57_types.specs.declared.cell.Cell.{Cell}
use Rattle.rule_spec.specs.Findings.{finding_total}
use Rattle.text_spec.specs.declared.command.Command.{Command}
use Rattle.history_spec.specs.Steps.{AcceptedCommit, finding_limit}
use Rattle.commit_book.specs.Books.{BookState, history_of}
use Rattle.crash_disk.specs.Disk.{LeavesOnly}
use Rattle.crash_disk.proofs.Moments.{then, weakened}
use Rattle.book_journal.specs.Journals.{IsJournalOf, IsListOf}
use Rattle.book_journal.specs.Keeping.{IsAsBefore}
use Rattle.book_journal.specs.Opening.{IsOpenRefusal, LeavesBytes}
use Rattle.book_journal.specs.Standing.{IsStill}
use Rattle.book_journal.specs.declared.journal.Journal.{Journal}
use Rattle.book_journal.specs.declared.refusal.KeepRefusal.{KeepRefusal}
use Rattle.book_journal.specs.declared.refusal.KeepRefusal.TheVariants as keep_refusal
use Rattle.book_journal.specs.declared.refusal.OpenRefusal.{OpenRefusal}
use Rattle.book_journal.specs.declared.refusal.OpenRefusal.TheVariants.{BadJournal, DiskFault, JournalFull, FindingsFull, NoMemory}
use Rattle.book_journal.proofs.Told.{if_some}
use Rattle.keep_run.specs.Keeps.{IsKeepEnd, IsKeptImage, IsKeptOn, IsLeftWith, IsOpenEnd, status_of, stop_status}
use Rattle.keep_run.specs.Runs.{IsKeptTo, kept_history, text_of}
use Rattle.keep_run.specs.Sessions.{IsRun}
use Rattle.keep_run.specs.Stops.{IsStop, IsStopOf}
use Rattle.keep_run.specs.declared.report.Kept.{Kept}

-- ---- a journal that isn't opened
module _ (c : Cell) (before now : Option (List ℕ)) (faults faults_now : ℕ) (few : finding_total c ≤ finding_limit) where
  pub open_end : (why : OpenRefusal) → IsOpenRefusal c before faults faults_now why → IsOpenEnd why
  open_end (BadJournal place) is = tt
  open_end DiskFault is = tt
  open_end (JournalFull count) is = tt
  open_end FindingsFull is = absurd (omega (arith, few, is))
  open_end NoMemory is = tt

  pub open_ends : (why : OpenRefusal) → IsOpenRefusal c before faults faults_now why → LeavesBytes before now why
      → IsKeepEnd c before now faults faults_now (status_of why)
  open_ends (BadJournal place) is left = (is.1, left)
  open_ends DiskFault is left = is
  open_ends (JournalFull count) is left =
      (if_some _ _ before is.1 (λ file told long. record { commits = long.0; journal = long.1; more = long.2; count_is = long.3 }), left)
  open_ends FindingsFull is left = tt
  open_ends NoMemory is left = tt

-- ---- a script that doesn't go on
pub stop_is : (mid faults_now : ℕ) (why : KeepRefusal) → IsStop mid faults_now why → IsStopOf why
stop_is mid faults_now keep_refusal.DiskFault is = tt
stop_is mid faults_now keep_refusal.NoMemory is = tt
stop_is mid faults_now keep_refusal.Broken is = is
stop_is mid faults_now (keep_refusal.EntryTooLong bytes) is = is
stop_is mid faults_now keep_refusal.LogFull is = is

pub stop_ends : (c : Cell) (before now : Option (List ℕ)) (faults mid faults_now : ℕ) (why : KeepRefusal) → faults ≤ mid → IsStop mid faults_now why
    → IsKeepEnd c before now faults faults_now (stop_status why)
stop_ends c before now faults mid faults_now keep_refusal.DiskFault le is = rose_earlier faults mid faults_now le is
stop_ends c before now faults mid faults_now keep_refusal.NoMemory le is = tt
stop_ends c before now faults mid faults_now keep_refusal.Broken le is = absurd is
stop_ends c before now faults mid faults_now (keep_refusal.EntryTooLong bytes) le is = absurd is
stop_ends c before now faults mid faults_now keep_refusal.LogFull le is = absurd is

-- ---- a script that was run
pub left_on : {D : Type 0} (content : D → Option (List ℕ)) (images : D → List ℕ → Type 0) (c : Cell) (commits : List AcceptedCommit) (journal : Journal D)
    → journal.book.opening ≡ c → (history_of journal.book).commits ≡ commits → IsStill content images journal → journal.broken ≡ false
    → IsLeftWith c commits (content journal.disk.now) (images journal.disk.now)
left_on content images c commits journal opening commits_are still whole =
    if_some _ _ (content journal.disk.now) (still.standing whole) (λ file told standing. (
      inr (subst (λ (l : List AcceptedCommit). IsListOf c file l) commits_are
          (subst (λ (d : Cell). IsListOf d file (history_of journal.book).commits) opening standing.list)),
      standing.kept,
    ))

-- what is told of the book that it left, where the book and the lines are given again
pub kept_with : (c : Cell) (commits : List AcceptedCommit) (script : List Command) (book told : BookState) (lines told_lines : List ℕ) (count : ℕ) (kept : Kept)
    (now : Option (List ℕ)) (images : List ℕ → Type 0) → IsRun c commits script book lines → count ≡ length commits → told ≡ book → told_lines ≡ lines
    → kept.text.items ≡ text_of count told_lines (history_of told).cell → kept.bench ≡ (history_of told).cell
    → IsLeftWith c (kept_history c commits script).commits now images → IsKeptOn c commits script now images kept
kept_with c commits script book told lines told_lines count kept now images run count_is told_is same_lines text bench left =
    let cell_is = ap (λ (b : BookState). (history_of b).cell) told_is ∙ run.cell_is in
    let lines_are = same_lines ∙ run.lines_are in
    record {
      text_is = text ∙ (λ i. text_of (count_is i) (lines_are i) (cell_is i));
      cell_is = bench ∙ cell_is;
      left = left;
    }

-- ---- what a crash leaves
module _ {D : Type 0} (moment : D → ℕ) (left_since : D → ℕ → List ℕ → Type 0) (content : D → Option (List ℕ)) (images : D → List ℕ → Type 0) (c : Cell)
    (script : List Command) (old mid : D) (opened : IfSome (content old) (λ _. LeavesOnly moment left_since old mid (IsAsBefore c (images old)))) where
  -- while the journal is opened
  pub while_opened : IfSome (content old) (λ file. LeavesOnly moment left_since old mid (IsKeptImage c script file (images old)))
  while_opened = if_some _ _ (content old) opened (λ file told is.
      weakened moment left_since old mid (IsAsBefore c (images old)) (IsKeptImage c script file (images old)) is (λ image earlier. inl earlier))

  -- and then, while the script is run over its commits
  module _ (new : D) (commits : List AcceptedCommit) where
    pub while_run : IfSome (content old) (λ file. IsJournalOf c file commits) → (IsSome (content old) → IsSome (content mid))
        → IfSome (content mid) (λ _. LeavesOnly moment left_since mid new (IsKeptTo c commits script))
        → IfSome (content old) (λ file. LeavesOnly moment left_since old new (IsKeptImage c script file (images old)))
    while_run journal told during = by (content old) (content mid) while_opened journal told during
      where
        by : (a b : Option (List ℕ)) → IfSome a (λ file. LeavesOnly moment left_since old mid (IsKeptImage c script file (images old)))
            → IfSome a (λ file. IsJournalOf c file commits) → (IsSome a → IsSome b)
            → IfSome b (λ _. LeavesOnly moment left_since mid new (IsKeptTo c commits script))
            → IfSome a (λ file. LeavesOnly moment left_since old new (IsKeptImage c script file (images old)))
        by None b x is on y = tt
        by (Some file) None x is on y = absurd (false≢true (on refl))
        by (Some file) (Some other) x is on y =
            then moment left_since old mid new (IsKeptImage c script file (images old)) x
            (weakened moment left_since mid new (IsKeptTo c commits script) (IsKeptImage c script file (images old)) y
            (λ image kept. inr (commits, is, kept)))
