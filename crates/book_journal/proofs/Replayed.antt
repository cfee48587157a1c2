-- A journal taken into a book, or refused.
use Rattle.std.proofs.Common.{◌≡◌, ◌⊎◌, inl, inr, ℕ, ◌+◌, ◌-◌, ◌<◌, ◌≤◌, List, [], length, sym, ap, ◌∙◌, arith, length-append}
use Rattle.s57_types.specs.declared.cell.Cell.{Cell}
use Rattle.history_spec.specs.Steps.{AcceptedCommit, finding_limit}
use Rattle.rule_spec.specs.Findings.{finding_total}
use Rattle.commit_book.specs.Books.{BookState, IsOpened, history_of}
use Rattle.book_journal.specs.Cuts.{HasNoEntry}
use Rattle.book_journal.specs.Entries.{list_bytes}
use Rattle.book_journal.specs.Journals.{IsJournalOf}
use Rattle.book_journal.specs.Keeping.{commit_limit}
use Rattle.book_journal.specs.Replaying.{IsCounted, IsFilled, IsListRefusal, IsOverLimit, IsReplayRefusal, IsReplayed}
use Rattle.book_journal.specs.declared.refusal.OpenRefusal.{OpenRefusal}
use Rattle.book_journal.specs.declared.refusal.OpenRefusal.TheVariants.{BadJournal, DiskFault, JournalFull, FindingsFull, NoMemory}
use Rattle.book_journal.proofs.Replaying.{list_long, place_of}

no_commits : (c : Cell) (book : BookState) → IsOpened c book → (history_of book).commits ≡ []
no_commits c book opened = ap (λ (b : BookState). (history_of b).commits) opened.state

-- a file of at most one byte
pub short_replayed : (c : Cell) (file : List ℕ) (book : BookState) → IsOpened c book → length file ≤ 1 → IsReplayed c file book 0
short_replayed c file book opened short =
    let none = no_commits c book opened in
    let entries : book.entries ≡ [] = ap (λ (b : BookState). b.entries) opened.state in
    let counted = ap length none in
    record {
      within = opened.few;
      opening = ap (λ (b : BookState). b.opening) opened.state;
      journal = inl (short, none);
      entries = ap length entries ∙ sym counted;
      few = omega (arith, counted);
      place_is = sym (ap (λ (l : List AcceptedCommit). length (list_bytes l)) none);
      rest = [];
      read = λ more. absurd (omega (arith, more, short));
    }

-- a list that isn't gone through
pub list_refused : (c : Cell) (file : List ℕ) (why : OpenRefusal) → finding_total c ≤ finding_limit → IsListRefusal c file why → IsReplayRefusal c file why
list_refused c file (BadJournal place) within is = (within, is)
list_refused c file DiskFault within is = is
list_refused c file (JournalFull count) within is = absurd is
list_refused c file FindingsFull within is = absurd is
list_refused c file NoMemory within is = is

module _ (c : Cell) (file : List ℕ) (book : BookState) (rest : List ℕ) (count : ℕ) (filled : IsFilled c file book rest)
    (counted : IsCounted c file (length (history_of book).commits) rest count) (within : finding_total c ≤ finding_limit) where
  -- commits over the limit
  pub over_the_limit : 0 < count → (finding_total c ≤ finding_limit) × IsOverLimit c file (length (history_of book).commits + count)
  over_the_limit some = (within, (counted.commits, counted.list, over filled.stopped, sym counted.count_is))
    where
      over : (length (history_of book).commits ≡ commit_limit) ⊎ HasNoEntry rest → commit_limit < length counted.commits
      over (inl full) = omega (arith, full, counted.count_is, some)
      over (inr none) = absurd (omega (arith, counted.follows none, some))

  -- all of them are in the book
  pub all_replayed : count ≡ 0 → IsReplayed c file book (length file - length rest)
  all_replayed none = record {
    within = within;
    opening = filled.to.opening;
    journal = inr (record { rest = rest; read = filled.to.read; ends = counted.ended none });
    entries = filled.to.entries;
    few = filled.to.few;
    place_is = place_of c file (history_of book).commits rest filled.to.read;
    rest = rest;
    read = λ more. (filled.to.read, counted.ended none);
  }

-- there are no more commits than bytes
pub counted_within : (c : Cell) (file : List ℕ) (first : ℕ) (rest : List ℕ) (count : ℕ) → IsCounted c file first rest count → first + count ≤ length file
counted_within c file first rest count counted = within counted.list
  where
    within : IsJournalOf c file counted.commits → first + count ≤ length file
    within (inl none) = omega (arith, counted.count_is, ap length none.1)
    within (inr list) =
        omega (arith, counted.count_is, list_long counted.commits, ap length list.read.bytes_are, length-append (list_bytes counted.commits) list.rest)
