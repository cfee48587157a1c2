-- What opening a journal gives, and why it is refused. This project's own rules.
use Rattle.std.specs.Prelude.{◌≡◌, ℕ, ◌<◌, ◌≤◌, ◌^◌, List, [], ◌∷◌, length, Option, Some, IfSome}
use Rattle.enc_outside.specs.Count.{Rose}
use Rattle.s57_types.specs.declared.cell.Cell.{Cell}
use Rattle.rule_spec.specs.Findings.{finding_total}
use Rattle.history_spec.specs.Steps.{finding_limit}
use Rattle.commit_book.specs.Books.{BookState, history_of}
use Rattle.book_journal.specs.Journals.{IsDamagedAt, IsJournalOf}
use Rattle.book_journal.specs.Keeping.{IsStanding, commit_limit}
use Rattle.book_journal.specs.Replaying.{IsOverLimit}
use Rattle.book_journal.specs.declared.refusal.OpenRefusal.{OpenRefusal}
use Rattle.book_journal.specs.declared.refusal.OpenRefusal.TheVariants.{BadJournal, DiskFault, JournalFull, FindingsFull, NoMemory}

-- a book of a cell that has an entry for each of its commits and no others, and no more than may be; the cell has not too many findings
pub record IsBookOfJournal (c : Cell) (book : BookState) : Type 0 where
  pub within : finding_total c ≤ finding_limit
  pub opening : book.opening ≡ c
  pub entries : length book.entries ≡ length (history_of book).commits
  pub few : length (history_of book).commits ≤ commit_limit

-- a file is left as it was, but for one of at most one byte, which becomes an empty list
pub record IsLeft (file : List ℕ) (now : Option (List ℕ)) : Type 0 where
  pub longer : 1 < length file → now ≡ Some file
  pub short : length file ≤ 1 → now ≡ Some (0 ∷ [])

-- its commits are those of the journal that was there, where the disk told its bytes, and the disk has them now as a list that ends at a place
pub record IsOpenedAt (c : Cell) (book : BookState) (place : ℕ) (before now : Option (List ℕ)) (images : List ℕ → Type 0) : Type 0 where
  pub room : place < 2 ^ 63
  pub journal : IfSome before (λ file. IsJournalOf c file (history_of book).commits)
  pub standing : IfSome now (IsStanding c (history_of book).commits place images)
  pub left : IfSome before (λ file. IsLeft file now)

-- why a journal isn't opened, where the disk told its bytes: the cell has too many findings, or not too many and one of the journal's entries is
-- damaged or it has too many commits; or a call of the disk failed, or memory is out
abbrev pub IsOpenRefusal : Cell → Option (List ℕ) → ℕ → ℕ → OpenRefusal → Type 0
IsOpenRefusal c before faults now (BadJournal place) = (finding_total c ≤ finding_limit) × IfSome before (λ file. IsDamagedAt c file place)
IsOpenRefusal c before faults now DiskFault = Rose faults now
IsOpenRefusal c before faults now (JournalFull count) = (finding_total c ≤ finding_limit) × IfSome before (λ file. IsOverLimit c file count)
IsOpenRefusal c before faults now FindingsFull = finding_limit < finding_total c
IsOpenRefusal c before faults now NoMemory = Unit {0}

-- the count of the disk's failed calls rose where that is why a journal isn't opened, and stayed with every other refusal
abbrev pub CountsFaults : (faults now : ℕ) → OpenRefusal → Type 0
CountsFaults faults now DiskFault = Rose faults now
CountsFaults faults now why = now ≡ faults

-- only after a fault of the disk its bytes may be others
abbrev pub LeavesBytes : Option (List ℕ) → Option (List ℕ) → OpenRefusal → Type 0
LeavesBytes before now (BadJournal place) = now ≡ before
LeavesBytes before now DiskFault = Unit {0}
LeavesBytes before now (JournalFull count) = now ≡ before
LeavesBytes before now FindingsFull = now ≡ before
LeavesBytes before now NoMemory = now ≡ before

-- the same without what only a fault of the disk leaves
abbrev pub IsOpenCause : Cell → Option (List ℕ) → OpenRefusal → Type 0
IsOpenCause c before (BadJournal place) = (finding_total c ≤ finding_limit) × IfSome before (λ file. IsDamagedAt c file place)
IsOpenCause c before DiskFault = Unit {0}
IsOpenCause c before (JournalFull count) = (finding_total c ≤ finding_limit) × IfSome before (λ file. IsOverLimit c file count)
IsOpenCause c before FindingsFull = finding_limit < finding_total c
IsOpenCause c before NoMemory = Unit {0}
