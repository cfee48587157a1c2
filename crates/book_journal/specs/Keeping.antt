-- What a crash leaves of a journal's commits, and what the calls of a journal refuse. This project's own rules.
use Rattle.std.specs.Prelude.{◌≡◌, ◌⊎◌, ◌↔◌, ℕ, List, [], ◌∷◌, ◌++◌, length, Result}
use Rattle.s57_types.specs.declared.cell.Cell.{Cell}
use Rattle.history_spec.specs.Steps.{AcceptedCommit}
use Rattle.crash_disk.specs.Disk.{Only}
use Rattle.book_journal.specs.Entries.{list_bytes}
use Rattle.book_journal.specs.Journals.{IsJournalOf, IsListOf, IsReading}

-- how many commits a journal may have to be opened
abbrev pub commit_limit : ℕ
commit_limit = 950000

-- two files are read alike
abbrev pub AreAlike : Cell → List ℕ → List ℕ → Type 0
AreAlike c file other = (reading : Result (List AcceptedCommit) ℕ) → IsReading c file reading ↔ IsReading c other reading

-- a file is read as one that a crash before might have left
pub record IsAsBefore (c : Cell) (images : List ℕ → Type 0) (file : List ℕ) : Type 0 where
  pub earlier : List ℕ
  pub left : images earlier
  pub alike : AreAlike c file earlier

-- a file has the commits from before, or these and one more
abbrev pub HasOrHasNot : Cell → List AcceptedCommit → AcceptedCommit → List ℕ → Type 0
HasOrHasNot c commits one file = IsJournalOf c file commits ⊎ IsJournalOf c file (commits ++ one ∷ [])

-- a file is the list of commits, which ends at a place, and all of it is kept
pub record IsStanding (c : Cell) (commits : List AcceptedCommit) (place : ℕ) (images : List ℕ → Type 0) (file : List ℕ) : Type 0 where
  pub list : IsListOf c file commits
  pub place_is : place ≡ length (list_bytes commits)
  pub kept : Only file images
