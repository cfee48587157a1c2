-- The entries of a list taken one after the other, by a book and then by a bench. This project's own.
use Rattle.std.specs.Prelude.{◌≡◌, ◌⊎◌, ℕ, ◌+◌, ◌<◌, ◌≤◌, Bool, true, false, List, [], ◌∷◌, ◌++◌, length, None}
use Rattle.s57_types.specs.declared.cell.Cell.{Cell}
use Rattle.cell_spec.specs.declared.edit.Edit.{Edit}
use Rattle.cell_spec.specs.Edits.{apply_edits}
use Rattle.rule_spec.specs.Findings.{finding_total}
use Rattle.history_spec.specs.Steps.{AcceptedCommit, cell_after, finding_limit, state_refusal}
use Rattle.commit_book.specs.Books.{BookState, history_of}
use Rattle.book_journal.specs.Cuts.{HasNoEntry}
use Rattle.book_journal.specs.Entries.{list_bytes}
use Rattle.book_journal.specs.Journals.{IsDamagedAt, IsEnd, IsJournalOf, IsReadTo}
use Rattle.book_journal.specs.Keeping.{commit_limit}
use Rattle.book_journal.specs.Texts.{AreEditsOf}
use Rattle.book_journal.specs.declared.refusal.OpenRefusal.{OpenRefusal}
use Rattle.book_journal.specs.declared.refusal.OpenRefusal.TheVariants.{BadJournal, DiskFault, JournalFull, FindingsFull, NoMemory}

-- a text is edits that a cell takes
pub record AreTaken (d : Cell) (text : List ℕ) (edits : List Edit) : Type 0 where
  pub edits_are : AreEditsOf d.head.nall text edits
  pub none : state_refusal d edits ≡ None

abbrev pub IsNotTaken : Cell → List ℕ → Type 0
IsNotTaken d text = (edits : List Edit) → AreTaken d text edits → ⊥

-- the cell that a text leaves, where it is taken
pub record IsEditedBy (d : Cell) (text : List ℕ) (after : Cell) : Type 0 where
  pub edits : List Edit
  pub taken : AreTaken d text edits
  pub after_is : after ≡ apply_edits edits d

abbrev pub IsBenchTaken : Cell → List ℕ → Cell → Bool → Type 0
IsBenchTaken d text after true = IsEditedBy d text after
IsBenchTaken d text after false = IsNotTaken d text

-- the book with a commit of the edits that a text is
pub record HasCommitOf (old : BookState) (desk : ℕ) (text : List ℕ) (new : BookState) : Type 0 where
  pub edits : List Edit
  pub taken : AreTaken (history_of old).cell text edits
  pub opening : new.opening ≡ old.opening
  pub commits : (history_of new).commits ≡ (history_of old).commits ++ record { desk = desk; edits = edits } ∷ []
  pub entries : length new.entries ≡ length old.entries + 1

abbrev pub IsBookTaken : BookState → ℕ → List ℕ → BookState → Bool → Type 0
IsBookTaken old desk text new true = HasCommitOf old desk text new
IsBookTaken old desk text new false = IsNotTaken (history_of old).cell text

-- a book that has the commits of a file up to the rest, an entry for each and no others
pub record IsBookTo (c : Cell) (file : List ℕ) (book : BookState) (rest : List ℕ) : Type 0 where
  pub opening : book.opening ≡ c
  pub read : IsReadTo c file (history_of book).commits rest
  pub entries : length book.entries ≡ length (history_of book).commits
  pub few : length (history_of book).commits ≤ commit_limit
  pub more : 0 < length rest

-- it has as many as it may have, or no entry follows
pub record IsFilled (c : Cell) (file : List ℕ) (book : BookState) (rest : List ℕ) : Type 0 where
  pub to : IsBookTo c file book rest
  pub stopped : (length (history_of book).commits ≡ commit_limit) ⊎ HasNoEntry rest

-- why a list isn't gone through: one of its entries is damaged, or memory is out
abbrev pub IsListRefusal : Cell → List ℕ → OpenRefusal → Type 0
IsListRefusal c file (BadJournal place) = IsDamagedAt c file place
IsListRefusal c file DiskFault = ⊥
IsListRefusal c file (JournalFull count) = ⊥
IsListRefusal c file FindingsFull = ⊥
IsListRefusal c file NoMemory = Unit {0}

-- a file is gone through up to the rest, so many commits behind others, and this is the cell then
pub record IsCountedTo (c : Cell) (file : List ℕ) (first count : ℕ) (d : Cell) (rest : List ℕ) : Type 0 where
  pub commits : List AcceptedCommit
  pub read : IsReadTo c file commits rest
  pub count_is : length commits ≡ first + count
  pub cell_is : d ≡ cell_after (length commits) commits c
  pub more : 0 < length rest

-- a list has so many commits behind others, whose entries end where the rest begins
pub record IsCounted (c : Cell) (file : List ℕ) (first : ℕ) (rest : List ℕ) (count : ℕ) : Type 0 where
  pub commits : List AcceptedCommit
  pub list : IsJournalOf c file commits
  pub count_is : length commits ≡ first + count
  pub ended : count ≡ 0 → IsEnd rest
  pub follows : HasNoEntry rest → count ≡ 0

-- a list has this number of commits, which is over the limit
abbrev pub IsOverLimit : Cell → List ℕ → ℕ → Type 0
IsOverLimit c file count = (commits : List AcceptedCommit) × IsJournalOf c file commits × (commit_limit < length commits) × (count ≡ length commits)

-- a book that has the commits of a journal, an entry for each and no others, and the place where the list of a file of more than one byte ends
pub record IsReplayed (c : Cell) (file : List ℕ) (book : BookState) (place : ℕ) : Type 0 where
  pub within : finding_total c ≤ finding_limit
  pub opening : book.opening ≡ c
  pub journal : IsJournalOf c file (history_of book).commits
  pub entries : length book.entries ≡ length (history_of book).commits
  pub few : length (history_of book).commits ≤ commit_limit
  pub place_is : place ≡ length (list_bytes (history_of book).commits)
  pub rest : List ℕ
  pub read : 1 < length file → IsReadTo c file (history_of book).commits rest × IsEnd rest

-- why a journal isn't taken into a book: the cell has too many findings, or not too many and its list is refused, or memory is out
abbrev pub IsReplayRefusal : Cell → List ℕ → OpenRefusal → Type 0
IsReplayRefusal c file (BadJournal place) = (finding_total c ≤ finding_limit) × IsDamagedAt c file place
IsReplayRefusal c file DiskFault = ⊥
IsReplayRefusal c file (JournalFull count) = (finding_total c ≤ finding_limit) × IsOverLimit c file count
IsReplayRefusal c file FindingsFull = finding_limit < finding_total c
IsReplayRefusal c file NoMemory = Unit {0}
