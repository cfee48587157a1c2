-- The log of an editing history: what it is seen as, what it keeps, and what its calls answer and leave. This project's own rules.
use Rattle.std.specs.Prelude.{◌≡◌, ℕ, ◌≤◌, true, List, [], ◌∷◌, ◌++◌, length, map, drop, filter_map, All, Option, None, Some}
use Rattle.s57_types.specs.declared.cell.Cell.{Cell}
use Rattle.cell_spec.specs.declared.edit.Edit.{Edit}
use Rattle.cell_spec.specs.declared.key.Key.{Key}
use Rattle.cell_spec.specs.Edits.{apply_edits, touched_keys}
use Rattle.cell_spec.specs.Writable.{IsWritable}
use Rattle.answer_laws.specs.EditedAnswers.{FindTheirRecords}
use Rattle.edit_sets.specs.FormFault.{GuardedEdits}
use Rattle.rule_spec.specs.Findings.{finding_total}
use Rattle.text_spec.specs.EditLine.{has_line}
use Rattle.history_spec.specs.declared.entry.Asked.{Asked}
use Rattle.history_spec.specs.declared.entry.Asked.TheVariants.{View, Faulty, Commit}
use Rattle.history_spec.specs.declared.entry.Entry.{Entry}
use Rattle.history_spec.specs.declared.reply.Brief.{Brief}
use Rattle.history_spec.specs.declared.reply.Brief.TheVariants as brief
use Rattle.history_spec.specs.declared.reply.Reply.{Reply}
use Rattle.history_spec.specs.declared.reply.Reply.TheVariants.{Viewed, Formed, Newer, Refused, Accepted}
use Rattle.history_spec.specs.Entries.{AreTold, brief_of, event_asked, replayed}
use Rattle.history_spec.specs.Steps.{AcceptedCommit, History, answer, commit, finding_limit}
use Rattle.commit_book.specs.declared.accepted.Accepted.{Accepted as Taken}
use Rattle.commit_book.specs.declared.refusal.BookRefusal.{BookRefusal}
use Rattle.commit_book.specs.declared.refusal.BookRefusal.TheVariants.{LogFull, NoMemory}
use Rattle.commit_book.specs.declared.told.Told.{Told}

-- how many entries a book may have
abbrev pub entry_limit : ℕ
entry_limit = 1000000

-- a book is seen as the cell with which it was opened, and its entries
pub record BookState : Type 0 where
  pub opening : Cell
  pub entries : List Entry

abbrev pub book_state : Cell → List Entry → BookState
book_state c entries = record { opening = c; entries = entries }

-- the state of the history that its entries leave
abbrev pub history_of : BookState → History
history_of book = replayed book.opening book.entries

-- the answer of a book to a commit
abbrev pub answer_to : BookState → ℕ → GuardedEdits → Reply
answer_to book base set = answer (history_of book) (commit base set.edits set.guards)

-- an accepted commit without its guards
abbrev pub commit_of : Taken → AcceptedCommit
commit_of taken = record { desk = taken.desk; edits = taken.set.edits }

abbrev pub set_in : Taken → GuardedEdits
set_in taken = taken.set

abbrev pub touched_in : Taken → List Key
touched_in taken = taken.touched

-- the edit set of an entry whose answer accepts it
abbrev pub accepted_by : Asked → Brief → Option GuardedEdits
accepted_by View told = None
accepted_by (Faulty fault) told = None
accepted_by (Commit base set) (brief.Viewed number findings) = None
accepted_by (Commit base set) (brief.Formed fault) = None
accepted_by (Commit base set) (brief.Newer number name desk) = None
accepted_by (Commit base set) (brief.Refused refusal) = None
accepted_by (Commit base set) (brief.Accepted number findings) = Some set

abbrev pub accepted_in : Entry → Option GuardedEdits
accepted_in e = accepted_by e.asked e.brief

-- the edit sets that entries accept, in their order
abbrev pub accepted_sets : List Entry → List GuardedEdits
accepted_sets = filter_map accepted_in

-- the edit sets of commits, each for a level of national texts
pub record AreSetsOf (level : ℕ) (commits : List AcceptedCommit) (sets : List GuardedEdits) : Type 0 where
  pub edits : map (λ (set : GuardedEdits). set.edits) sets ≡ map (λ (accepted : AcceptedCommit). accepted.edits) commits
  pub levels : All (λ (set : GuardedEdits). set.nall ≡ level) sets

-- each edit has a line
abbrev pub HaveLines : GuardedEdits → Type 0
HaveLines set = All (λ (edit : Edit). has_line edit ≡ true) set.edits

-- an accepted commit at the cell that it found: that cell can be written, the edits find their records there, and the keys kept are those that
-- they touch there
pub record IsTakenAt (c : Cell) (taken : Taken) : Type 0 where
  pub writable : IsWritable c
  pub found : FindTheirRecords taken.set.edits c
  pub touched : taken.touched ≡ touched_keys taken.set.edits c

-- accepted commits from a cell on, each at the cell that those before it leave
abbrev pub AreTakenFrom : Cell → List Taken → Type 0
AreTakenFrom c [] = Unit {0}
AreTakenFrom c (taken ∷ more) = IsTakenAt c taken × AreTakenFrom (apply_edits taken.set.edits c) more

-- each entry has the answer at its point; the cell and the accepted commits are those that the entries leave, and each of these commits is for
-- the opening's level of national texts, with edits that have lines, and was taken at the cell that those before it leave
pub record IsKept (c : Cell) (entries : List Entry) (cell : Cell) (accepted : List Taken) : Type 0 where
  pub told : AreTold c entries
  pub cell_is : cell ≡ (replayed c entries).cell
  pub commits_are : map commit_of accepted ≡ (replayed c entries).commits
  pub sets_are : map set_in accepted ≡ accepted_sets entries
  pub levels : All (λ (taken : Taken). taken.set.nall ≡ c.head.nall) accepted
  pub lines : All HaveLines (accepted_sets entries)
  pub taken : AreTakenFrom c accepted
  pub few : length accepted ≤ length entries
  pub within : length entries ≤ entry_limit

-- a book that was opened has no entries, and its cell is within the limit of findings
pub record IsOpened (c : Cell) (book : BookState) : Type 0 where
  pub state : book ≡ book_state c []
  pub few : finding_total c ≤ finding_limit

abbrev pub entry_of : ℕ → Asked → Brief → Entry
entry_of desk asked brief = record { desk = desk; asked = asked; brief = brief }

-- one entry more: what a desk asked, with the answer at this point
pub record IsEntered (old : BookState) (desk : ℕ) (asked : Asked) (new : BookState) (reply : Reply) : Type 0 where
  pub opening : new.opening ≡ old.opening
  pub reply_is : reply ≡ answer (history_of old) (event_asked asked)
  pub entries : new.entries ≡ old.entries ++ entry_of desk asked (brief_of reply) ∷ []

-- nothing is entered where there are as many entries as there may be, or where memory runs out
abbrev pub IsBookRefusal : List Entry → BookRefusal → Type 0
IsBookRefusal entries LogFull = length entries ≡ entry_limit
IsBookRefusal entries NoMemory = Unit {0}

-- there are as many entries as there may be
pub record IsFull (entries : List Entry) (why : BookRefusal) : Type 0 where
  pub why_is : why ≡ LogFull
  pub full : length entries ≡ entry_limit

-- the news of an answer: the edit sets that were accepted after a base, where the base moves
abbrev pub news_of : Reply → ℕ → List GuardedEdits → List GuardedEdits
news_of (Viewed number findings) base sets = drop base sets
news_of (Formed fault) base sets = []
news_of (Newer number name desk edit) base sets = []
news_of (Refused refusal) base sets = []
news_of (Accepted number findings) base sets = drop base sets

abbrev pub IsNews : ℕ → BookState → Told → Type 0
IsNews base new told = told.news ≡ news_of told.reply base (accepted_sets new.entries)

-- edit sets, where an answer accepts the last of them
abbrev pub sets_told : Reply → List GuardedEdits → List GuardedEdits
sets_told (Viewed number findings) sets = []
sets_told (Formed fault) sets = []
sets_told (Newer number name desk edit) sets = []
sets_told (Refused refusal) sets = []
sets_told (Accepted number findings) sets = sets

-- the answer tells of a newer commit
abbrev pub IsNewer : Reply → Type 0
IsNewer (Viewed number findings) = ⊥
IsNewer (Formed fault) = ⊥
IsNewer (Newer number name desk edit) = Unit {0}
IsNewer (Refused refusal) = ⊥
IsNewer (Accepted number findings) = ⊥

-- the answer is one to a commit
abbrev pub IsVerdict : Reply → Type 0
IsVerdict (Viewed number findings) = ⊥
IsVerdict (Formed fault) = ⊥
IsVerdict (Newer number name desk edit) = Unit {0}
IsVerdict (Refused refusal) = Unit {0}
IsVerdict (Accepted number findings) = Unit {0}

-- the answer leaves the cell and the accepted commits as they are
abbrev pub LeavesCommits : Reply → Type 0
LeavesCommits (Viewed number findings) = Unit {0}
LeavesCommits (Formed fault) = Unit {0}
LeavesCommits (Newer number name desk edit) = Unit {0}
LeavesCommits (Refused refusal) = Unit {0}
LeavesCommits (Accepted number findings) = ⊥
