-- The list of commits that the bytes of a journal stand for, or the place of the first damaged entry. This project's own format.
use Rattle.std.specs.Prelude.{◌≡◌, ◌≢◌, ◌⊎◌, ℕ, ◌<◌, ◌≤◌, List, [], ◌∷◌, ◌++◌, length, None, Result, Ok, Err}
use Rattle.s57_types.specs.declared.cell.Cell.{Cell}
use Rattle.edit_sets.specs.FormFault.{form_fault}
use Rattle.history_spec.specs.declared.reply.Reply.{Reply}
use Rattle.history_spec.specs.declared.reply.Reply.TheVariants.{Viewed, Formed, Newer, Refused, Accepted}
use Rattle.history_spec.specs.Steps.{AcceptedCommit, History, answer, cell_after, commit}
use Rattle.book_journal.specs.Entries.{HasEntry, entry_bytes, list_bytes}

-- the state after accepted commits of a cell, every desk at the newest of them
abbrev pub state_after : Cell → List AcceptedCommit → History
state_after c commits = record { cell = cell_after (length commits) commits c; commits = commits; bases = λ desk. length commits }

abbrev pub IsAcceptance : Reply → Type 0
IsAcceptance (Viewed number findings) = ⊥
IsAcceptance (Formed fault) = ⊥
IsAcceptance (Newer number name desk edit) = ⊥
IsAcceptance (Refused refusal) = ⊥
IsAcceptance (Accepted number findings) = Unit {0}

-- a commit that an entry can hold and whose edits have no fault of form is accepted behind others, where it rests on them all
pub record IsAcceptedBehind (c : Cell) (earlier : List AcceptedCommit) (accepted : AcceptedCommit) : Type 0 where
  pub entry : HasEntry accepted
  pub form : form_fault c.head.nall accepted.edits [] ≡ None
  pub answered : IsAcceptance (answer (state_after c earlier) (commit (length earlier) accepted.edits []))

-- each of commits is accepted behind those before it
abbrev pub AreAcceptedBehind : Cell → List AcceptedCommit → List AcceptedCommit → Type 0
AreAcceptedBehind c earlier [] = Unit {0}
AreAcceptedBehind c earlier (accepted ∷ commits) = IsAcceptedBehind c earlier accepted × AreAcceptedBehind c (earlier ++ accepted ∷ []) commits

-- a file begins with the entries of commits, each accepted behind those before it, and this is the rest of it
pub record IsReadTo (c : Cell) (file : List ℕ) (commits : List AcceptedCommit) (rest : List ℕ) : Type 0 where
  pub bytes_are : file ≡ list_bytes commits ++ rest
  pub accepted : AreAcceptedBehind c [] commits

-- a list ends before a byte that is no mark
abbrev pub IsEnd : List ℕ → Type 0
IsEnd [] = ⊥
IsEnd (byte ∷ rest) = byte ≢ 1

-- a file is the list of these commits, and something behind it
pub record IsListOf (c : Cell) (file : List ℕ) (commits : List AcceptedCommit) : Type 0 where
  pub rest : List ℕ
  pub read : IsReadTo c file commits rest
  pub ends : IsEnd rest

-- the commits of a journal: none where the file has at most one byte, else those of its list
abbrev pub IsJournalOf : Cell → List ℕ → List AcceptedCommit → Type 0
IsJournalOf c file commits = ((length file ≤ 1) × (commits ≡ [])) ⊎ IsListOf c file commits

-- a file of more than one byte has at a place, behind the entries of commits, a mark, and behind that mark no entry of a commit that is accepted
-- there and that leaves a byte behind it
pub record IsDamagedAt (c : Cell) (file : List ℕ) (place : ℕ) : Type 0 where
  pub more : 1 < length file
  pub commits : List AcceptedCommit
  pub rest : List ℕ
  pub read : IsReadTo c file commits (1 ∷ rest)
  pub place_is : place ≡ length (list_bytes commits)
  pub bad : (accepted : AcceptedCommit) (behind : List ℕ) → 1 ∷ rest ≡ entry_bytes accepted ++ behind → 0 < length behind
      → IsAcceptedBehind c commits accepted → ⊥

-- what a journal is read as: its commits, or the place of the first damaged entry
abbrev pub IsReading : Cell → List ℕ → Result (List AcceptedCommit) ℕ → Type 0
IsReading c file (Ok commits) = IsJournalOf c file commits
IsReading c file (Err place) = IsDamagedAt c file place
