-- The entry of a prepared commit. This project's own.
use Rattle.std.specs.Prelude.{◌≡◌, ℕ, ◌<◌, ◌≤◌, List, [], ◌∷◌, ◌++◌, length}
use Rattle.cell_bench.specs.Benches.{PreparedCommit}
use Rattle.history_spec.specs.Steps.{AcceptedCommit}
use Rattle.book_journal.specs.Entries.{edit_lines, entry_part, text_limit}
use Rattle.book_journal.specs.declared.refusal.KeepRefusal.{KeepRefusal}
use Rattle.book_journal.specs.declared.refusal.KeepRefusal.TheVariants.{DiskFault, Broken, EntryTooLong, LogFull, NoMemory}

-- the text of a prepared commit's edits
abbrev pub text_asked : PreparedCommit → List ℕ
text_asked prepared = edit_lines prepared.edits.edits

-- the commit that a desk asks for
abbrev pub commit_asked : ℕ → PreparedCommit → AcceptedCommit
commit_asked desk prepared = record { desk = desk; edits = prepared.edits.edits }

-- what stands behind the mark of its entry, and a byte behind the entry that is no mark
pub record IsPartOf (desk : ℕ) (prepared : PreparedCommit) (part : List ℕ) : Type 0 where
  pub part_is : part ≡ entry_part desk (text_asked prepared) ++ 0 ∷ []
  pub short : length (text_asked prepared) ≤ text_limit

-- why it isn't made
abbrev pub IsPartRefusal : PreparedCommit → KeepRefusal → Type 0
IsPartRefusal prepared DiskFault = ⊥
IsPartRefusal prepared Broken = ⊥
IsPartRefusal prepared (EntryTooLong bytes) = (text_limit < length (text_asked prepared)) × (bytes ≡ length (text_asked prepared))
IsPartRefusal prepared LogFull = ⊥
IsPartRefusal prepared NoMemory = Unit {0}

-- the text is over the limit, or memory is out, or an earlier call ended in a fault of the disk
abbrev pub IsTooLongOrOut : KeepRefusal → Type 0
IsTooLongOrOut DiskFault = ⊥
IsTooLongOrOut Broken = Unit {0}
IsTooLongOrOut (EntryTooLong bytes) = Unit {0}
IsTooLongOrOut LogFull = ⊥
IsTooLongOrOut NoMemory = Unit {0}

-- the book is full, or memory is out
abbrev pub IsFullOrOut : KeepRefusal → Type 0
IsFullOrOut DiskFault = ⊥
IsFullOrOut Broken = ⊥
IsFullOrOut (EntryTooLong bytes) = ⊥
IsFullOrOut LogFull = Unit {0}
IsFullOrOut NoMemory = Unit {0}
