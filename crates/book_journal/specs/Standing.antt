-- A journal between two calls, and what its commits are refused for. This project's own rules.
use Rattle.std.specs.Prelude.{◌≡◌, ℕ, ◌+◌, ◌*◌, ◌<◌, ◌^◌, true, false, List, length, Option, IfSome}
use Rattle.enc_outside.specs.Count.{Rose}
use Rattle.cell_bench.specs.Benches.{PreparedCommit}
use Rattle.history_spec.specs.declared.entry.Asked.TheVariants.{Commit}
use Rattle.history_spec.specs.declared.reply.Reply.{Reply}
use Rattle.commit_book.specs.Books.{IsEntered, entry_limit, history_of}
use Rattle.book_journal.specs.Entries.{text_limit}
use Rattle.book_journal.specs.Journals.{IsAcceptance}
use Rattle.book_journal.specs.Keeping.{IsStanding}
use Rattle.book_journal.specs.Parts.{text_asked}
use Rattle.book_journal.specs.declared.journal.Journal.{Journal}
use Rattle.book_journal.specs.declared.refusal.KeepRefusal.{KeepRefusal}
use Rattle.book_journal.specs.declared.refusal.KeepRefusal.TheVariants.{DiskFault, Broken, EntryTooLong, LogFull, NoMemory}

-- the greatest length of an entry
abbrev pub entry_size : ℕ
entry_size = 16777225

-- where the disk tells its bytes, and no call of the journal ended in a fault of it, they are the list of the book's commits, and all of it is kept
pub record IsStill {D : Type 0} (content : D → Option (List ℕ)) (images : D → List ℕ → Type 0) (journal : Journal D) : Type 0 where
  pub room : journal.end < 2 ^ 63 + entry_size * (length journal.book.entries + 1)
  pub standing : journal.broken ≡ false
      → IfSome (content journal.disk.now) (IsStanding journal.book.opening (history_of journal.book).commits journal.end (images journal.disk.now))

-- after a fault of the disk the book has the commit, which is accepted, and the journal is to be opened again
pub record IsFaulted {D : Type 0} (faults : D → ℕ) (desk : ℕ) (prepared : PreparedCommit) (old new : Journal D) : Type 0 where
  pub rose : Rose (faults old.disk.now) (faults new.disk.now)
  pub reply : Reply
  pub entered : IsEntered old.book desk (Commit prepared.base prepared.edits) new.book reply
  pub accepted : IsAcceptance reply
  pub broken : new.broken ≡ true

-- nothing is changed
pub record IsUnchanged {D : Type 0} (old new : Journal D) : Type 0 where
  pub book : new.book ≡ old.book
  pub disk : new.disk.now ≡ old.disk.now
  pub broken : new.broken ≡ old.broken

-- why a commit isn't kept, and what that leaves
abbrev pub IsKeepRefusal : {D : Type 0} → (D → ℕ) → ℕ → PreparedCommit → Journal D → Journal D → KeepRefusal → Type 0
IsKeepRefusal faults desk prepared old new DiskFault = IsFaulted faults desk prepared old new
IsKeepRefusal faults desk prepared old new Broken = (old.broken ≡ true) × IsUnchanged old new
IsKeepRefusal faults desk prepared old new (EntryTooLong bytes) =
    (text_limit < length (text_asked prepared)) × (bytes ≡ length (text_asked prepared)) × IsUnchanged old new
IsKeepRefusal faults desk prepared old new LogFull = (length old.book.entries ≡ entry_limit) × IsUnchanged old new
IsKeepRefusal faults desk prepared old new NoMemory = IsUnchanged old new
