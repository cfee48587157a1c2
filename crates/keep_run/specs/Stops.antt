-- Why a session over a journal doesn't go on. This project's own rules.
use Rattle.std.specs.Prelude.{◌≡◌, ℕ, Result, Ok, Err}
use Rattle.enc_outside.specs.Count.{Rose}
use Rattle.history_spec.specs.declared.reply.Reply.{Reply}
use Rattle.commit_book.specs.declared.refusal.BookRefusal.{BookRefusal}
use Rattle.commit_book.specs.declared.told.Told.{Told}
use Rattle.book_journal.specs.declared.refusal.KeepRefusal.{KeepRefusal}
use Rattle.book_journal.specs.declared.refusal.KeepRefusal.TheVariants.{DiskFault, NoMemory}

-- a fault of the disk, or out of memory
abbrev pub IsStopOf : KeepRefusal → Type 0
IsStopOf DiskFault = Unit {0}
IsStopOf NoMemory = Unit {0}
IsStopOf other = ⊥

-- the disk failed where its count of faults rose; where memory ran out, no call of it failed
abbrev pub IsStop : ℕ → ℕ → KeepRefusal → Type 0
IsStop before after DiskFault = Rose before after
IsStop before after NoMemory = after ≡ before
IsStop before after other = ⊥

-- the answer of a log
abbrev pub IsReplyOf : Result Told BookRefusal → Reply → Type 0
IsReplyOf (Ok told) reply = reply ≡ told.reply
IsReplyOf (Err why) reply = ⊥
