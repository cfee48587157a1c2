-- What the writing of an entry leaves at each moment. This project's own.
use Rattle.std.specs.Prelude.{◌≡◌, ◌⊎◌, ℕ, ◌+◌, List, ◌∷◌, ◌++◌, length, take, drop}
use Rattle.enc_outside.specs.Count.{Rose}
use Rattle.book_journal.specs.declared.refusal.OpenRefusal.{OpenRefusal}
use Rattle.book_journal.specs.declared.refusal.OpenRefusal.TheVariants.{BadJournal, DiskFault, JournalFull, FindingsFull, NoMemory}

-- a file with a byte at a place, and behind it the part of an entry
abbrev pub with_part : List ℕ → ℕ → ℕ → List ℕ → List ℕ
with_part file end mark part = take end file ++ mark ∷ (part ++ drop (end + 1 + length part) file)

-- a file with an entry that begins at a place
abbrev pub with_entry : List ℕ → ℕ → List ℕ → List ℕ
with_entry file end part = with_part file end 1 part

-- up to the place where the list ended the file is as it was, the byte there too; or all of the entry stands behind some byte
abbrev pub IsTornEntry : List ℕ → ℕ → List ℕ → List ℕ → Type 0
IsTornEntry file end part image = (take (end + 1) image ≡ take (end + 1) file) ⊎ ((mark : ℕ) × (image ≡ with_part file end mark part))

-- a disk isn't read because of a fault, or because memory is out, and then no call of it failed
abbrev pub IsReadRefusal : ℕ → ℕ → OpenRefusal → Type 0
IsReadRefusal before after (BadJournal place) = ⊥
IsReadRefusal before after DiskFault = Rose before after
IsReadRefusal before after (JournalFull count) = ⊥
IsReadRefusal before after FindingsFull = ⊥
IsReadRefusal before after NoMemory = after ≡ before
