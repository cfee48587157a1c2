-- An entry at the beginning of bytes. This project's own.
use Rattle.std.specs.Prelude.{◌≡◌, ℕ, ◌<◌, ◌^◌, List, ◌∷◌, ◌++◌, length}
use Rattle.book_journal.specs.Entries.{marked}

-- bytes begin with an entry, which leaves a byte behind it
pub record IsEntryOf (bytes : List ℕ) (desk : ℕ) (text rest : List ℕ) : Type 0 where
  pub bytes_are : bytes ≡ marked desk text ++ rest
  pub desk_fits : desk < 2 ^ 32
  pub text_fits : length text < 2 ^ 32
  pub more : 0 < length rest

-- bytes don't
abbrev pub HasNoEntry : List ℕ → Type 0
HasNoEntry bytes = (desk : ℕ) (text rest : List ℕ) → IsEntryOf bytes desk text rest → ⊥

-- bytes begin with a mark
pub record IsMarked (bytes : List ℕ) : Type 0 where
  pub behind : List ℕ
  pub bytes_are : bytes ≡ 1 ∷ behind
