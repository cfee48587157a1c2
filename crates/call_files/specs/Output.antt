-- Writing a file.
use Rattle.std.specs.Prelude.{◌≡◌, ◌≢◌, ◌⊎◌, ℕ, ◌≤◌, List, Option, Some, take}
use Rattle.enc_outside.specs.Files.{Files, MayEmpty, StaysUntold}

-- a file has some first bytes now, and the others stay
pub record HasFront (name bytes : List ℕ) (old new : Files) : Type 0 where
  pub left : (n : ℕ) × (new name ≡ Some (take n bytes))
  pub others : (other : List ℕ) → other ≢ name → new other ≡ old other

-- writing a file failed: it wasn't made, and is as it was or empty, or it was made, and has some first bytes now
abbrev pub IsBegun : List ℕ → List ℕ → Files → Files → Type 0
IsBegun name bytes old new = MayEmpty name old new ⊎ HasFront name bytes old new

-- a file store was only written to: what isn't told stays so, no fault is forgotten, and no read failed
pub record OnlyWrites (files files_now : Option Files) (reads reads_now writes writes_now : ℕ) : Type 0 where
  pub untold : StaysUntold files files_now
  pub write_faults : writes ≤ writes_now
  pub read_faults : reads_now ≡ reads
