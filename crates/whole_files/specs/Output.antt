-- Putting a text whole. This project's own.
use Rattle.std.specs.Prelude.{◌≡◌, ℕ, List, ◌++◌, take}

-- all bytes were added, or some first bytes
abbrev pub Adds : List ℕ → List ℕ → List ℕ → Type 0
Adds bytes old new = new ≡ old ++ bytes

abbrev pub AddsFront : List ℕ → List ℕ → List ℕ → Type 0
AddsFront bytes old new = (n : ℕ) × (new ≡ old ++ take n bytes)
