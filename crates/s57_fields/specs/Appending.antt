-- What a writer that was refused memory leaves of the bytes before.
use Rattle.std.specs.Prelude.{◌≡◌, ℕ, List, length, take}

-- whatever was appended, the bytes before are still there
abbrev pub KeepsFront : List ℕ → List ℕ → Type 0
KeepsFront old new = take (length old) new ≡ old
