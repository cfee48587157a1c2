-- Texts cut at a mark. This project's own.
use Rattle.std.specs.Prelude.{◌≡◌, ℕ, ◌==◌, List, [], ◌∷◌, if◌then◌else◌}

-- the bytes before the first mark, or all
abbrev pub before : ℕ → List ℕ → List ℕ
before mark [] = []
before mark (b ∷ text) = if b == mark then [] else b ∷ before mark text

-- the bytes from the first mark on
abbrev pub from : ℕ → List ℕ → List ℕ
from mark [] = []
from mark (b ∷ text) = if b == mark then b ∷ text else from mark text

-- the text is empty or begins with the mark
abbrev pub IsFrom : ℕ → List ℕ → Type 0
IsFrom mark [] = Unit {0}
IsFrom mark (b ∷ text) = b ≡ mark
