-- Lines of words. This project's own texts.
use Rattle.std.specs.Prelude.{ℕ, List, [], ◌∷◌, ◌++◌}
use Rattle.std.specs.List.{flat_map}

-- a word behind a space
abbrev pub spaced : List ℕ → List ℕ
spaced word = 32 ∷ word

-- words behind spaces
abbrev pub spaced_words : List (List ℕ) → List ℕ
spaced_words = flat_map spaced

-- a line: its first word, the others behind spaces, and a line feed
abbrev pub line : List ℕ → List (List ℕ) → List ℕ
line first others = first ++ spaced_words others ++ (10 ∷ [])
