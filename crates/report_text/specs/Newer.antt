-- The words of a commit that clashes with a newer one. This project's own text.
use Rattle.std.specs.Prelude.{ℕ, List, [], ◌∷◌, ◌++◌, codes}
use Rattle.std.specs.Fmt.{decimal}
use Rattle.s57_types.specs.declared.name.RecName.{RecName}
use Rattle.text_spec.specs.CellText.{name_words}

-- the number of the newer commit, the record's name, and the desk
abbrev pub newer_words : ℕ → RecName → ℕ → List (List ℕ)
newer_words number name desk = codes "newer" ∷ decimal number ∷ name_words name ++ (codes "desk" ∷ decimal desk ∷ [])
