-- What is read of a file fits its types. This project's own rules.
use Rattle.std.specs.Prelude.{◌≡◌, ◌<◌, ℕ, List, Ok, All}
use Rattle.s57_types.specs.declared.cell.Cell.{Cell}
use Rattle.file_spec.specs.DecodedCell.{decoded_cell}
use Rattle.file_spec.specs.RoundTrip.{HasItsTypes}

-- the bytes of a file
abbrev pub AreFileBytes : List ℕ → Type 0
AreFileBytes b = All (λ x. x < 256) b

-- a cell that a file stands for has numbers that fit their types, and dates and editions of their length
abbrev pub DecodedHasItsTypes : Type 0
DecodedHasItsTypes = (b : List ℕ) (c : Cell) → AreFileBytes b → decoded_cell b ≡ Ok c → HasItsTypes c
