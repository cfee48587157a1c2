-- Putting a text that begins so.
use mathlib.Core.List.{IsPrefix}
use Rattle.std.specs.Prelude.{ℕ, List}
use Rattle.whole_files.specs.Output.{Adds}

-- a text was added that begins so
abbrev pub AddsFrom : List ℕ → List ℕ → List ℕ → Type 0
AddsFrom front old new = (text : List ℕ) × Adds text old new × IsPrefix front text
