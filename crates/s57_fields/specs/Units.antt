-- Two-byte units, of which the texts of lexical level 2 are made (S-57 Part 3, 2.4).
use Rattle.std.specs.Prelude.{ℕ, ◌+◌, ◌==◌, ◌&&◌, List, [], ◌∷◌, Option, Some, None, if◌then◌else◌}
use Rattle.std.specs.Option.{option_map}

-- where the first unit of this low byte and the high byte 0 begins
abbrev pub unit_place : ℕ → List ℕ → Option ℕ
unit_place low [] = None
unit_place low (a ∷ []) = None
unit_place low (a ∷ b ∷ rest) = if (a == low) && (b == 0) then Some 0 else option_map (λ i. i + 2) (unit_place low rest)
