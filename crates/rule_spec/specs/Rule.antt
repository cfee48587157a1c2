-- What a rule gives: the numbers of each of its findings.
use Rattle.std.specs.Prelude.{ℕ, Bool, List, [], ◌∷◌, Option, None, Some, map, filter, if◌then◌else◌}
use Rattle.std.specs.List.{enumerate_from}

-- the numbers of each finding, ascending
abbrev pub Found : Type 0
Found = List (List ℕ)

-- one finding with these numbers where the test holds
abbrev pub found_if : Bool → List ℕ → Found
found_if test nums = if test then nums ∷ [] else []

-- one finding with the number that there is, if there is one
abbrev pub found_at : Option ℕ → Found
found_at None = []
found_at (Some k) = (k ∷ []) ∷ []

-- the places, counted from a number on, of the items that pass a test
abbrev pub places_from : {X : Type 0} → (X → Bool) → ℕ → List X → Found
places_from {X} test first xs = map (λ (item : ℕ × X). item.0 ∷ []) (filter (λ (item : ℕ × X). test item.1) (enumerate_from first xs))

-- the places, from 1
abbrev pub places_where : {X : Type 0} → (X → Bool) → List X → Found
places_where test xs = places_from test 1 xs
