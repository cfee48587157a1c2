-- Histories: lists of entries, each of which bears the number of the handle that made it.
use Rattle.std.specs.Prelude.{◌≡◌, ◌⊎◌, ◌==◌, ℕ, List, [], ◌∷◌, ◌++◌, length, filter, map, nat_le, if◌then◌else◌}
use Rattle.turn_gate.specs.declared.view.OwnList.{OwnList}

-- the longer of two histories, the second if they are as long
abbrev pub longer : {E : Type 0} → List E → List E → List E
longer xs ys = if nat_le (length xs) (length ys) then ys else xs

-- the numbers that have an own list
abbrev pub numbers_of : {E : Type 0} → List (OwnList E) → List ℕ
numbers_of own = map (λ o. o.number) own

-- an own list, with these entries more if it is that of the number n
abbrev pub extended : {E : Type 0} → ℕ → List E → OwnList E → OwnList E
extended n added o = if o.number == n then record o { entries = o.entries ++ added } else o

module _ {E : Type 0} (number : E → ℕ) where
  -- the entries of a history that bear the number n
  abbrev pub entries_by : ℕ → List E → List E
  entries_by n history = filter (λ e. number e == n) history

  -- the own list has its number's entries of the history: all of them, each once, in order
  abbrev pub IsExact : List E → OwnList E → Type 0
  IsExact history o = o.entries ≡ entries_by o.number history

  -- the own list that is exact
  abbrev pub exact_list : List E → OwnList E → OwnList E
  exact_list history o = record o { entries = entries_by o.number history }

  -- no entry, or one of the number n
  abbrev pub IsAtMostOne : ℕ → List E → Type 0
  IsAtMostOne n added = (added ≡ []) ⊎ ((e : E) × (number e ≡ n) × (added ≡ e ∷ []))

  -- the history stays as it was, or gets one entry more, of the number n
  abbrev pub Appends : ℕ → List E → List E → Type 0
  Appends n before after = (added : List E) × IsAtMostOne n added × (after ≡ before ++ added)
