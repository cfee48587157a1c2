-- A sorted table as a list of rows, each a key and a value. The rules are this project's own.
-- `cmp` is the order of the keys.
use Rattle.std.specs.Prelude.{◌≡◌, ℕ, ◌<◌, ◌≤◌, suc, List, [], ◌∷◌, length, take, drop, Option, Bool, false}
use Rattle.std.specs.declared.cmp.Ordering.{Ordering}
use Rattle.std.specs.declared.cmp.Ordering.TheVariants.{Less, Equal, Greater}
use Rattle.std.specs.Ordering.{is_eq, is_le, is_lt, match_ordering}
use Rattle.std.specs.List.{prefix_len, AllByRecursion, AllZip, HoldsAt}
use Rattle.std.specs.List.Sorted.{IsStrictlySortedBy}
use Rattle.std.specs.Map.{keys_of, lookup, remove_entry}

-- what a table is seen as: its rows, and for how many new keys memory is reserved
pub record Table (K V : Type 0) : Type 0 where
  pub rows : List (K × V)
  pub spare : ℕ

-- what a run of rows in one vector is seen as: its rows, and for how many it has memory
pub record Run (K V : Type 0) : Type 0 where
  pub rows : List (K × V)
  pub room : ℕ

module _ {K V : Type 0} (cmp : K → K → Ordering) where
  -- each key is below the keys after it, so that no key stands twice
  abbrev pub IsAscending : List (K × V) → Type 0
  IsAscending rows = IsStrictlySortedBy cmp (keys_of rows)

  -- the value of the key, if a row has it
  abbrev pub value_of : List (K × V) → K → Option V
  value_of rows key = lookup (λ k. is_eq (cmp k key)) rows

  -- the rows with this one: in place of the row that has its key, else before the first row with a greater key
  abbrev pub with_row : List (K × V) → K → V → List (K × V)
  with_row [] key value = (key, value) ∷ []
  with_row (row ∷ rows) key value = match_ordering (cmp row.0 key) (row ∷ with_row rows key value) ((key, value) ∷ rows) ((key, value) ∷ row ∷ rows)

  -- the rows without the one that has the key
  abbrev pub without_key : List (K × V) → K → List (K × V)
  without_key rows key = remove_entry (λ k. is_eq (cmp k key)) rows

  -- the place of the first row whose key is not below this one, or the number of rows
  abbrev pub lower_bound : List (K × V) → K → ℕ
  lower_bound rows key = prefix_len (λ row. is_lt (cmp row.0 key)) rows

-- whether the first row has a key that is not above this one
abbrev pub begins_by : {K V : Type 0} → (K → K → Ordering) → List (K × V) → K → Bool
begins_by cmp [] key = false
begins_by cmp (row ∷ rows) key = is_le (cmp row.0 key)

-- the copies have the same keys in the same order, and a clone of each value
abbrev pub AreCopies : {K V : Type 0} → (V → V → Type 0) → List (K × V) → List (K × V) → Type 0
AreCopies clones rows copies = AllZip (λ row copied. (copied.0 ≡ row.0) × clones row.1 copied.1) rows copies

-- every key of the rows stands to the key as the answer says
abbrev pub EachKeyIs : {K V : Type 0} → (K → K → Ordering) → Ordering → K → List (K × V) → Type 0
EachKeyIs cmp answer key rows = AllByRecursion (λ row. cmp row.0 key ≡ answer) rows

-- the row at the place has the key
pub record IsRowAt {K V : Type 0} (cmp : K → K → Ordering) (rows : List (K × V)) (key : K) (place : ℕ) : Type 0 where
  pub in_range : place < length rows
  pub below : EachKeyIs cmp Less key (take place rows)
  pub same : HoldsAt (λ row. cmp row.0 key ≡ Equal) rows place
  pub above : EachKeyIs cmp Greater key (drop (suc place) rows)

-- no row has the key, and one that has it goes to the place
pub record IsGapAt {K V : Type 0} (cmp : K → K → Ordering) (rows : List (K × V)) (key : K) (place : ℕ) : Type 0 where
  pub in_range : place ≤ length rows
  pub below : EachKeyIs cmp Less key (take place rows)
  pub above : EachKeyIs cmp Greater key (drop place rows)
