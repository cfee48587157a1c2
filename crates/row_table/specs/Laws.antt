-- What holds of the definitions of a table, for every order of the keys. This project's own rules.
use Rattle.std.specs.Prelude.{◌≡◌, ℕ, ◌+◌, ◌<◌, ◌↔◌, List, length, Some, None, is_some, if◌then◌else◌, slice_get, IsTrue}
use Rattle.std.specs.declared.cmp.Ordering.{Ordering}
use Rattle.std.specs.Ordering.{is_eq, is_lt}
use Rattle.row_spec.specs.Rows.{IsAscending, value_of, with_row, without_key, lower_bound, AreCopies}

module _ (K V : Type 0) (cmp : K → K → Ordering) where
  -- a put changes the value of its key and of no other
  abbrev pub PutSetsOneKey : Type 0
  PutSetsOneKey = (rows : List (K × V)) (key asked : K) (value : V) → value_of cmp (with_row cmp rows key value) asked ≡
      (if is_eq (cmp key asked) then Some value else value_of cmp rows asked)

  -- a removal takes the value of its key and of no other
  abbrev pub TakeClearsOneKey : Type 0
  TakeClearsOneKey = (rows : List (K × V)) (key asked : K) → IsAscending cmp rows
      → value_of cmp (without_key cmp rows key) asked ≡ (if is_eq (cmp key asked) then None else value_of cmp rows asked)

  -- both keep the keys ascending
  pub record ChangesKeepOrder : Type 0 where
    pub put : (rows : List (K × V)) (key : K) (value : V) → IsAscending cmp rows → IsAscending cmp (with_row cmp rows key value)
    pub take : (rows : List (K × V)) (key : K) → IsAscending cmp rows → IsAscending cmp (without_key cmp rows key)

  -- a put adds a row for a new key alone, and a removal takes one for a key that is there
  pub record ChangesCountRows : Type 0 where
    pub put : (rows : List (K × V)) (key : K) (value : V) → IsAscending cmp rows
        → length (with_row cmp rows key value) ≡ length rows + (if is_some (value_of cmp rows key) then 0 else 1)
    pub take : (rows : List (K × V)) (key : K) → length (without_key cmp rows key) + (if is_some (value_of cmp rows key) then 1 else 0) ≡ length rows

  -- each row is the one that its key finds
  abbrev pub EachRowIsFound : Type 0
  EachRowIsFound = (rows : List (K × V)) (place : ℕ) (row : K × V) → IsAscending cmp rows → slice_get rows place ≡ Some row
      → value_of cmp rows row.0 ≡ Some row.1

  -- the places below a key's lower bound are those of the keys below it
  abbrev pub LowerBoundParts : Type 0
  LowerBoundParts = (rows : List (K × V)) (place : ℕ) (row : K × V) (key : K) → IsAscending cmp rows → slice_get rows place ≡ Some row
      → IsTrue (is_lt (cmp row.0 key)) ↔ (place < lower_bound cmp rows key)

-- copies are the rows themselves where each clone of a value is that value
abbrev pub CopiesAreSame : (K V : Type 0) → (V → V → Type 0) → Type 0
CopiesAreSame K V clones = (rows copies : List (K × V)) → ((value cloned : V) → clones value cloned → cloned ≡ value)
    → AreCopies clones rows copies → copies ≡ rows
