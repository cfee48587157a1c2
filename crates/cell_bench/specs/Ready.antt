-- Rows that are ready for judging, and those that hold no invalidated key. This project's own rules.
use Rattle.std.specs.Prelude.{◌≡◌, ℕ, Bool, true, List, None, Option, Some, if◌then◌else◌, is_some, map, slice_get, All, Contains, IsTrue, MatchOption}
use Rattle.std.specs.BTreeMap.{BTreeMap, get}
use Rattle.std.specs.List.{IsDistinct, list_any}
use Rattle.std.specs.List.Sorted.{IsStrictlySortedBy}
use Rattle.s57_types.specs.declared.cell.Cell.{Cell}
use Rattle.cell_spec.specs.declared.finding.Row.{Row}
use Rattle.cell_spec.specs.declared.key.Key.{Key}
use Rattle.cell_spec.specs.declared.key.Subject.{Subject}
use Rattle.cell_spec.specs.Names.{key_order, same_key, same_subject, subject_order}
use Rattle.rule_spec.specs.Affected.{exact_row, has_valid_row, is_still_valid}

-- rows, the keys that were invalidated since they were made, and whether they stand in the order of the subjects that they are for
pub record Ready : Type 0 where
  pub rows : List Row
  pub stale : List Key
  pub in_order : Bool

-- what rows are about
abbrev pub subjects_of : List Row → List Subject
subjects_of rows = map (λ (row : Row). row.subject) rows

-- rows that stand in order have one for each of these subjects
abbrev pub AreOf : List Subject → Ready → Type 0
AreOf judged ready = ready.in_order ≡ true → subjects_of ready.rows ≡ judged

-- where rows stand in order, the one at a place is about a subject
abbrev pub IsAt : Ready → ℕ → Subject → Type 0
IsAt ready place s = ready.in_order ≡ true → slice_get (subjects_of ready.rows) place ≡ Some s

-- whether a key is among some
abbrev pub is_in : List Key → Key → Bool
is_in keys k = list_any (same_key k) keys

-- keys that are in some are in others, and the other way round
abbrev pub HaveSameKeys : List Key → List Key → Type 0
HaveSameKeys keys others = (k : Key) → is_in others k ≡ is_in keys k

-- the row at a place is of a subject, and still valid
pub record IsValidAt (stale : List Key) (rows : List Row) (s : Subject) (place : ℕ) : Type 0 where
  pub row : Row
  pub at : slice_get rows place ≡ Some row
  pub about : row.subject ≡ s
  pub valid : is_still_valid stale row ≡ true

-- the places of rows by their subjects: each is that of a valid row, and the valid ones among the first rows have one
pub record ArePlaces (stale : List Key) (rows first : List Row) (places : BTreeMap Subject ℕ) : Type 0 where
  pub valid : (s : Subject) (place : ℕ) → get subject_order places s ≡ Some place → IsValidAt stale rows s place
  pub found : (s : Subject) → is_some (get subject_order places s) ≡ has_valid_row stale first s

-- how the valid rows of subjects are found: by places, or each at the place of its subject, of which no other is. The invalidated keys
-- stand in order, too
pub record AreFound (stale ordered : List Key) (rows : List Row) (places : Option (BTreeMap Subject ℕ)) : Type 0 where
  pub sorted : IsStrictlySortedBy key_order ordered
  pub same : HaveSameKeys stale ordered
  pub by : MatchOption places (IsDistinct same_subject (subjects_of rows)) (ArePlaces stale rows rows)

-- an answer is the row at a place where that is still valid, and none else
abbrev pub IsValidOne : List Key → List Row → ℕ → Option Row → Type 0
IsValidOne stale rows place answer = (row : Row) → slice_get rows place ≡ Some row → answer ≡ (if is_still_valid stale row then Some row else None)

-- a row is one of those that are ready, of this subject and still valid
pub record IsValidRowOf (stale : List Key) (rows : List Row) (s : Subject) (row : Row) : Type 0 where
  pub contained : Contains rows row
  pub about : row.subject ≡ s
  pub valid : is_still_valid stale row ≡ true

-- those that are still valid are right for a cell
abbrev pub AreExact : Cell → List Key → List Row → Type 0
AreExact d stale rows = All (λ (row : Row). IsTrue (is_still_valid stale row) → row ≡ exact_row d row.subject) rows
