-- How many rows of a record are kept: all of them, or so many that the record is too long whatever else it has. A row of a
-- field that may stand several times takes at least 8 bytes.
use Rattle.std.specs.Prelude.{◌≡◌, ◌≤◌, ◌++◌, ℕ, nat_le, List, length, if◌then◌else◌}
use Rattle.cell_read.specs.declared.values.FieldValues.{FieldValues}

abbrev pub row_limit : ℕ
row_limit = 12500

abbrev pub kept_with : {X : Type 0} → List X → List X → List X
kept_with rows more = if nat_le row_limit (length rows) then rows else rows ++ more

-- all rows, or so many that they reach a limit
pub data IsKept {X : Type 0} (limit : ℕ) (kept rows : List X) : Type 0 where
  all : kept ≡ rows → IsKept limit kept rows
  enough : limit ≤ length kept → limit ≤ length rows → IsKept limit kept rows

-- values of which the rows of the fields that may stand several times are kept
pub record AreKept (kept values : FieldValues) : Type 0 where
  pub partners : IsKept row_limit kept.partners values.partners
  pub places : IsKept row_limit kept.places values.places
  pub ends : IsKept row_limit kept.ends values.ends
  pub plane : IsKept row_limit kept.plane values.plane
  pub deep : IsKept row_limit kept.deep values.deep
  pub others : record kept { partners = values.partners; places = values.places; ends = values.ends; plane = values.plane; deep = values.deep } ≡ values
