-- Pieces of a table that stand one after another, each with its first key. This project's own rules.
use Rattle.std.specs.Prelude.{◌≡◌, ◌<◌, ◌+◌, ◌++◌, ℕ, List, [], ◌∷◌, length, map, drop, All, Option, Some, None}
use Rattle.std.specs.declared.cmp.Ordering.{Ordering}
use Rattle.row_spec.specs.Rows.{IsAscending}
use Rattle.row_spec.specs.Blocks.{joined}

-- the rows of a piece, if there is one
abbrev pub rows_at : {P X : Type 0} → (P → List X) → Option P → List X
rows_at rows None = []
rows_at rows (Some piece) = rows piece

-- the run has the rows from a place on, and as many as it has
pub record IsRunAt {X : Type 0} (rows : List X) (place : ℕ) (run : List X) : Type 0 where
  pub some : 0 < length run
  pub from : drop place rows ≡ run ++ drop (place + length run) rows

-- the first row has this key
abbrev pub BeginsWith : {K V : Type 0} → K → List (K × V) → Type 0
BeginsWith key [] = ⊥
BeginsWith key (row ∷ rows) = row.0 ≡ key

-- the two parts have the rows, both have some, and the upper one begins with the key
pub record AreHalves {K V : Type 0} (rows lower : List (K × V)) (start : K) (upper : List (K × V)) : Type 0 where
  pub some : 0 < length lower
  pub begins : BeginsWith start upper
  pub all : lower ++ upper ≡ rows

-- the rows of each part
abbrev pub blocks_of : {K V : Type 0} → List (K × List (K × V)) → List (List (K × V))
blocks_of parts = map (λ part. part.1) parts

-- all rows, part after part
abbrev pub rows_of : {K V : Type 0} → List (K × List (K × V)) → List (K × V)
rows_of parts = joined (blocks_of parts)

-- each part has rows and stands under its first key
abbrev pub AllBegin : {K V : Type 0} → List (K × List (K × V)) → Type 0
AllBegin parts = All (λ part. BeginsWith part.0 part.1) parts

-- the keys ascend through all parts, and each part has rows and stands under its first key
pub record AreParts {K V : Type 0} (cmp : K → K → Ordering) (parts : List (K × List (K × V))) : Type 0 where
  pub ascending : IsAscending cmp (rows_of parts)
  pub begin : AllBegin parts
