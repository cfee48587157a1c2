-- Rows in blocks that stand one after another. This project's own rules.
use Rattle.std.specs.Prelude.{◌≡◌, ℕ, suc, ◌+◌, ◌-◌, ◌*◌, ◌^◌, ◌<◌, ◌≤◌, List, [], ◌∷◌, ◌++◌, length, take, drop, map, slice_index_or, slice_set, remove}
use Rattle.std.specs.declared.cmp.Ordering.{Ordering}
use Rattle.std.specs.declared.cmp.Ordering.TheVariants.{Less, Greater}
use Rattle.row_spec.specs.Rows.{Run, EachKeyIs, AreCopies}

-- all rows, block after block
abbrev pub joined : {X : Type 0} → List (List X) → List X
joined [] = []
joined (block ∷ blocks) = block ++ joined blocks

-- the block at a place
abbrev pub block_at : {X : Type 0} → List (List X) → ℕ → List X
block_at blocks place = slice_index_or blocks place []

-- how many rows the blocks before a place have
abbrev pub rows_before : {X : Type 0} → List (List X) → ℕ → ℕ
rows_before blocks place = length (joined (take place blocks))

-- how many rows stand in the upper halves of the blocks: a split takes 128 of them away, a new row adds one at most
abbrev pub excess : {X : Type 0} → List (List X) → ℕ
excess [] = 0
excess (block ∷ blocks) = (length block - 128) + excess blocks

-- the blocks with these rows in place of a block, which goes where no rows are left
abbrev pub replaced : {X : Type 0} → List (List X) → ℕ → List X → List (List X)
replaced blocks place [] = remove blocks place
replaced blocks place (row ∷ rows) = slice_set blocks place (row ∷ rows)

-- the blocks with a block cut in two after 128 rows
abbrev pub halved : {X : Type 0} → List (List X) → ℕ → List (List X)
halved blocks place = take place blocks ++ take 128 (block_at blocks place) ∷ drop 128 (block_at blocks place) ∷ drop (suc place) blocks

-- what the blocks are seen as: the rows of each, and how many empty ones are held in reserve
pub record BlockList (K V : Type 0) : Type 0 where
  pub blocks : List (List (K × V))
  pub free : ℕ

-- the run has at least one row, no more than 256, and memory for so many
pub record IsFilled {K V : Type 0} (run : Run K V) : Type 0 where
  pub some : 0 < length run.rows
  pub few : length run.rows ≤ 256
  pub room : 256 ≤ run.room

-- the run has no row, and memory for 256
pub record IsEmptyRun {K V : Type 0} (run : Run K V) : Type 0 where
  pub none : run.rows ≡ []
  pub room : 256 ≤ run.room

-- the rows of each run
abbrev pub rows_of : {K V : Type 0} → List (Run K V) → List (List (K × V))
rows_of runs = map (λ run. run.rows) runs

-- each start is the number of rows before its block, and all rows can be counted
pub record AreStarts {X : Type 0} (blocks : List (List X)) (starts : List ℕ) : Type 0 where
  pub count : length starts ≡ length blocks
  pub start : (place : ℕ) → place < length blocks → slice_index_or starts place 0 ≡ rows_before blocks place
  pub fits : length (joined blocks) < 2 ^ 64

-- there is memory for every block with rows and every one in reserve
abbrev pub HasRoom : ℕ → ℕ → ℕ → ℕ → ℕ → Type 0
HasRoom blocks free first second third = (blocks + free ≤ first) × (blocks + free ≤ second) × (blocks + free ≤ third)

-- the key's row stands in the block at this place, or goes there
pub record IsBlockFor {K V : Type 0} (cmp : K → K → Ordering) (blocks : List (List (K × V))) (key : K) (place : ℕ) : Type 0 where
  pub in_range : place < length blocks
  pub below : EachKeyIs cmp Less key (joined (take place blocks))
  pub above : EachKeyIs cmp Greater key (joined (drop (suc place) blocks))

-- the row at a place among all rows stands in this block
pub record IsBlockAt {X : Type 0} (blocks : List (List X)) (place block : ℕ) : Type 0 where
  pub in_range : block < length blocks
  pub from : rows_before blocks block ≤ place
  pub to : place < rows_before blocks block + length (block_at blocks block)

-- how much of the reserve, in halves of blocks, new rows can use before others have to come: the first block needs a whole one
abbrev pub claim_of : {X : Type 0} → List (List X) → ℕ
claim_of [] = 127
claim_of (block ∷ blocks) = excess (block ∷ blocks)

-- the empty blocks in reserve serve for this many new keys: one for each, or else one for each 128 that come to the upper halves
abbrev pub IsCovered : {X : Type 0} → List (List X) → ℕ → ℕ → Type 0
IsCovered blocks free spare = free < spare → claim_of blocks + spare ≤ 128 * free

-- a copy of a run, with memory for 256 rows
pub record AreRunCopies {K V : Type 0} (clones : V → V → Type 0) (run copied : Run K V) : Type 0 where
  pub rows : AreCopies clones run.rows copied.rows
  pub room : 256 ≤ copied.room
