-- The runs of the blocks, and the rows that they are seen as.
use Rattle.std.proofs.Common.{◌≡◌, ℕ, suc, ◌<◌, ◌≤◌, List, [], ◌∷◌, ◌++◌, length, set, insert, remove, take, drop, get_or, refl, sym, ap, subst, ◌∙◌, arith}
use Rattle.std.proofs.Common.{All, Option, Some, None, is_some, IfNone, OnSome, false, true, true≢false, Bor}
use Rattle.std.specs.Option.{option_copied}
use Rattle.std.proofs.lemmas.List.{map-set, get_or-map, length-map, map-append, take-map, drop-map}
use Rattle.std.proofs.lemmas.List.Elements.{All-set, All-append, All-cons, All-take, All-drop, All-push}
use Rattle.std.proofs.lemmas.Grind.{get_or-set_at}
use Rattle.row_spec.specs.Rows.{Run}
use Rattle.row_spec.specs.Blocks.{rows_of, block_at, replaced, IsFilled, IsEmptyRun}

module _ {K V : Type 0} (runs : List (Run K V)) (place : ℕ) (in_blocks : place < length (rows_of runs)) where
  pub in_runs : place < length runs
  in_runs = omega (arith, length-map runs (λ run. run.rows))

  pub block_at-rows_of : (run : Run K V) → run ≡ get_or runs place run → block_at (rows_of runs) place ≡ run.rows
  block_at-rows_of run is = get_or-map (λ run. run.rows) runs place run [] in_runs ∙ ap (λ run. run.rows) (sym is)

  pub filled_at : (run : Run K V) → run ≡ get_or runs place run → All IsFilled runs → IsFilled run
  filled_at run is filled = subst IsFilled (sym is) (filled place run in_runs)

pub rows_of-set : {K V : Type 0} (runs : List (Run K V)) (place : ℕ) (run : Run K V) → rows_of (set runs place run) ≡ set (rows_of runs) place run.rows
rows_of-set runs place run = map-set (λ run. run.rows) runs place run

pub rows_of-insert : {K V : Type 0} (runs : List (Run K V)) (place : ℕ) (run : Run K V) → rows_of (insert runs place run) ≡ insert (rows_of runs) place run.rows
rows_of-insert runs place run = map-append (λ run. run.rows) (take place runs) (run ∷ drop place runs)
    ∙ rw (take-map (λ (run : Run _ _). run.rows) place runs, drop-map (λ (run : Run _ _). run.rows) place runs) refl

pub rows_of-remove : {K V : Type 0} (runs : List (Run K V)) (place : ℕ) → rows_of (remove runs place) ≡ remove (rows_of runs) place
rows_of-remove runs place = map-append (λ run. run.rows) (take place runs) (drop (suc place) runs)
    ∙ rw (take-map (λ (run : Run _ _). run.rows) place runs, drop-map (λ (run : Run _ _). run.rows) (suc place) runs) refl

pub filled_set : {K V : Type 0} (runs : List (Run K V)) (place : ℕ) (run : Run K V) → All IsFilled runs → 0 < length run.rows
    → length run.rows ≤ 256 → 256 ≤ run.room → All IsFilled (set runs place run)
filled_set runs place run filled some few room = All-set IsFilled runs place run (record { some = some; few = few; room = room }) filled

-- what is asked where there is no value holds where there is none
pub none_holds : {V : Type 0} (P : Type 0) (o : Option V) → is_some o ≡ false → IfNone o P → P
none_holds P None none asked = asked
none_holds P (Some value) none asked = absurd (true≢false none)

pub filled_remove : {K V : Type 0} (runs : List (Run K V)) (place : ℕ) → All IsFilled runs → All IsFilled (remove runs place)
filled_remove runs place filled = All-append IsFilled (take place runs) (drop (suc place) runs) (All-take IsFilled place runs filled)
    (All-drop IsFilled (suc place) runs filled)

pub nil_from_length : {X : Type 0} (xs : List X) → length xs ≡ 0 → xs ≡ []
nil_from_length [] none = refl
nil_from_length (x ∷ xs) none = absurd (omega arith)

-- a change that leaves rows keeps the block in its place
pub replaced_some : {X : Type 0} (blocks : List (List X)) (place : ℕ) (rows : List X) → 0 < length rows → replaced blocks place rows ≡ set blocks place rows
replaced_some blocks place [] some = absurd (omega arith)
replaced_some blocks place (row ∷ rows) some = refl

-- one that leaves none takes it out
pub replaced_none : {X : Type 0} (blocks : List (List X)) (place : ℕ) (rows : List X) → length rows ≡ 0 → replaced blocks place rows ≡ remove blocks place
replaced_none blocks place [] none = refl
replaced_none blocks place (row ∷ rows) none = absurd (omega arith)

-- a run of the reserve that takes the place of what stood in the list
pub emptied : {K V : Type 0} (runs : List (Run K V)) (place : ℕ) (run taken : Run K V) → place < length runs
    → taken ≡ get_or (set runs place run) place taken → taken ≡ run
emptied runs place run taken in_range is = is ∙ get_or-set_at runs place place run taken refl in_range

pub empty_push : {K V : Type 0} (free : List (Run K V)) (run : Run K V) → All IsEmptyRun free → length run.rows ≡ 0 → 256 ≤ run.room
    → All IsEmptyRun (free ++ run ∷ [])
empty_push free run empty none room = All-push IsEmptyRun free run empty (record { none = nil_from_length run.rows none; room = room })

pub filled_insert : {K V : Type 0} (runs : List (Run K V)) (place : ℕ) (run : Run K V) → All IsFilled runs → 0 < length run.rows
    → length run.rows ≤ 256 → 256 ≤ run.room → All IsFilled (insert runs place run)
filled_insert runs place run filled some few room =
    All-append IsFilled (take place runs) (run ∷ drop place runs) (All-take IsFilled place runs filled)
    (All-cons IsFilled run (drop place runs) (record { some = some; few = few; room = room }) (All-drop IsFilled place runs filled))

-- no rows are those of no run
pub nil_from_rows : {K V : Type 0} (runs : List (Run K V)) → rows_of runs ≡ [] → runs ≡ []
nil_from_rows runs none = nil_from_length runs (sym (length-map runs (λ run. run.rows)) ∙ ap length none)

-- each block has a row
pub some_row : {K V : Type 0} (runs : List (Run K V)) → All IsFilled runs → (k : ℕ) → k < length (rows_of runs) → 0 < length (block_at (rows_of runs) k)
some_row [] filled k lt = absurd (omega arith)
some_row (run ∷ runs) filled k lt =
    let at : block_at (rows_of (run ∷ runs)) k ≡ (get_or (run ∷ runs) k run).rows =
    get_or-map (λ r. r.rows) (run ∷ runs) k run [] (in_runs (run ∷ runs) k lt) in
    rw at (filled k run (in_runs (run ∷ runs) k lt)).some

-- nothing is asked where there is a value
pub some_asks_nothing : {V : Type 0} (P : Type 0) (o : Option V) → is_some o ≡ true → IfNone o P
some_asks_nothing P None some = absurd (true≢false (sym some))
some_asks_nothing P (Some value) some = tt

pub is_some-copied : {V : Type 0} (o : Option (Bor V)) → is_some (option_copied o) ≡ is_some o
is_some-copied None = refl
is_some-copied (Some value) = refl

-- and no more than 256
pub few_rows : {K V : Type 0} (runs : List (Run K V)) → All IsFilled runs → (k : ℕ) → k < length (rows_of runs) → length (block_at (rows_of runs) k) ≤ 256
few_rows [] filled k lt = absurd (omega arith)
few_rows (run ∷ runs) filled k lt =
    let at : block_at (rows_of (run ∷ runs)) k ≡ (get_or (run ∷ runs) k run).rows =
    get_or-map (λ r. r.rows) (run ∷ runs) k run [] (in_runs (run ∷ runs) k lt) in
    rw at (filled k run (in_runs (run ∷ runs) k lt)).few

-- what follows from what is asked where there is no value
pub none_weaker : {V : Type 0} (P Q : Type 0) (o : Option V) → (P → Q) → IfNone o P → IfNone o Q
none_weaker P Q None weaker asked = weaker asked
none_weaker P Q (Some value) weaker asked = tt

pub none_says_nothing : {V : Type 0} (P : Type 0) (o : Option V) → is_some o ≡ false → OnSome o P
none_says_nothing P None none = tt
none_says_nothing P (Some value) none = absurd (true≢false none)

pub some_says : {V : Type 0} (P : Type 0) (o : Option V) → is_some o ≡ true → OnSome o P → P
some_says P None some said = absurd (true≢false (sym some))
some_says P (Some value) some said = said

pub says_always : {V : Type 0} (P : Type 0) (o : Option V) → P → OnSome o P
says_always P None holds = tt
says_always P (Some value) holds = holds
