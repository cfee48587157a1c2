-- The numbers of the generated records go on one by one.
use Rattle.std.proofs.Common.{◌≡◌, ℕ, zero, suc, ◌+◌, ◌*◌, ◌<◌, Bool, true, false, List, [], ◌∷◌, ◌++◌, map, refl, sym, ap, ◌∙◌, arith, ◌&&◌, ◌==◌}
use Rattle.std.specs.List.{flat_map, range_with_len, AllByRecursion, IsDistinct}
use Rattle.std.proofs.lemmas.List.{map-append}
use Rattle.std.proofs.lemmas.Bool.{ne_eqb}
use Rattle.s57_types.specs.declared.name.Kind.{Kind}
use Rattle.s57_types.specs.declared.name.Kind.TheVariants.{Vc, Ve, Fe}
use Rattle.s57_types.specs.declared.name.RecName.{RecName}
use Rattle.s57_types.specs.declared.record.Rec.{Rec}
use Rattle.cell_spec.specs.Lookup.{name_of}
use Rattle.cell_spec.specs.Names.{same_name, kind_rank}
use Rattle.cell_parts.specs.Parts.{name}
use Rattle.cell_make.specs.Squares.{row_of, each_place}
use Rattle.cell_make.specs.GeneratedCell.{node_at, east_edge, north_edge, depth_area, coverage_area, generated_nodes, generated_edges, generated_areas}
use Rattle.cell_make.proofs.Ranges.{range_join}

-- so many names of a kind, from a number on
abbrev pub names_from : Kind → ℕ → ℕ → List RecName
names_from kind a n = map (name kind) (range_with_len a n)

pub names_join : (kind : Kind) (a m n : ℕ) → names_from kind a (m + n) ≡ names_from kind a m ++ names_from kind (a + m) n
names_join kind a m n = ap (map (name kind)) (range_join a m n) ∙ map-append (name kind) (range_with_len a m) (range_with_len (a + m) n)

module _ (item : ℕ → ℕ → Rec) (kind : Kind) (a columns : ℕ) (named : (row column : ℕ)
    → name_of (item row column) ≡ name kind (a + (row * columns + column))) where
  in_row : (row j m : ℕ) → map name_of (map (item row) (range_with_len j m)) ≡ names_from kind (a + (row * columns + j)) m
  in_row row j zero = refl
  in_row row j (suc m) =
      let next : a + (row * columns + (j + 1)) ≡ a + (row * columns + j) + 1 = omega arith in
      λ i. named row j i ∷ (in_row row (j + 1) m ∙ ap (λ b. names_from kind b m) next) i

  from_row : (row rows : ℕ) → map name_of (flat_map (row_of item columns) (range_with_len row rows)) ≡ names_from kind (a + row * columns) (rows * columns)
  from_row row zero = let none : 0 * columns ≡ 0 = omega arith in ap (names_from kind (a + row * columns)) (sym none)
  from_row row (suc rows) =
      let start : a + (row * columns + 0) ≡ a + row * columns = omega arith in
      let next : a + (row + 1) * columns ≡ a + row * columns + columns = omega arith in
      let count : columns + rows * columns ≡ suc rows * columns = omega arith in
      map-append name_of (row_of item columns row) (flat_map (row_of item columns) (range_with_len (row + 1) rows))
      ∙ (λ i. (in_row row 0 columns ∙ ap (λ b. names_from kind b columns) start) i
      ++ (from_row (row + 1) rows ∙ ap (λ b. names_from kind b (rows * columns)) next) i)
      ∙ sym (names_join kind (a + row * columns) columns (rows * columns))
      ∙ ap (names_from kind (a + row * columns)) count

  pub at_each_place : (rows : ℕ) → map name_of (each_place item rows columns) ≡ names_from kind a (rows * columns)
  at_each_place rows = let start : a + 0 * columns ≡ a = omega arith in from_row 0 rows ∙ ap (λ b. names_from kind b (rows * columns)) start

pub node_names : (n : ℕ) → map name_of (generated_nodes n) ≡ names_from Vc 1 ((n + 1) * (n + 1))
node_names n = at_each_place (node_at n) Vc 1 (n + 1) (λ row column. ap (name Vc) (omega arith)) (n + 1)

pub edge_names : (n : ℕ) → map name_of (generated_edges n) ≡ names_from Ve 1 (2 * (n * (n + 1)))
edge_names n =
    let count : (n + 1) * n + n * (n + 1) ≡ 2 * (n * (n + 1)) = omega arith in
    let start : 1 + n * (n + 1) ≡ 1 + (n + 1) * n = omega arith in
    map-append name_of (each_place (east_edge n) (n + 1) n) (each_place (north_edge n) n (n + 1))
    ∙ (λ i. at_each_place (east_edge n) Ve 1 n (λ row column. ap (name Ve) (omega arith)) (n + 1) i
    ++ (at_each_place (north_edge n) Ve (1 + n * (n + 1)) (n + 1) (λ row column. ap (name Ve) (omega arith)) n
    ∙ ap (λ b. names_from Ve b (n * (n + 1))) start) i)
    ∙ sym (names_join Ve 1 ((n + 1) * n) (n * (n + 1)))
    ∙ ap (names_from Ve 1) count

pub area_names : (n : ℕ) → map name_of (generated_areas n) ≡ names_from Fe 1 (n * n + 1)
area_names n =
    let last : n * n + 1 ≡ 1 + n * n = omega arith in
    map-append name_of (each_place (depth_area n) n n) (coverage_area n ∷ [])
    ∙ (λ i. at_each_place (depth_area n) Fe 1 n (λ row column. ap (name Fe) (omega arith)) n i ++ name Fe (last i) ∷ [])
    ∙ sym (names_join Fe 1 (n * n) 1)

-- ---- names of one kind are distinct, and apart from those of another
and_false : (p q : Bool) → q ≡ false → (p && q) ≡ false
and_false true q e = e
and_false false q e = refl

later : (kind : Kind) (x b n : ℕ) → x < b → AllByRecursion (λ m. same_name (name kind x) m ≡ false) (names_from kind b n)
later kind x b zero below = tt
later kind x b (suc n) below = (
  and_false (kind_rank kind == kind_rank kind) (x == b) (ne_eqb x b (λ e. absurd (omega (arith, e, below)))),
  later kind x (b + 1) n (omega (arith, below)),
)

apart : (kind other : Kind) → (kind_rank kind == kind_rank other) ≡ false → (x b n : ℕ)
    → AllByRecursion (λ m. same_name (name kind x) m ≡ false) (names_from other b n)
apart kind other differ x b zero = tt
apart kind other differ x b (suc n) = (ap (λ r. r && (x == b)) differ, apart kind other differ x (b + 1) n)

join : (P : RecName → Type 0) (xs ys : List RecName) → AllByRecursion P xs → AllByRecursion P ys → AllByRecursion P (xs ++ ys)
join P [] ys all more = more
join P (x ∷ xs) ys all more = (all.0, join P xs ys all.1 more)

distinct_before : (kind : Kind) (a n : ℕ) (others : List RecName) → IsDistinct same_name others
    → ((x : ℕ) → AllByRecursion (λ m. same_name (name kind x) m ≡ false) others) → IsDistinct same_name (names_from kind a n ++ others)
unfolding IsDistinct
distinct_before kind a zero others distinct differ = distinct
distinct_before kind a (suc n) others distinct differ =
    (join _ (names_from kind (a + 1) n) others (later kind a (a + 1) n (omega arith)) (differ a), distinct_before kind (a + 1) n others distinct differ)

no_names : IsDistinct same_name []
unfolding IsDistinct
no_names = tt

pub all_distinct : (x y z : ℕ) → IsDistinct same_name (names_from Vc 1 x ++ (names_from Ve 1 y ++ (names_from Fe 1 z ++ [])))
all_distinct x y z =
    distinct_before Vc 1 x _
    (distinct_before Ve 1 y _ (distinct_before Fe 1 z [] no_names (λ w. tt)) (λ w. join _ (names_from Fe 1 z) [] (apart Ve Fe refl w 1 z) tt))
    (λ w. join _ (names_from Ve 1 y) (names_from Fe 1 z ++ []) (apart Vc Ve refl w 1 y) (join _ (names_from Fe 1 z) [] (apart Vc Fe refl w 1 z) tt))
