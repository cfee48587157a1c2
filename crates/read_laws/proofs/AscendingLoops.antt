-- The loops of a boundary ascend by their first places.
use Rattle.std.proofs.Common.{◌≡◌, ◌≤◌, ℕ, zero, suc, Bool, true, false, List, [], ◌∷◌, Option, None, Some, cond, map, filter, find, length, take, drop}
use Rattle.std.proofs.Common.{option_map, refl, sym, ap, ◌∙◌, subst, arith}
use Rattle.std.proofs.lemmas.Bool.{false≢true}
use Rattle.std.proofs.lemmas.List.{drop-map}
use Rattle.std.specs.List.{enumerate_from, cons_option}
use Rattle.std.specs.Option.{option_map_or}
use Rattle.std.specs.Prelude.{filter_map, slice_index}
use Rattle.s57_types.specs.declared.cell.Cell.{Cell}
use Rattle.s57_types.specs.declared.record.Feature.{Feature}
use Rattle.s57_types.specs.declared.record.Spot.{Spot}
use Rattle.rule_spec.specs.Boundary.{arc_of, boundary_of, boundary_row, first_place, line_along, loops_of}
use Rattle.rule_spec.specs.EdgePoints.{edge_line_of}
use Rattle.rule_spec.specs.Features.{target}
use Rattle.rule_spec.specs.Loops.{blocks_of, counted_from, is_loop, loop_length, loop_lengths_within}
use Rattle.rule_spec.specs.declared.line.BoundaryRow.{BoundaryRow}
use Rattle.rule_spec.specs.declared.line.EdgeLine.{EdgeLine}
use Rattle.read_laws.proofs.Ascents.{AscendFrom, Ascends, ascend_lower, ascend_dropped, ascend_filtered, ascend_mapped, ascend_numbered, ascends}

abbrev place_of : BoundaryRow → ℕ
place_of row = row.place

abbrev place_of_loop : List BoundaryRow → ℕ
place_of_loop loop = slice_index (first_place loop) 0

passes_by : {X : Type 0} (test : X → Bool) (y : X) (ys : List X) (x : X) (passed : Bool) → (find test ys ≡ Some x → test x ≡ true)
    → test y ≡ passed → cond passed (Some y) (find test ys) ≡ Some x → test x ≡ true
passes_by test y ys x true later here found = let same : y ≡ x = cc in ap test (sym same) ∙ here
passes_by test y ys x false later here found = later found

-- what is found passes the test
found_passes : {X : Type 0} (test : X → Bool) (xs : List X) (x : X) → find test xs ≡ Some x → test x ≡ true
found_passes test [] x found = cc
found_passes test (y ∷ ys) x found = passes_by test y ys x (test y) (found_passes test ys x) refl found

-- the loop at the front has a row, so it begins at the first place
module _ (most : ℕ) (shorter : (least : ℕ) (rows : List BoundaryRow) → AscendFrom place_of least rows
    → AscendFrom place_of_loop least (blocks_of (loop_lengths_within most (map arc_of rows)) rows)) where
  front_by : (least n : ℕ) (rows : List BoundaryRow) → is_loop (take n (map arc_of rows)) ≡ true → AscendFrom place_of least rows
      → AscendFrom place_of_loop least (blocks_of (n ∷ loop_lengths_within most (drop n (map arc_of rows))) rows)
  front_by least zero rows loop ascent = absurd (false≢true loop)
  front_by least (suc n) [] loop ascent = absurd (false≢true loop)
  front_by least (suc n) (row ∷ rows) loop ascent =
      let rest = drop n rows in
      let behind = shorter (suc row.place) rest (ascend_dropped place_of n (suc row.place) rows ascent.1) in (
        ascent.0,
        subst (λ arcs. AscendFrom place_of_loop (suc row.place) (blocks_of (loop_lengths_within most arcs) rest))
            (sym (drop-map arc_of n rows)) behind,
      )

  loops_by : (least : ℕ) (rows : List BoundaryRow) (length : Option ℕ) → loop_length (map arc_of rows) ≡ length → AscendFrom place_of least rows
      → AscendFrom place_of_loop least (blocks_of (option_map_or (λ n. n ∷ loop_lengths_within most (drop n (map arc_of rows))) length []) rows)
  loops_by least rows None is ascent = tt
  loops_by least rows (Some n) is ascent =
      let arcs = map arc_of rows in
      front_by least n rows (found_passes (λ n. is_loop (take n arcs)) (counted_from 1 arcs) n is) ascent

loops_within : (most least : ℕ) (rows : List BoundaryRow) → AscendFrom place_of least rows
    → AscendFrom place_of_loop least (blocks_of (loop_lengths_within most (map arc_of rows)) rows)
loops_within zero least rows ascent = tt
loops_within (suc most) least rows ascent = loops_by most (loops_within most) least rows (loop_length (map arc_of rows)) refl ascent

-- a boundary's rows ascend by their places
row_behind : (ornt usag place least : ℕ) (line : Option EdgeLine) (rows : List BoundaryRow) → least ≤ place → AscendFrom place_of (suc place) rows
    → AscendFrom place_of least (cons_option (option_map (λ (line : EdgeLine). record { place = place; usag = usag; line = line_along ornt line }) line) rows)
row_behind ornt usag place least None rows here behind = ascend_lower place_of least (suc place) rows (omega (arith, here)) behind
row_behind ornt usag place least (Some line) rows here behind = (here, behind)

rows_ascend : (c : Cell) (least : ℕ) (pointers : List (ℕ × Spot)) → AscendFrom (λ (pointer : ℕ × Spot). pointer.0) least pointers
    → AscendFrom place_of least (filter_map (boundary_row c) pointers)
rows_ascend c least [] ascent = tt
rows_ascend c least (pointer ∷ pointers) ascent =
    row_behind pointer.1.ornt pointer.1.usag pointer.0 least (edge_line_of c (target pointer.1)) (filter_map (boundary_row c) pointers) ascent.0
    (rows_ascend c (suc pointer.0) pointers ascent.1)

-- the first places of some loops of a boundary ascend
pub loops_ascend : (test : List BoundaryRow → Bool) (c : Cell) (f : Feature) → Ascends (map first_place (filter test (loops_of (boundary_of c f))))
unfolding boundary_of
loops_ascend test c f =
    let rows = boundary_of c f in
    let found = filter test (loops_of rows) in
    let loops = loops_within (length (map arc_of rows)) 1 rows (rows_ascend c 1 (enumerate_from 1 f.places) (ascend_numbered 1 f.places)) in
    ascends 1 (map first_place found) (ascend_mapped (λ nums. slice_index nums 0) first_place 1 found
    (ascend_filtered place_of_loop test 1 (loops_of rows) loops))
