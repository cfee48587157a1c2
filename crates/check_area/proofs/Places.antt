-- The parts of a boundary, place after place, and the rows that they are of.
use Rattle.std.proofs.Common.{◌≡◌, ℕ, ◌+◌, ◌<◌, ◌==◌, ◌&&◌, Bool, true, false, List, [], ◌∷◌, ◌++◌, Option, None, Some, length, map, drop, get_or}
use Rattle.std.proofs.Common.{filter_map, option_map, is_some, cond, refl, sym, ap, ◌∙◌, append_assoc, append-nil, arith}
use Rattle.std.specs.Prelude.{option_and_then, if◌then◌else◌}
use Rattle.std.specs.BTreeMap.{BTreeMap}
use Rattle.std.specs.List.{All, AllByRecursion, cons_option, enumerate_from, list_all}
use Rattle.std.proofs.lemmas.List.{drop_more, length-reverse}
use Rattle.s57_types.specs.declared.name.RecName.{RecName}
use Rattle.s57_types.specs.declared.record.Feature.{Feature}
use Rattle.s57_types.specs.declared.record.Spot.{Spot}
use Rattle.s57_types.specs.declared.record.Vector.{Vector}
use Rattle.s57_types.specs.declared.cell.Cell.{Cell}
use Rattle.s57_types.specs.declared.record.Rec.TheVariants.{F}
use Rattle.cell_spec.specs.declared.finding.Finding.{Finding}
use Rattle.cell_spec.specs.declared.key.Key.{Key}
use Rattle.cell_spec.specs.declared.key.Subject.TheVariants.{Rec}
use Rattle.cell_spec.specs.Lookup.{lookup_record}
use Rattle.near_records.proofs.ReadKeys.{ends_are_read, places_are_read}
use Rattle.rule_spec.specs.declared.kind.TheConstants.{MIXED_RING, OPEN_RING, OUTER_COUNT, WRONG_TURN}
use Rattle.rule_spec.specs.Reads.{read_set}
use Rattle.geometry_spec.specs.Points.{Point}
use Rattle.rule_spec.specs.declared.line.BoundaryRow.{BoundaryRow}
use Rattle.rule_spec.specs.declared.line.EdgeLine.{EdgeLine}
use Rattle.rule_spec.specs.Boundary.{boundary_of, boundary_row, has_points, has_usable_boundary, is_clean, line_along, mixed_ring, mixed_ring_of, open_ring}
use Rattle.rule_spec.specs.Boundary.{open_ring_of, outer_count, outer_count_of, reversed_line, wrong_turn, wrong_turn_of}
use Rattle.rule_spec.specs.EdgePoints.{edge_line_of, line_between, line_of, node_at, node_position}
use Rattle.rule_spec.specs.Features.{bad_codes, dangling_ref, prim_refs, target}
use Rattle.rule_spec.specs.Findings.{finding}
use Rattle.rule_spec.specs.Records.{edge_named}
use Rattle.check_area.specs.declared.part.BoundaryEdge.{BoundaryEdge}
use Rattle.check_area.specs.declared.sweep.LineSweep.{LineSweep}
use Rattle.check_area.specs.Lines.{AsksForLine, HoldsSweeps, part_along, part_at, parts_of}
use Rattle.check_area.specs.Parts.{findings_of_parts, part_of}
use Rattle.check_area.specs.Sweeps.{sweep_of}
use Rattle.check_area.proofs.Rows.{parts-rows, rules_unusable, rules_usable}
use Rattle.check_area.proofs.Turns.{HasPoints, sweep-along}

-- ---- place after place
-- what is known after some places
pub record IsSoFar (c : Cell) (known : BTreeMap ℕ LineSweep) (parts : List BoundaryEdge) (k : ℕ) (places : List Spot) : Type 0 where
  pub held : HoldsSweeps c known
  pub usable : list_all (has_points c) (drop k places) ≡ list_all (has_points c) places
  pub parted : parts ++ filter_map (part_at c) (enumerate_from (k + 1) (drop k places)) ≡ filter_map (part_at c) (enumerate_from 1 places)

has_by : (s : Spot) (place : ℕ) (line : Option EdgeLine) (part : BoundaryEdge) → Some part ≡ option_map (part_along place s) (option_map sweep_of line)
    → is_some line ≡ true
has_by s place None part e = absurd cc
has_by s place (Some line) part e = refl

has_not_by : (s : Spot) (place : ℕ) (line : Option EdgeLine) → None ≡ option_map (part_along place s) (option_map sweep_of line) → is_some line ≡ false
has_not_by s place None e = refl
has_not_by s place (Some line) e = absurd cc

one_taken : (c : Cell) (s : Spot) (rest : List Spot) (parts all : List BoundaryEdge) (k : ℕ) (part : BoundaryEdge) → Some part ≡ part_at c (k + 1, s)
    → parts ++ filter_map (part_at c) (enumerate_from (k + 1) (s ∷ rest)) ≡ all → (parts ++ part ∷ [])
    ++ filter_map (part_at c) (enumerate_from (k + 1 + 1) rest) ≡ all
one_taken c s rest parts all k part e h =
    append_assoc parts (part ∷ []) (filter_map (part_at c) (enumerate_from (k + 1 + 1) rest))
    ∙ ap (λ found. parts ++ cons_option found (filter_map (part_at c) (enumerate_from (k + 1 + 1) rest))) e
    ∙ h

-- one place on
pub place_taken : (c : Cell) (known next : BTreeMap ℕ LineSweep) (parts : List BoundaryEdge) (k : ℕ) (places : List Spot) (d : Spot)
    (place : ℕ) (part : BoundaryEdge) → k < length places
    → IsSoFar c known parts k places → HoldsSweeps c next → place ≡ k + 1 → Some part ≡ part_at c (place, get_or places k d)
    → IsSoFar c next (parts ++ part ∷ []) (k + 1) places
place_taken c known next parts k places d place part within so_far held number found =
    let s = get_or places k d in
    let is = found ∙ ap (λ n. part_at c (n, s)) number in
    let left = drop_more places k d within in
    let has = has_by s (k + 1) (edge_line_of c (target s)) part is in
    record {
      held = held;
      usable = ap (λ b. b && list_all (has_points c) (drop (k + 1) places)) (sym has) ∙ ap (list_all (has_points c)) (sym left) ∙ so_far.usable;
      parted = one_taken c s (drop (k + 1) places) parts _ k part is
          (ap (λ l. parts ++ filter_map (part_at c) (enumerate_from (k + 1) l)) (sym left) ∙ so_far.parted);
    }

-- a place that names no edge with points
pub place_refused : (c : Cell) (known : BTreeMap ℕ LineSweep) (parts : List BoundaryEdge) (k : ℕ) (places : List Spot) (d : Spot) (place : ℕ)
    → k < length places → IsSoFar c known parts k places → place ≡ k + 1 → None ≡ part_at c (place, get_or places k d) → None ≡ parts_of c places
place_refused c known parts k places d place within so_far number found =
    let s = get_or places k d in
    let is = found ∙ ap (λ n. part_at c (n, s)) number in
    let left = drop_more places k d within in
    let none = ap (λ b. b && list_all (has_points c) (drop (k + 1) places)) (sym (has_not_by s (k + 1) (edge_line_of c (target s)) is))
    ∙ ap (list_all (has_points c)) (sym left) ∙ so_far.usable in
    ap (λ b. if b then Some (filter_map (part_at c) (enumerate_from 1 places)) else None) none

none_left : (c : Cell) (known : BTreeMap ℕ LineSweep) (parts : List BoundaryEdge) (k : ℕ) (places rest : List Spot) → length rest ≡ 0
    → drop k places ≡ rest → IsSoFar c known parts k places
    → Some parts ≡ parts_of c places
none_left c known parts k places [] h left so_far =
    let usable = ap (list_all (has_points c)) (sym left) ∙ so_far.usable in
    let all = sym (append-nil parts) ∙ ap (λ l. parts ++ filter_map (part_at c) (enumerate_from (k + 1) l)) (sym left) ∙ so_far.parted in
    ap Some all ∙ ap (λ b. if b then Some (filter_map (part_at c) (enumerate_from 1 places)) else None) usable
none_left c known parts k places (s ∷ rest) h left so_far = absurd (omega (arith, h))

-- all places
pub all_taken : (c : Cell) (known : BTreeMap ℕ LineSweep) (parts : List BoundaryEdge) (k : ℕ) (places : List Spot) → length (drop k places) ≡ 0
    → IsSoFar c known parts k places
    → Some parts ≡ parts_of c places
all_taken c known parts k places h so_far = none_left c known parts k places (drop k places) h refl so_far

-- ---- the keys
-- the read set of an area asks for the line of each of its edges
pub all_asked : (c : Cell) (n : RecName) (f : Feature) (keys : List Key) → keys ≡ read_set c (Rec n) → lookup_record c n ≡ Some (F f) → (f.prim == 3) ≡ true
    → All (λ (s : Spot). AsksForLine c keys s.to) f.places
all_asked c n f keys is_set found area = λ k d within. record {
  name = places_are_read c n f keys is_set found k d within;
  ends = λ edge is_edge. ends_are_read c n f keys is_set found area k d edge within is_edge;
}

-- ---- the rows
row_by : (place : ℕ) (s : Spot) (line : Option EdgeLine)
    → option_map (part_along place s) (option_map sweep_of line) ≡ option_map part_of
    (option_map (λ (line : EdgeLine). record { place = place; usag = s.usag; line = line_along s.ornt line }) line)
row_by place s None = refl
row_by place s (Some line) = λ i. Some (record { place = place; usag = s.usag; sweep = sym (sweep-along s.ornt line) i })

parts_by : (found : Option BoundaryEdge) (row : Option BoundaryRow) (parts : List BoundaryEdge) (rows : List BoundaryRow) → found ≡ option_map part_of row
    → parts ≡ map part_of rows
    → cons_option found parts ≡ map part_of (cons_option row rows)
parts_by found None parts rows e h = (λ i. cons_option (e i) (h i))
parts_by found (Some row) parts rows e h = (λ i. cons_option (e i) (h i))

parts_are : (c : Cell) (pointers : List (ℕ × Spot)) → filter_map (part_at c) pointers ≡ map part_of (filter_map (boundary_row c) pointers)
parts_are c [] = refl
parts_are c (p ∷ pointers) =
    parts_by (part_at c p) (boundary_row c p) (filter_map (part_at c) pointers) (filter_map (boundary_row c) pointers)
    (row_by p.0 p.1 (edge_line_of c (target p.1))) (parts_are c pointers)

-- ---- every row has points
HasSome : Option EdgeLine → Type 0
HasSome None = Unit {0}
HasSome (Some line) = 0 < length line.points

some_by : (e : Vector) (b n : RecName) (p q : Option Point)
    → HasSome (option_and_then (λ (p : Point). option_map (λ (q : Point). record { begins = b; ends = n; points = p ∷ (e.plane ++ q ∷ []) }) q) p)
unfolding HasSome
some_by e b n None q = tt
some_by e b n (Some p) None = tt
some_by e b n (Some p) (Some q) = omega arith

line_has : (c : Cell) (e : Vector) (b n : Option RecName) → HasSome (line_between c e b n)
unfolding HasSome
line_has c e None n = tt
line_has c e (Some b) None = tt
line_has c e (Some b) (Some n) = some_by e b n (node_position c b) (node_position c n)

found_has : (c : Cell) (found : Option Vector) → HasSome (option_and_then (line_of c) found)
unfolding HasSome
found_has c None = tt
found_has c (Some e) = line_has c e (node_at 1 e) (node_at 2 e)

edge_has : (c : Cell) (n : RecName) → HasSome (edge_line_of c n)
unfolding edge_line_of
edge_has c n = found_has c (edge_named c n)

along_has : (turned : Bool) (line : EdgeLine) → 0 < length line.points → 0 < length (cond turned (reversed_line line) line).points
along_has true line h = omega (arith, h, length-reverse line.points)
along_has false line h = h

rows_by : (place : ℕ) (s : Spot) (line : Option EdgeLine) (rows : List BoundaryRow) → HasSome line → AllByRecursion HasPoints rows
    → AllByRecursion HasPoints (cons_option (option_map (λ (line : EdgeLine). record {
      place = place;
      usag = s.usag;
      line =
          line_along s.ornt line;
    }) line) rows)
unfolding HasSome
rows_by place s None rows has h = h
rows_by place s (Some line) rows has h = (along_has (s.ornt == 2) line has, h)

rows_have : (c : Cell) (pointers : List (ℕ × Spot)) → AllByRecursion HasPoints (filter_map (boundary_row c) pointers)
rows_have c [] = tt
rows_have c (p ∷ pointers) = rows_by p.0 p.1 (edge_line_of c (target p.1)) (filter_map (boundary_row c) pointers) (edge_has c (target p.1))
    (rows_have c pointers)

-- ---- the findings
abbrev pub area_rules : Cell → Feature → List Finding
area_rules c f = map (finding OPEN_RING) (open_ring c f) ++ (map (finding MIXED_RING) (mixed_ring c f)
    ++ (map (finding OUTER_COUNT) (outer_count c f) ++ map (finding WRONG_TURN) (wrong_turn c f)))

module _ (c : Cell) (f : Feature) (area : (f.prim == 3) ≡ true) (fits : prim_refs c f ≡ []) (there : dangling_ref c f ≡ []) (coded : bad_codes c f ≡ []) where
  usable_by : has_usable_boundary c f ≡ list_all (has_points c) f.places
  unfolding has_usable_boundary
  usable_by = λ i. area i && (is_clean (fits i) && is_clean (there i) && is_clean (coded i)) && list_all (has_points c) f.places

  some_parts : (usable : Bool) (parts : List BoundaryEdge) → list_all (has_points c) f.places ≡ usable
      → Some parts ≡ (if usable then Some (filter_map (part_at c) (enumerate_from 1 f.places)) else None) → findings_of_parts parts ≡ area_rules c f
  unfolding boundary_of
  some_parts true parts all is =
      let rows = boundary_of c f in
      let same : parts ≡ filter_map (part_at c) (enumerate_from 1 f.places) = cc in
      ap findings_of_parts (same ∙ parts_are c (enumerate_from 1 f.places))
      ∙ parts-rows rows (rows_have c (enumerate_from 1 f.places))
      ∙ sym (rules_usable (has_usable_boundary c f) (open_ring_of rows) (mixed_ring_of rows) (outer_count_of rows) (wrong_turn_of rows) (usable_by ∙ all))
  some_parts false parts all is = absurd cc

  no_parts : (usable : Bool) → list_all (has_points c) f.places ≡ usable
      → None ≡ (if usable then Some (filter_map (part_at c) (enumerate_from 1 f.places)) else None) → [] ≡ area_rules c f
  no_parts true all is = absurd cc
  no_parts false all is =
      let rows = boundary_of c f in
      sym (rules_unusable (has_usable_boundary c f) (open_ring_of rows) (mixed_ring_of rows) (outer_count_of rows) (wrong_turn_of rows) (usable_by ∙ all))

  -- what is found of the parts of an area is what the four rules find
  pub parts_found : (parts : List BoundaryEdge) → Some parts ≡ parts_of c f.places → findings_of_parts parts ≡ area_rules c f
  parts_found parts is = some_parts (list_all (has_points c) f.places) parts refl is

  -- without parts the four rules find nothing
  pub none_found : None ≡ parts_of c f.places → [] ≡ area_rules c f
  none_found is = no_parts (list_all (has_points c) f.places) refl is
