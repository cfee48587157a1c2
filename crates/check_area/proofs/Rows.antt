-- What is found of the rows of a boundary is what is found of their parts.
use Rattle.std.proofs.Common.{◌≡◌, ℕ, zero, suc, ◌==◌, Bool, true, false, not, ◌&&◌, ◌||◌, pos, List, [], ◌∷◌, ◌++◌, length, map, filter, take, drop, Option}
use Rattle.std.proofs.Common.{None, Some, cond, refl, sym, ap, ◌∙◌, ne_eqb, arith}
use Rattle.std.specs.Prelude.{int_lt, if◌then◌else◌}
use Rattle.std.specs.List.{AllByRecursion, list_any}
use Rattle.std.proofs.lemmas.List.{append-nil, take-map, drop-map}
use Rattle.cell_spec.specs.declared.finding.Finding.{Finding}
use Rattle.rule_spec.specs.declared.kind.TheConstants.{MIXED_RING, OPEN_RING, OUTER_COUNT, WRONG_TURN}
use Rattle.rule_spec.specs.declared.line.BoundaryRow.{BoundaryRow}
use Rattle.rule_spec.specs.Boundary.{all_interior, arc_of, first_place, is_clean, is_exterior, is_interior, is_mixed, loops_of, mixed_ring_of}
use Rattle.rule_spec.specs.Boundary.{none_interior, open_ring_of, outer_count_of, partly_interior, turns_wrongly, usage_of_row, wrong_turn_of}
use Rattle.rule_spec.specs.Findings.{finding}
use Rattle.rule_spec.specs.Loops.{blocks_of, first_open_place, loop_lengths}
use Rattle.rule_spec.specs.Rule.{Found, found_at, found_if}
use Rattle.check_area.specs.declared.part.BoundaryEdge.{BoundaryEdge}
use Rattle.check_area.specs.Parts.{arc_of_part, exterior_count, findings_by, findings_of_parts}
use Rattle.check_area.specs.Parts.{loops_of_parts, mixed_loops, part_of, place_of_loop, turns_against_usage, usage_of_part, wrong_loops}
use Rattle.check_area.proofs.Turns.{HasPoints, turn-rows}

blocks-map : {X Y : Type 0} (f : X → Y) (lengths : List ℕ) (xs : List X) → blocks_of lengths (map f xs) ≡ map (map f) (blocks_of lengths xs)
blocks-map f [] xs = refl
blocks-map f (n ∷ lengths) xs = (λ i. take-map f n xs i ∷ blocks_of lengths (drop-map f n xs i)) ∙ ap (λ bs. map f (take n xs) ∷ bs)
    (blocks-map f lengths (drop n xs))

arcs-map : (rows : List BoundaryRow) → map arc_of_part (map part_of rows) ≡ map arc_of rows
arcs-map [] = refl
arcs-map (row ∷ rows) = ap (λ arcs. arc_of row ∷ arcs) (arcs-map rows)

loops-map : (rows : List BoundaryRow) → loops_of_parts (map part_of rows) ≡ map (map part_of) (loops_of rows)
loops-map rows = ap (λ arcs. blocks_of (loop_lengths arcs) (map part_of rows)) (arcs-map rows) ∙ blocks-map part_of (loop_lengths (map arc_of rows)) rows

-- ---- what holds of all rows holds of the rows of each loop
all-take : {X : Type 0} (P : X → Type 0) (n : ℕ) (xs : List X) → AllByRecursion P xs → AllByRecursion P (take n xs)
all-take P zero xs h = tt
all-take P (suc n) [] h = tt
all-take P (suc n) (x ∷ xs) h = (h.0, all-take P n xs h.1)

all-drop : {X : Type 0} (P : X → Type 0) (n : ℕ) (xs : List X) → AllByRecursion P xs → AllByRecursion P (drop n xs)
all-drop P zero xs h = h
all-drop P (suc n) [] h = tt
all-drop P (suc n) (x ∷ xs) h = all-drop P n xs h.1

all-blocks : {X : Type 0} (P : X → Type 0) (lengths : List ℕ) (xs : List X) → AllByRecursion P xs → AllByRecursion (AllByRecursion P) (blocks_of lengths xs)
all-blocks P [] xs h = tt
all-blocks P (n ∷ lengths) xs h = (all-take P n xs h, all-blocks P lengths (drop n xs) (all-drop P n xs h))

-- ---- the loops that pass a test, and their first places
place-map : (loop : List BoundaryRow) → place_of_loop (map part_of loop) ≡ first_place loop
place-map [] = refl
place-map (row ∷ rows) = refl

places_by : (p q : Bool) (loop : List BoundaryRow) (parts : List (List BoundaryEdge)) (rows : List (List BoundaryRow)) → p ≡ q
    → map place_of_loop parts ≡ map first_place rows
    → map place_of_loop (cond p (map part_of loop ∷ parts) parts) ≡ map first_place (cond q (loop ∷ rows) rows)
places_by true true loop parts rows e h = λ i. place-map loop i ∷ h i
places_by false false loop parts rows e h = h
places_by true false loop parts rows e h = cc
places_by false true loop parts rows e h = cc

places-map : (p : List BoundaryEdge → Bool) (q : List BoundaryRow → Bool) (loops : List (List BoundaryRow))
    → AllByRecursion (λ loop. p (map part_of loop) ≡ q loop) loops
    → map place_of_loop (filter p (map (map part_of) loops)) ≡ map first_place (filter q loops)
places-map p q [] h = refl
places-map p q (loop ∷ loops) h =
    places_by (p (map part_of loop)) (q loop) loop (filter p (map (map part_of) loops)) (filter q loops) h.0 (places-map p q loops h.1)

count_by : (p q : Bool) (loop : List BoundaryRow) (parts : List (List BoundaryEdge)) (rows : List (List BoundaryRow)) → p ≡ q → length parts ≡ length rows
    → length (cond p (map part_of loop ∷ parts) parts) ≡ length (cond q (loop ∷ rows) rows)
count_by true true loop parts rows e h = ap suc h
count_by false false loop parts rows e h = h
count_by true false loop parts rows e h = cc
count_by false true loop parts rows e h = cc

count-map : (p : List BoundaryEdge → Bool) (q : List BoundaryRow → Bool) (loops : List (List BoundaryRow))
    → AllByRecursion (λ loop. p (map part_of loop) ≡ q loop) loops
    → length (filter p (map (map part_of) loops)) ≡ length (filter q loops)
count-map p q [] h = refl
count-map p q (loop ∷ loops) h =
    count_by (p (map part_of loop)) (q loop) loop (filter p (map (map part_of) loops)) (filter q loops) h.0 (count-map p q loops h.1)

-- ---- the tests
interior-map : (loop : List BoundaryRow) → all_interior usage_of_part (map part_of loop) ≡ is_interior loop
interior-map [] = refl
interior-map (row ∷ rows) = ap (λ b. (row.usag == 2) && b) (interior-map rows)

any-map : (loop : List BoundaryRow) → list_any (λ (p : BoundaryEdge). usage_of_part p == 2) (map part_of loop) ≡
    list_any (λ (row : BoundaryRow). usage_of_row row == 2) loop
any-map [] = refl
any-map (row ∷ rows) = ap (λ b. (row.usag == 2) || b) (any-map rows)

exterior-map : (loop : List BoundaryRow) → none_interior usage_of_part (map part_of loop) ≡ is_exterior loop
exterior-map loop = ap not (any-map loop)

mixed-map : (loop : List BoundaryRow) → partly_interior usage_of_part (map part_of loop) ≡ is_mixed loop
mixed-map loop = λ i. not (interior-map loop i) && not (exterior-map loop i)

wrong-map : (loop : List BoundaryRow) → AllByRecursion HasPoints loop → turns_against_usage (map part_of loop) ≡ turns_wrongly loop
wrong-map loop h = λ i. cond (interior-map loop i) (not (int_lt (pos 0) (turn-rows loop h i))) (not (int_lt (turn-rows loop h i) (pos 0)))

each : {X : Type 0} (P : X → Type 0) → ((x : X) → P x) → (xs : List X) → AllByRecursion P xs
each P h [] = tt
each P h (x ∷ xs) = (h x, each P h xs)

each_if : {X : Type 0} (P Q : X → Type 0) → ((x : X) → P x → Q x) → (xs : List X) → AllByRecursion P xs → AllByRecursion Q xs
each_if P Q h [] all = tt
each_if P Q h (x ∷ xs) all = (h x all.0, each_if P Q h xs all.1)

-- ---- the rules
abbrev parted : List (List BoundaryRow) → List (List BoundaryEdge)
parted loops = map (map part_of) loops

mixed_same : (loops : List (List BoundaryRow)) → mixed_loops (parted loops) ≡ map first_place (filter is_mixed loops)
mixed_same loops =
    places-map (partly_interior usage_of_part) is_mixed loops
    (each (λ loop. partly_interior usage_of_part (map part_of loop) ≡ is_mixed loop) mixed-map loops)

count_same : (loops : List (List BoundaryRow)) → exterior_count (parted loops) ≡ (let outer = length (filter is_exterior loops) in
    found_if (not (outer == 1)) (outer ∷ []))
count_same loops =
    ap (λ outer. found_if (not (outer == 1)) (outer ∷ [])) (count-map (none_interior usage_of_part) is_exterior loops
    (each (λ loop. none_interior usage_of_part (map part_of loop) ≡ is_exterior loop) exterior-map loops))

wrong_same : (loops : List (List BoundaryRow)) → AllByRecursion (AllByRecursion HasPoints) loops
    → wrong_loops (parted loops) ≡ map first_place (filter turns_wrongly loops)
wrong_same loops h =
    places-map turns_against_usage turns_wrongly loops (each_if (AllByRecursion HasPoints)
    (λ loop. turns_against_usage (map part_of loop) ≡ turns_wrongly loop) wrong-map loops h)

-- four rules' findings, where three wait for the boundary to be closed and two for its loops to be of one usage
abbrev pub four_rules : Found → Found → Found → Found → List Finding
four_rules opens mixed outer wrong =
    map (finding OPEN_RING) opens ++ (map (finding MIXED_RING) (if is_clean opens then mixed else [])
    ++ (map (finding OUTER_COUNT) (if is_clean opens && is_clean mixed then outer else []) ++ map (finding WRONG_TURN)
    (if is_clean opens && is_clean mixed then wrong else [])))

clean_empty : (found : Found) → is_clean found ≡ true → found ≡ []
clean_empty [] e = refl
clean_empty (x ∷ found) e = let never : is_clean (x ∷ found) ≡ false = ne_eqb (suc (length found)) 0 (λ h. omega (arith, h)) in absurd cc

loops_by : (mixed outer wrong : Found) (clean : Bool) → is_clean mixed ≡ clean
    → (if clean then map (finding OUTER_COUNT) outer ++ map (finding WRONG_TURN) wrong else map (finding MIXED_RING) mixed) ≡
    map (finding MIXED_RING) mixed ++ (map (finding OUTER_COUNT) (if clean then outer else []) ++ map (finding WRONG_TURN)
    (if clean then wrong else []))
loops_by mixed outer wrong true e = ap (λ ms. map (finding MIXED_RING) ms ++ (map (finding OUTER_COUNT) outer ++ map (finding WRONG_TURN) wrong))
    (sym (clean_empty mixed e))
loops_by mixed outer wrong false e = sym (append-nil (map (finding MIXED_RING) mixed))

found_by : (loops : List (List BoundaryEdge)) (place : Option ℕ) → findings_by loops place ≡ four_rules (found_at place) (mixed_loops loops)
    (exterior_count loops) (wrong_loops loops)
found_by loops None = loops_by (mixed_loops loops) (exterior_count loops) (wrong_loops loops) (is_clean (mixed_loops loops)) refl
found_by loops (Some place) = refl

-- the findings of parts are those of the rows that they are of
pub parts-rows : (rows : List BoundaryRow) → AllByRecursion HasPoints rows
    → findings_of_parts (map part_of rows) ≡ four_rules (open_ring_of rows) (mixed_ring_of rows) (outer_count_of rows) (wrong_turn_of rows)
unfolding findings_of_parts
parts-rows rows h =
    let loops = loops_of rows in
    let each_has = all-blocks HasPoints (loop_lengths (map arc_of rows)) rows h in
    (λ i. findings_by (loops-map rows i) (first_open_place (arcs-map rows i)))
    ∙ found_by (parted loops) (first_open_place (map arc_of rows))
    ∙ (λ i. four_rules (open_ring_of rows) (mixed_same loops i) (count_same loops i) (wrong_same loops each_has i))

-- the rules as they ask for a usable boundary
pub rules_usable : (usable : Bool) (opens mixed outer wrong : Found) → usable ≡ true
    → map (finding OPEN_RING) (if usable then opens else []) ++ (map (finding MIXED_RING) (if usable && is_clean opens then mixed else [])
    ++ (map (finding OUTER_COUNT) (if usable && (is_clean opens && is_clean mixed) then outer else [])
    ++ map (finding WRONG_TURN) (if usable && (is_clean opens && is_clean mixed) then wrong else [])))
    ≡ four_rules opens mixed outer wrong
rules_usable true opens mixed outer wrong e = refl
rules_usable false opens mixed outer wrong e = absurd cc

pub rules_unusable : (usable : Bool) (opens mixed outer wrong : Found) → usable ≡ false
    → map (finding OPEN_RING) (if usable then opens else []) ++ (map (finding MIXED_RING) (if usable && is_clean opens then mixed else [])
    ++ (map (finding OUTER_COUNT) (if usable && (is_clean opens && is_clean mixed) then outer else [])
    ++ map (finding WRONG_TURN) (if usable && (is_clean opens && is_clean mixed) then wrong else [])))
    ≡ []
rules_unusable false opens mixed outer wrong e = refl
rules_unusable true opens mixed outer wrong e = absurd cc
