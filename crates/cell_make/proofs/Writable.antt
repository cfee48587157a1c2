-- The generated cell can be written.
use Rattle.std.proofs.Common.{◌≡◌, ℕ, zero, suc, ◌+◌, ◌*◌, ◌<◌, ◌≤◌, Bool, true, false, [], ◌++◌, length, map, refl, sym, ap, ◌∙◌, subst, append_assoc}
use Rattle.std.proofs.Common.{append-nil, inl, inr, arith, ◌&&◌}
use Rattle.std.specs.Prelude.{All, None, Some, Option, is_none}
use Rattle.std.specs.List.{flat_map, range_with_len, list_all, IsDistinct}
use Rattle.std.proofs.Math.Nat.{eq-or-lt_of_le, mul-le-mul}
use Rattle.std.proofs.lemmas.List.{map-append, length-map, length-append}
use Rattle.std.proofs.lemmas.List.FromFn.{length-map-range_with_len}
use Rattle.std.proofs.lemmas.List.Elements.{All-nil, All-cons, All-append}
use Rattle.std.specs.Fmt.{digits}
use Rattle.s57_types.specs.Fitness.{is_fit_head, unfitness}
use Rattle.s57_types.specs.declared.fault.Unfit.{Unfit}
use Rattle.s57_types.specs.declared.name.Kind.{Kind}
use Rattle.s57_types.specs.declared.name.Kind.TheVariants.{Vi, Vc, Ve, Fe}
use Rattle.s57_types.specs.declared.record.Rec.{Rec}
use Rattle.cell_spec.specs.Lookup.{all_records, name_of}
use Rattle.cell_spec.specs.Names.{same_name}
use Rattle.cell_spec.specs.Writable.{AreFit, IsWritable}
use Rattle.cell_parts.specs.Parts.{name}
use Rattle.cell_make.specs.Squares.{row_of, each_place}
use Rattle.cell_make.specs.GeneratedCell.{node_at, east_edge, north_edge, depth_area, coverage_area, generated_nodes, generated_edges, generated_areas}
use Rattle.cell_make.specs.GeneratedCell.{generated_cell}
use Rattle.cell_make.proofs.Numbers.{names_from, node_names, edge_names, area_names, all_distinct}

module _ (P : Rec → Type 0) (item : ℕ → ℕ → Rec) (each : (row column : ℕ) → P (item row column)) where
  all_in_row : (row j m : ℕ) → All P (map (item row) (range_with_len j m))
  all_in_row row j zero = All-nil P
  all_in_row row j (suc m) = All-cons P (item row j) (map (item row) (range_with_len (j + 1) m)) (each row j) (all_in_row row (j + 1) m)

  all_from_row : (columns row rows : ℕ) → All P (flat_map (row_of item columns) (range_with_len row rows))
  all_from_row columns row zero = All-nil P
  all_from_row columns row (suc rows) =
      All-append P (row_of item columns row) (flat_map (row_of item columns) (range_with_len (row + 1) rows)) (all_in_row row 0 columns)
      (all_from_row columns (row + 1) rows)

  pub all_places : (rows columns : ℕ) → All P (each_place item rows columns)
  all_places rows columns = all_from_row columns 0 rows

-- ---- what holds of nodes, edges and areas each holds of the lists
abbrev IsOf : Kind → Rec → Type 0
IsOf kind r = (name_of r).kind ≡ kind

abbrev Fits : Rec → Type 0
Fits r = unfitness 0 r ≡ None

-- the records of a place
places_fit : (n row column : ℕ) → Fits (node_at n row column) × Fits (east_edge n row column) × Fits (north_edge n row column) × Fits (depth_area n row column)
unfolding unfitness digits
places_fit n row column = (refl, refl, refl, refl)

-- the area of coverage at each size
sizes_fit : list_all (λ n. is_none (unfitness 0 (coverage_area n))) (range_with_len 1 100) ≡ true
unfolding unfitness digits
sizes_fit = refl

both_true : (p q : Bool) → (p && q) ≡ true → (p ≡ true) × (q ≡ true)
both_true true q e = (refl, e)
both_true false q e = absurd cc

passes : (test : ℕ → Bool) (a m n : ℕ) → list_all test (range_with_len a m) ≡ true → a ≤ n → n < a + m → test n ≡ true
passes test a zero n all low high = absurd (omega (arith, low, high))
passes test a (suc m) n all low high =
    elim (eq-or-lt_of_le low) [
      | inl e ↦ subst (λ k. test k ≡ true) e (both_true (test a) _ all).0
      | inr h ↦ passes test (a + 1) m n (both_true (test a) _ all).1 (omega (arith, h)) (omega (arith, high))
    ]

none_there : (why : Option Unfit) → is_none why ≡ true → why ≡ None
none_there None e = refl
none_there (Some u) e = absurd cc

coverage_fits : (n : ℕ) → 1 ≤ n → n ≤ 100 → Fits (coverage_area n)
coverage_fits n low high = none_there _ (passes (λ k. is_none (unfitness 0 (coverage_area k))) 1 100 n sizes_fit low (omega (arith, high)))

fit : (n : ℕ) → 1 ≤ n → n ≤ 100 → AreFit 0 (((generated_nodes n) ++ generated_edges n) ++ generated_areas n)
fit n low high =
    All-append Fits _ _
    (All-append Fits _ _ (all_places Fits (node_at n) (λ row column. (places_fit n row column).0) (n + 1) (n + 1))
    (All-append Fits _ _ (all_places Fits (east_edge n) (λ row column. (places_fit n row column).1) (n + 1) n)
    (all_places Fits (north_edge n) (λ row column. (places_fit n row column).2) n (n + 1))))
    (All-append Fits _ _ (all_places Fits (depth_area n) (λ row column. (places_fit n row column).3) n n)
    (All-cons Fits _ [] (coverage_fits n low high) (All-nil Fits)))

-- ---- names
all_names : (n : ℕ) → map name_of (all_records (generated_cell n)) ≡ names_from Vc 1 ((n + 1) * (n + 1))
    ++ (names_from Ve 1 (2 * (n * (n + 1))) ++ (names_from Fe 1 (n * n + 1) ++ []))
unfolding generated_cell
all_names n =
    let nodes = generated_nodes n in
    let edges = generated_edges n in
    let areas = generated_areas n in
    map-append name_of (nodes ++ edges) areas
    ∙ ap (λ names. names ++ map name_of areas) (map-append name_of nodes edges)
    ∙ (λ i. (node_names n i ++ edge_names n i) ++ area_names n i)
    ∙ append_assoc (names_from Vc 1 ((n + 1) * (n + 1))) (names_from Ve 1 (2 * (n * (n + 1)))) (names_from Fe 1 (n * n + 1))
    ∙ ap (λ last. names_from Vc 1 ((n + 1) * (n + 1)) ++ (names_from Ve 1 (2 * (n * (n + 1))) ++ last)) (sym (append-nil (names_from Fe 1 (n * n + 1))))

count_names : (x y z : ℕ) → length (names_from Vc 1 x ++ (names_from Ve 1 y ++ (names_from Fe 1 z ++ []))) ≡ x + y + z
count_names x y z =
    length-append (names_from Vc 1 x) _ ∙ (λ i. length-map-range_with_len (name Vc) 1 x i + (length-append (names_from Ve 1 y) (names_from Fe 1 z ++ [])
    ∙ (λ j. length-map-range_with_len (name Ve) 1 y j + (ap length (append-nil (names_from Fe 1 z)) ∙ length-map-range_with_len (name Fe) 1 z) j)) i)
    ∙ omega arith

few : (n : ℕ) → n ≤ 100 → (n + 1) * (n + 1) + 2 * (n * (n + 1)) + (n * n + 1) ≤ 262144
few n high =
    let square : n * n ≤ 100 * 100 = mul-le-mul high high in
    omega (arith, high, square)

pub generated_writable : (n : ℕ) → 1 ≤ n → n ≤ 100 → IsWritable (generated_cell n)
unfolding generated_cell is_fit_head digits
generated_writable n low high = record {
  head_fits = refl;
  isolated_nodes = All-nil (IsOf Vi);
  connected_nodes = all_places (IsOf Vc) (node_at n) (λ row column. refl) (n + 1) (n + 1);
  edges = All-append (IsOf Ve) _ _ (all_places (IsOf Ve) (east_edge n) (λ row column. refl) (n + 1) n)
      (all_places (IsOf Ve) (north_edge n) (λ row column. refl) n (n + 1));
  features = All-append (IsOf Fe) _ _ (all_places (IsOf Fe) (depth_area n) (λ row column. refl) n n)
      (All-cons (IsOf Fe) (coverage_area n) [] refl (All-nil (IsOf Fe)));
  records_fit = fit n low high;
  names_distinct = subst (IsDistinct same_name) (sym (all_names n)) (all_distinct ((n + 1) * (n + 1)) (2 * (n * (n + 1))) (n * n + 1));
  not_too_many = let count = sym (length-map (all_records (generated_cell n)) name_of) ∙ ap length (all_names n)
      ∙ count_names ((n + 1) * (n + 1)) (2 * (n * (n + 1))) (n * n + 1) in
      omega (arith, count, few n high);
}
