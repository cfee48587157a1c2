-- Sums of winding numbers are sums over edges.
use Rattle.std.proofs.Common.{◌≡◌, ℕ, ◌+◌, ◌==◌, ◌&&◌, Bool, true, false, List, [], ◌∷◌, Option, None, Some, cond, map, filter, eqb-true, refl, sym, ap, ◌∙◌}
use Rattle.std.proofs.Common.{inl, inr, ℤ, pos, negsuc, ◌+ℤ◌, ◌-ℤ◌, ◌*ℤ◌, arith}
use Rattle.std.specs.Prelude.{filter_map, option_map, option_and_then}
use Rattle.std.specs.Option.{option_map_or}
use Rattle.std.specs.List.{IsDistinct}
use Rattle.std.proofs.lemmas.Int.{ints}
use Rattle.std.proofs.lemmas.List.Sums.{sum_by-cons}
use Rattle.s57_types.specs.declared.name.RecName.{RecName}
use Rattle.s57_types.specs.declared.record.Feature.{Feature}
use Rattle.s57_types.specs.declared.record.Spot.{Spot}
use Rattle.s57_types.specs.declared.record.Vector.{Vector}
use Rattle.s57_types.specs.declared.cell.Cell.{Cell}
use Rattle.cell_spec.specs.declared.key.Ref.{Ref}
use Rattle.cell_spec.specs.Lookup.{name_of}
use Rattle.cell_spec.specs.Names.{same_name}
use Rattle.cell_spec.specs.Writable.{IsWritable}
use Rattle.cell_spec.proofs.Orders.{one_when_same, same_from_either}
use Rattle.geometry_spec.specs.Points.{Point}
use Rattle.rule_spec.specs.declared.line.EdgeLine.{EdgeLine}
use Rattle.rule_spec.specs.declared.side.EdgeUse.{EdgeUse}
use Rattle.rule_spec.specs.EdgePoints.{Segment, edge_line_of, edge_points_of, line_of, segments_of}
use Rattle.rule_spec.specs.Features.{is_coverage_area, is_group1_area}
use Rattle.rule_spec.specs.Records.{edge_named, feature_of}
use Rattle.rule_spec.specs.Sides.{side_count, use_of_row, uses_of}
use Rattle.answer_laws.proofs.Among.{Among, known_of}
use Rattle.skin_probe.specs.Totals.{winding_total}
use Rattle.skin_probe.specs.Winding.{backwards, crossing_of, edge_winding, pointer_winding, sum_of, winding_along, winding_number}
use Rattle.skin_probe.specs.WindingLaws.{WindingSumByEdges}
use Rattle.skin_probe.proofs.Crossings.{backwards_negates}
use Rattle.skin_probe.proofs.Named.{among_edges, edges_distinct, named_same}
use Rattle.skin_probe.proofs.Rows.{feature_share, uses_sum}
use Rattle.skin_probe.proofs.Sums.{minus_times, one_times, sum_filtered, sum_none, sum_same, sum_scaled, sum_swapped, times_zero, zero_times}

-- ---- directions
-- 1 forward, -1 in reverse, else 0
abbrev direction : ℕ → ℤ
direction ornt = cond (ornt == 1) (pos 1) (cond (ornt == 2) (negsuc 0) (pos 0))

along_by : (at : Point) (segments : List Segment) (forward reverse : Bool)
    → sum_of (crossing_of at) (cond forward segments (cond reverse (map backwards segments) []))
    ≡ cond forward (pos 1) (cond reverse (negsuc 0) (pos 0)) *ℤ sum_of (crossing_of at) segments
along_by at segments true reverse = sym (one_times (sum_of (crossing_of at) segments))
along_by at segments false true = backwards_negates at segments ∙ sym (minus_times (sum_of (crossing_of at) segments))
along_by at segments false false = sym (zero_times (sum_of (crossing_of at) segments))

pointer_by : (at : Point) (ornt : ℕ) (points : Option (List Point))
    → option_map_or (winding_along at ornt) points (pos 0) ≡ direction ornt *ℤ option_map_or (winding_along at 1) points (pos 0)
pointer_by at ornt None = sym (times_zero (direction ornt))
pointer_by at ornt (Some points) = along_by at (segments_of points) (ornt == 1) (ornt == 2)

-- ---- counts of uses
apart_codes : (ornt : ℕ) → (ornt == 1) ≡ true → (ornt == 2) ≡ true → ⊥
apart_codes ornt e f = omega (arith, eqb-true ornt 1 e, eqb-true ornt 2 f)

use_by : (such forward reverse : Bool) → (forward ≡ true → reverse ≡ true → ⊥)
    → cond such (cond forward (pos 1) (cond reverse (negsuc 0) (pos 0))) (pos 0)
    ≡ pos (cond (such && forward) 1 0) -ℤ pos (cond (such && reverse) 1 0)
use_by true true true apart = absurd (apart refl refl)
use_by true true false apart = refl
use_by true false true apart = refl
use_by true false false apart = refl
use_by false forward reverse apart = refl

-- the uses of such areas, forward ones less reverse ones
uses_counted : (such : EdgeUse → Bool) (uses : List EdgeUse)
    → sum_of (λ (u : EdgeUse). cond (such u) (direction u.ornt) (pos 0)) uses ≡ pos (side_count such 1 uses) -ℤ pos (side_count such 2 uses)
uses_counted such [] = refl
uses_counted such (u ∷ uses) =
    let one = sum_by-cons (λ (v : EdgeUse). cond (such v && (v.ornt == 1)) 1 0) u uses in
    let two = sum_by-cons (λ (v : EdgeUse). cond (such v && (v.ornt == 2)) 1 0) u uses in
    joined (cond (such u) (direction u.ornt) (pos 0)) (sum_of (λ (v : EdgeUse). cond (such v) (direction v.ornt) (pos 0)) uses)
    (cond (such u && (u.ornt == 1)) 1 0) (cond (such u && (u.ornt == 2)) 1 0) (side_count such 1 uses) (side_count such 2 uses)
    (side_count such 1 (u ∷ uses)) (side_count such 2 (u ∷ uses))
    (use_by (such u) (u.ornt == 1) (u.ornt == 2) (apart_codes u.ornt)) (uses_counted such uses) one two
  where
    joined : (a s : ℤ) (x y m n xm yn : ℕ) → a ≡ pos x -ℤ pos y → s ≡ pos m -ℤ pos n → xm ≡ x + m → yn ≡ y + n → a +ℤ s ≡ pos xm -ℤ pos yn
    joined a s x y m n xm yn e f g h = omega (arith, ints)

-- a name that is no edge's has no part
pub no_edge_part : (c : Cell) (at : Point) (n : RecName) → edge_named c n ≡ None → edge_winding c at n ≡ pos 0
unfolding edge_line_of
no_edge_part c at n none = ap (λ (o : Option Vector).
    option_map_or (winding_along at 1) (option_map (λ (line : EdgeLine). line.points) (option_and_then (line_of c) o)) (pos 0)) none

module _ (c : Cell) (w : IsWritable c) (at : Point) where
  abbrev edges : List RecName
  edges = map name_of c.ve

  abbrev part_of : RecName → ℤ
  part_of e = edge_winding c at e

  -- ---- one row, as a sum over edges
  abbrev term : ℤ → RecName → RecName → ℤ
  term a n e = cond (same_name e n) a (pos 0) *ℤ part_of e

  term_apart : (a : ℤ) (n e : RecName) → same_name e n ≡ false → term a n e ≡ pos 0
  term_apart a n e apart = ap (λ b. cond b a (pos 0) *ℤ part_of e) apart ∙ zero_times (part_of e)

  none_by : (a : ℤ) (n e : RecName) (same : Bool) → same_name e n ≡ same → part_of n ≡ pos 0 → term a n e ≡ pos 0
  none_by a n e true is none =
      ap (λ z. cond (same_name e n) a (pos 0) *ℤ z) (ap part_of (one_when_same e n is) ∙ none) ∙ times_zero (cond (same_name e n) a (pos 0))
  none_by a n e false is none = term_apart a n e is

  once : (a : ℤ) (n : RecName) (es : List RecName) → IsDistinct same_name es → Among n es → sum_of (term a n) es ≡ a *ℤ part_of n
  unfolding IsDistinct
  once a n [] apart there = absurd there
  once a n (e ∷ es) apart (inl is) =
      let others = sum_none (term a n) es (λ m at.
      term_apart a n m (same_from_either m n ∙ ap (λ z. same_name z m) (sym is) ∙ known_of (λ z. same_name e z ≡ false) m es apart.0 at)) in
      let own = ap (λ b. cond b a (pos 0) *ℤ part_of e) (ap (same_name e) (sym is) ∙ named_same e) ∙ ap (λ z. a *ℤ part_of z) is in
      last (term a n e) (sum_of (term a n) es) (a *ℤ part_of n) own others
    where
      last : (x s y : ℤ) → x ≡ y → s ≡ pos 0 → x +ℤ s ≡ y
      last x s y e f = omega (arith, ints)
  once a n (e ∷ es) apart (inr there) =
      let first = term_apart a n e (known_of (λ z. same_name e z ≡ false) n es apart.0 there) in
      ap (λ z. z +ℤ sum_of (term a n) es) first ∙ zero_first (sum_of (term a n) es) ∙ once a n es apart.1 there
    where
      zero_first : (s : ℤ) → pos 0 +ℤ s ≡ s
      zero_first s = omega (arith, ints)

  row_by : (a : ℤ) (n : RecName) (o : Option Vector) → edge_named c n ≡ o → sum_of (term a n) edges ≡ a *ℤ part_of n
  row_by a n None is =
      let none = no_edge_part c at n is in
      sum_none (term a n) edges (λ e at. none_by a n e (same_name e n) refl none) ∙ sym (ap (λ z. a *ℤ z) none ∙ times_zero a)
  row_by a n (Some v) is = once a n edges (edges_distinct c w) (among_edges c w n v is)

  -- what a row adds is a sum over edges
  row_sum : (s : Spot) → pointer_winding c at s ≡ sum_of (term (direction s.ornt) s.to) edges
  row_sum s = pointer_by at s.ornt (edge_points_of c s.to) ∙ sym (row_by (direction s.ornt) s.to (edge_named c s.to) refl)

  -- ---- an area, as a sum over edges
  -- how much more often an area goes along an edge forward than in reverse
  abbrev excess_of : Feature → RecName → ℤ
  excess_of f e = sum_of (λ (s : Spot). cond (same_name e s.to) (direction s.ornt) (pos 0)) f.places

  area_sum : (f : Feature) → winding_number c at f ≡ sum_of (λ e. excess_of f e *ℤ part_of e) edges
  area_sum f =
      sum_same (pointer_winding c at) (λ (s : Spot). sum_of (term (direction s.ornt) s.to) edges) f.places (λ s at. row_sum s)
      ∙ sum_swapped (λ (s : Spot) (e : RecName). term (direction s.ornt) s.to e) f.places edges
      ∙ sum_same (λ e. sum_of (λ (s : Spot). term (direction s.ornt) s.to e) f.places) (λ e. excess_of f e *ℤ part_of e) edges
      (λ e at. sum_scaled (λ (s : Spot). cond (same_name e s.to) (direction s.ornt) (pos 0)) (part_of e) f.places)

  -- ---- all areas of a sort
  module _ (such_use : EdgeUse → Bool) (such : Feature → Bool) (is_such : (r : Ref) (f : Feature) (s : Spot) → such_use (use_of_row r f s) ≡ such f) where
    abbrev features : List Feature
    features = filter_map feature_of c.fe

    abbrev use_part : EdgeUse → ℤ
    use_part u = cond (such_use u) (direction u.ornt) (pos 0)

    abbrev share : Feature → Spot → ℤ
    share f s = cond (such f) (direction s.ornt) (pos 0)

    share_by : (e : RecName) (places : List Spot) (is : Bool)
        → cond is (sum_of (λ (s : Spot). cond (same_name e s.to) (direction s.ornt) (pos 0)) places) (pos 0)
        ≡ sum_of (λ (s : Spot). cond (same_name e s.to) (cond is (direction s.ornt) (pos 0)) (pos 0)) places
    share_by e places true = refl
    share_by e places false = sym (sum_none (λ (s : Spot). cond (same_name e s.to) (pos 0) (pos 0)) places (λ s at. both (same_name e s.to)))
      where
        both : (b : Bool) → cond b (pos 0) (pos 0) ≡ pos 0
        both true = refl
        both false = refl

    -- the areas' excess along an edge is that of its uses
    excess_is : (e : RecName) → sum_of (λ f. excess_of f e) (filter such features)
        ≡ pos (side_count such_use 1 (uses_of c e)) -ℤ pos (side_count such_use 2 (uses_of c e))
    excess_is e =
        sum_filtered (λ f. excess_of f e) such features
        ∙ sum_same (λ f. cond (such f) (excess_of f e) (pos 0)) (feature_share c w e use_part share same_share) features
        (λ f at. share_by e f.places (such f))
        ∙ sym (uses_sum c w e use_part share same_share)
        ∙ uses_counted such_use (uses_of c e)
      where
        same_share : (r : Ref) (f : Feature) (s : Spot) → use_part (use_of_row r f s) ≡ share f s
        same_share r f s = ap (λ b. cond b (direction s.ornt) (pos 0)) (is_such r f s)

    total_by_edges : winding_total such c at
        ≡ sum_of (λ e. (pos (side_count such_use 1 (uses_of c e)) -ℤ pos (side_count such_use 2 (uses_of c e))) *ℤ part_of e) edges
    total_by_edges =
        let areas = filter such features in
        sum_same (winding_number c at) (λ f. sum_of (λ e. excess_of f e *ℤ part_of e) edges) areas (λ f at. area_sum f)
        ∙ sum_swapped (λ (f : Feature) (e : RecName). excess_of f e *ℤ part_of e) areas edges
        ∙ sum_same (λ e. sum_of (λ f. excess_of f e *ℤ part_of e) areas)
        (λ e. (pos (side_count such_use 1 (uses_of c e)) -ℤ pos (side_count such_use 2 (uses_of c e))) *ℤ part_of e) edges
        (λ e at. sum_scaled (λ f. excess_of f e) (part_of e) areas ∙ ap (λ z. z *ℤ part_of e) (excess_is e))

pub sums_are_by_edges : WindingSumByEdges
sums_are_by_edges c w at = record {
  group1 = total_by_edges c w at (λ (u : EdgeUse). u.is_group1) is_group1_area (λ r f s. refl);
  coverage = total_by_edges c w at (λ (u : EdgeUse). u.is_coverage) is_coverage_area (λ r f s. refl);
}
