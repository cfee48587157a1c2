-- Two segments on one line, and a point and a segment: the order of points tells what they have in common.
use Rattle.std.proofs.Common.{◌≡◌, ℕ, ◌+◌, ◌*◌, ◌<◌, ◌≤◌, arith, refl, ap, sym, subst, ⊎_elim, inl, inr, ◌⊎◌, ◌∙◌, min, max, cond, Ordering}
use Rattle.std.specs.declared.cmp.Ordering.TheVariants.{Less, Equal, Greater}
use Rattle.std.specs.Ordering.{MatchOrdering, int_cmp, ordering_then, is_lt}
use Rattle.std.proofs.Math.Nat.{mul-le-mul_right}
use Rattle.std.proofs.lemmas.Int.{ints}
use Rattle.std.proofs.lemmas.Cmp.{int_ranked}
use Rattle.geometry_spec.specs.Points.{Point, point_cmp}
use Rattle.geometry_spec.specs.Signs.{earlier, later}
use Rattle.geometry_spec.proofs.Weights.{GridPoint, left_sum, right_sum, Weights}
use Rattle.geometry_spec.proofs.LineOrder.{OnByWeights, rank, between, common_at, low_rank, high_rank}
use Rattle.geometry_spec.proofs.Shift.{shifted, IsCovered, grid_point, shifted_is, in_grid}
use Rattle.geometry_spec.proofs.ShiftedPoints.{AreCovered}
use Rattle.geometry_spec.proofs.Sides.{AreOnOneLine}

-- ---- the order of points is that of their ranks
abbrev pub rank_of : ℕ → ℕ → Point → ℕ
rank_of shift width p = rank width (grid_point shift p)

abbrev pub IsRanked : ℕ → ℕ → Point → Point → Ordering → Type 0
IsRanked shift width a b o =
    MatchOrdering o (rank_of shift width a < rank_of shift width b) (rank_of shift width a ≡ rank_of shift width b)
    (rank_of shift width b < rank_of shift width a)

lower_row : (y x y' x' width : ℕ) → y < y' → x < width → y * width + x < y' * width + x'
lower_row y x y' x' width h g = omega (arith, mul-le-mul_right width h)

ranked_by : (shift width : ℕ) (a b : Point) → IsCovered shift width a → IsCovered shift width b → (rows columns : Ordering) → rows ≡ int_cmp a.0 b.0
    → columns ≡ int_cmp a.1 b.1 → IsRanked shift width a b (ordering_then rows columns)
ranked_by shift width a b fa fb Less columns e g = lower_row (shifted shift a.0) (shifted shift a.1) (shifted shift b.0) (shifted shift b.1) width
    (omega (arith, ints, int_ranked a.0 b.0 Less e, shifted_is shift a.0 fa.y, shifted_is shift b.0 fb.y)) (in_grid shift width a fa).x
ranked_by shift width a b fa fb Greater columns e g = lower_row (shifted shift b.0) (shifted shift b.1) (shifted shift a.0) (shifted shift a.1) width
    (omega (arith, ints, int_ranked a.0 b.0 Greater e, shifted_is shift a.0 fa.y, shifted_is shift b.0 fb.y)) (in_grid shift width b fb).x
ranked_by shift width a b fa fb Equal Less e g =
    let rows = ap (λ z. shifted shift z * width) (int_ranked a.0 b.0 Equal e) in
    omega (arith, ints, rows, int_ranked a.1 b.1 Less g, shifted_is shift a.1 fa.x, shifted_is shift b.1 fb.x)
ranked_by shift width a b fa fb Equal Equal e g =
    omega (arith, ap (λ z. shifted shift z * width) (int_ranked a.0 b.0 Equal e), ap (shifted shift) (int_ranked a.1 b.1 Equal g))
ranked_by shift width a b fa fb Equal Greater e g =
    let rows = ap (λ z. shifted shift z * width) (int_ranked a.0 b.0 Equal e) in
    omega (arith, ints, rows, int_ranked a.1 b.1 Greater g, shifted_is shift a.1 fa.x, shifted_is shift b.1 fb.x)

pub ranked : (shift width : ℕ) (a b : Point) → IsCovered shift width a → IsCovered shift width b → IsRanked shift width a b (point_cmp a b)
ranked shift width a b fa fb = ranked_by shift width a b fa fb (int_cmp a.0 b.0) (int_cmp a.1 b.1) refl refl

-- ---- the earlier and the later of two points
-- e is one of a and b, and has the rank n
pub record IsChosen (shift width : ℕ) (a b e : Point) (n : ℕ) : Type 0 where
  pub which : (e ≡ a) ⊎ (e ≡ b)
  pub covered : IsCovered shift width e
  pub has_rank : rank_of shift width e ≡ n

-- what holds of a and of b holds of the one chosen
pub of_chosen : (P : Point → Type 0) (a b e : Point) → (e ≡ a) ⊎ (e ≡ b) → P a → P b → P e
of_chosen P a b e which at_a at_b = ⊎_elim (λ k. subst P (sym k) at_a) (λ k. subst P (sym k) at_b) which

chosen : (shift width : ℕ) (a b e : Point) → IsCovered shift width a → IsCovered shift width b → (n : ℕ) → (e ≡ a) ⊎ (e ≡ b)
    → rank_of shift width e ≡ n → IsChosen shift width a b e n
chosen shift width a b e fa fb n which at_rank =
    record { which = which; covered = of_chosen (λ x. IsCovered shift width x) a b e which fa fb; has_rank = at_rank }

earlier_by : (shift width : ℕ) (a b : Point) → IsCovered shift width a → IsCovered shift width b → (o : Ordering) → IsRanked shift width b a o
    → IsChosen shift width a b (cond (is_lt o) b a) (min (rank_of shift width a) (rank_of shift width b))
earlier_by shift width a b fa fb Less h = chosen shift width a b b fa fb (min (rank_of shift width a) (rank_of shift width b)) (inr refl) (omega (arith, h))
earlier_by shift width a b fa fb Equal h = chosen shift width a b a fa fb (min (rank_of shift width a) (rank_of shift width b)) (inl refl) (omega (arith, h))
earlier_by shift width a b fa fb Greater h = chosen shift width a b a fa fb (min (rank_of shift width a) (rank_of shift width b)) (inl refl) (omega (arith, h))

later_by : (shift width : ℕ) (a b : Point) → IsCovered shift width a → IsCovered shift width b → (o : Ordering) → IsRanked shift width b a o
    → IsChosen shift width a b (cond (is_lt o) a b) (max (rank_of shift width a) (rank_of shift width b))
later_by shift width a b fa fb Less h = chosen shift width a b a fa fb (max (rank_of shift width a) (rank_of shift width b)) (inl refl) (omega (arith, h))
later_by shift width a b fa fb Equal h = chosen shift width a b b fa fb (max (rank_of shift width a) (rank_of shift width b)) (inr refl) (omega (arith, h))
later_by shift width a b fa fb Greater h = chosen shift width a b b fa fb (max (rank_of shift width a) (rank_of shift width b)) (inr refl) (omega (arith, h))

pub earlier_is : (shift width : ℕ) (a b : Point) → IsCovered shift width a → IsCovered shift width b
    → IsChosen shift width a b (earlier a b) (min (rank_of shift width a) (rank_of shift width b))
earlier_is shift width a b fa fb = earlier_by shift width a b fa fb (point_cmp b a) (ranked shift width b a fb fa)

pub later_is : (shift width : ℕ) (a b : Point) → IsCovered shift width a → IsCovered shift width b
    → IsChosen shift width a b (later a b) (max (rank_of shift width a) (rank_of shift width b))
later_is shift width a b fa fb = later_by shift width a b fa fb (point_cmp b a) (ranked shift width b a fb fa)

-- ---- an end on both lines
pub record IsOnBothLines (shift width : ℕ) (p q r s e : Point) : Type 0 where
  pub covered : IsCovered shift width e
  pub first : right_sum (grid_point shift p) (grid_point shift q) (grid_point shift e) ≡ left_sum (grid_point shift p) (grid_point shift q) (grid_point shift e)
  pub second : right_sum (grid_point shift r) (grid_point shift s) (grid_point shift e) ≡ left_sum (grid_point shift r) (grid_point shift s)
      (grid_point shift e)

first_on_line : (a b : GridPoint) → right_sum a b a ≡ left_sum a b a
first_on_line a b = omega arith

last_on_line : (a b : GridPoint) → right_sum a b b ≡ left_sum a b b
last_on_line a b = omega arith

pub record OnOneLine (shift width : ℕ) (p q r s : Point) : Type 0 where
  pub covered : AreCovered shift width p q r s
  pub line : AreOnOneLine (grid_point shift p) (grid_point shift q) (grid_point shift r) (grid_point shift s)

of_first : (shift width : ℕ) (p q r s e : Point) → OnOneLine shift width p q r s → (e ≡ p) ⊎ (e ≡ q) → IsOnBothLines shift width p q r s e
of_first shift width p q r s e f which = of_chosen (λ x. IsOnBothLines shift width p q r s x) p q e which
    (record { covered = f.covered.at_p; first = first_on_line (grid_point shift p) (grid_point shift q); second = f.line.p_on })
    (record { covered = f.covered.at_q; first = last_on_line (grid_point shift p) (grid_point shift q); second = f.line.q_on })

of_second : (shift width : ℕ) (p q r s e : Point) → OnOneLine shift width p q r s → (e ≡ r) ⊎ (e ≡ s) → IsOnBothLines shift width p q r s e
of_second shift width p q r s e f which = of_chosen (λ x. IsOnBothLines shift width p q r s x) r s e which
    (record { covered = f.covered.at_r; first = f.line.r_on; second = first_on_line (grid_point shift r) (grid_point shift s) })
    (record { covered = f.covered.at_s; first = f.line.s_on; second = last_on_line (grid_point shift r) (grid_point shift s) })

-- ---- where the common points begin and end
abbrev pub start_of : Point → Point → Point → Point → Point
start_of p q r s = later (earlier p q) (earlier r s)

abbrev pub end_of : Point → Point → Point → Point → Point
end_of p q r s = earlier (later p q) (later r s)

pub record IsBound (shift width : ℕ) (p q r s e : Point) (n : ℕ) : Type 0 where
  pub on_both : IsOnBothLines shift width p q r s e
  pub has_rank : rank_of shift width e ≡ n

abbrev pub low_of : ℕ → ℕ → Point → Point → Point → Point → ℕ
low_of shift width p q r s = low_rank width (grid_point shift p) (grid_point shift q) (grid_point shift r) (grid_point shift s)

abbrev pub high_of : ℕ → ℕ → Point → Point → Point → Point → ℕ
high_of shift width p q r s = high_rank width (grid_point shift p) (grid_point shift q) (grid_point shift r) (grid_point shift s)

-- what the ends of two segments choose among: of each two ends one, and of these one
bound_is : (shift width : ℕ) (inner outer : Point → Point → Point) (least most : ℕ → ℕ → ℕ)
    → ((a b : Point) → IsCovered shift width a → IsCovered shift width b
    → IsChosen shift width a b (inner a b) (least (rank_of shift width a) (rank_of shift width b)))
    → ((a b : Point) → IsCovered shift width a → IsCovered shift width b
    → IsChosen shift width a b (outer a b) (most (rank_of shift width a) (rank_of shift width b)))
    → (p q r s : Point) → OnOneLine shift width p q r s
    → IsBound shift width p q r s (outer (inner p q) (inner r s))
    (most (least (rank_of shift width p) (rank_of shift width q)) (least (rank_of shift width r) (rank_of shift width s)))
bound_is shift width inner outer least most of_two of_both p q r s f =
    let a = of_two p q f.covered.at_p f.covered.at_q in
    let b = of_two r s f.covered.at_r f.covered.at_s in
    let e = of_both (inner p q) (inner r s) a.covered b.covered in
    record {
      on_both = of_chosen (λ x. IsOnBothLines shift width p q r s x) (inner p q) (inner r s) (outer (inner p q) (inner r s)) e.which
          (of_first shift width p q r s (inner p q) f a.which) (of_second shift width p q r s (inner r s) f b.which);
      has_rank = e.has_rank ∙ (λ i. most (a.has_rank i) (b.has_rank i));
    }

pub start_is : (shift width : ℕ) (p q r s : Point) → OnOneLine shift width p q r s
    → IsBound shift width p q r s (start_of p q r s) (low_of shift width p q r s)
start_is shift width p q r s f = bound_is shift width earlier later min max (earlier_is shift width) (later_is shift width) p q r s f

pub end_is : (shift width : ℕ) (p q r s : Point) → OnOneLine shift width p q r s
    → IsBound shift width p q r s (end_of p q r s) (high_of shift width p q r s)
end_is shift width p q r s f = bound_is shift width later earlier max min (later_is shift width) (earlier_is shift width) p q r s f

-- ---- a common point at a bound
pub record IsCommonAt (width : ℕ) (p q r s e : GridPoint) : Type 0 where
  pub weights : Weights p q r s
  pub there : weights.a * rank width p + weights.m * rank width q ≡ (weights.a + weights.m) * rank width e

rank_times : (a m p q e f : ℕ) → a * p + m * q ≡ (a + m) * e → (a * f) * p + (m * f) * q ≡ (a * f + m * f) * e
rank_times a m p q e f g = omega (arith, ap (λ t. t * f) g)

common_by : (width : ℕ) (p q r s e : GridPoint) → OnByWeights p q e → OnByWeights r s e → IsCommonAt width p q r s e
common_by width p q r s e o u =
    record {
      weights = common_at p q r s e o u;
      there = rank_times o.a o.m (rank width p) (rank width q) (rank width e) (u.a + u.m) (omega (
        arith,
        ap (λ t. t * width) o.y,
        o.x,
      ));
    }

pub common_at_bound : (shift width : ℕ) (p q r s e : Point) → AreCovered shift width p q r s → IsOnBothLines shift width p q r s e
    → low_of shift width p q r s ≤ rank_of shift width e → rank_of shift width e ≤ high_of shift width p q r s
    → IsCommonAt width (grid_point shift p) (grid_point shift q) (grid_point shift r) (grid_point shift s) (grid_point shift e)
common_at_bound shift width p q r s e f o low high =
    common_by width (grid_point shift p) (grid_point shift q) (grid_point shift r) (grid_point shift s) (grid_point shift e)
    (between width _ _ _ (in_grid shift width p f.at_p) (in_grid shift width q f.at_q) (in_grid shift width e o.covered) (omega arith) (omega arith) o.first)
    (between width _ _ _ (in_grid shift width r f.at_r) (in_grid shift width s f.at_s) (in_grid shift width e o.covered) (omega arith) (omega arith) o.second)
