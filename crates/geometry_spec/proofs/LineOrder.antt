-- Points in the order of their rank, row by row: what two segments on one line have in common is told by four ranks.
use Rattle.std.proofs.Common.{◌≡◌, ℕ, ◌+◌, ◌*◌, ◌-◌, ◌<◌, ◌≤◌, arith, ap, sym, ⊎_elim, min, max}
use Rattle.std.proofs.Math.Nat.{mul-le-mul_left, mul-lt-mul_of_pos_right, mul-lt-mul_of_pos_left}
use Rattle.std.proofs.lemmas.Nat.{same_from_place}
use Rattle.std.proofs.lemmas.Bool.{cases_lt, cases_order}
use Rattle.geometry_spec.proofs.Weights.{GridPoint, left_sum, right_sum, Weights, IsSameWeighted, cancel}

-- the place of a point among those of a grid so many points wide, row by row
abbrev pub rank : ℕ → GridPoint → ℕ
rank width p = p.y * width + p.x

pub record IsInGrid (width : ℕ) (p : GridPoint) : Type 0 where
  pub x : p.x < width

-- two points of one rank are one
same_rank_y : (width : ℕ) (p q : GridPoint) → IsInGrid width p → IsInGrid width q → rank width p ≡ rank width q → p.y ≡ q.y
same_rank_y width p q g h e = (same_from_place p.y p.x q.y q.x width g.x h.x e).0

same_rank_x : (width : ℕ) (p q : GridPoint) → IsInGrid width p → IsInGrid width q → rank width p ≡ rank width q → p.x ≡ q.x
same_rank_x width p q g h e = (same_from_place p.y p.x q.y q.x width g.x h.x e).1

-- e lies on the closed segment p q: the weights of p and q
pub record OnByWeights (p q e : GridPoint) : Type 0 where
  pub a : ℕ
  pub m : ℕ
  pub some : 0 < a + m
  pub y : a * p.y + m * q.y ≡ (a + m) * e.y
  pub x : a * p.x + m * q.x ≡ (a + m) * e.x

-- ---- what is on the line of p and q, and in rank between them, lies on the segment
between_by : (width : ℕ) (p q e : GridPoint) (a m : ℕ) → 0 < a + m → a + rank width e ≡ rank width q → m + rank width p ≡ rank width e
    → right_sum p q e ≡ left_sum p q e → OnByWeights p q e
between_by width p q e a m some ea em line = record {
  a = a;
  m = m;
  some = some;
  y = omega (arith, ap (λ t. t * p.y) ea, ap (λ t. t * e.y) ea, ap (λ t. t * q.y) em, ap (λ t. t * e.y) em, line);
  x = omega (arith, ap (λ t. t * p.x) ea, ap (λ t. t * e.x) ea, ap (λ t. t * q.x) em, ap (λ t. t * e.x) em, ap (λ t. t * width) line);
}

on_reversed : (p q e : GridPoint) → OnByWeights q p e → OnByWeights p q e
on_reversed p q e o = record { a = o.m; m = o.a; some = omega arith; y = omega (arith, o.y); x = omega (arith, o.x) }

on_first : (width : ℕ) (p q e : GridPoint) → IsInGrid width p → IsInGrid width e → rank width p ≡ rank width e → OnByWeights p q e
on_first width p q e gp ge same =
    record { a = 1; m = 0; some = omega arith; y = omega (arith, same_rank_y width p e gp ge same); x = omega (arith, same_rank_x width p e gp ge same) }

between_upwards : (width : ℕ) (p q e : GridPoint) → IsInGrid width p → IsInGrid width e → rank width p ≤ rank width e → rank width e ≤ rank width q
    → right_sum p q e ≡ left_sum p q e → OnByWeights p q e
between_upwards width p q e gp ge low high line = ⊎_elim
    (λ l. between_by width p q e (rank width q - rank width e) (rank width e - rank width p) (omega arith) (omega arith) (omega arith) line)
    (λ g. on_first width p q e gp ge (omega arith))
    (cases_lt (rank width p) (rank width q))

pub between : (width : ℕ) (p q e : GridPoint) → IsInGrid width p → IsInGrid width q → IsInGrid width e
    → min (rank width p) (rank width q) ≤ rank width e → rank width e ≤ max (rank width p) (rank width q) → right_sum p q e ≡ left_sum p q e
    → OnByWeights p q e
between width p q e gp gq ge low high line = ⊎_elim
    (λ l. between_upwards width p q e gp ge (omega arith) (omega arith) line)
    (λ g. on_reversed p q e (between_upwards width q p e gq ge (omega arith) (omega arith) (omega arith)))
    (cases_lt (rank width p) (rank width q))

-- ---- and back: what lies on the segment is on its line and in rank between its ends
pub on_line : (p q e : GridPoint) → OnByWeights p q e → right_sum p q e ≡ left_sum p q e
on_line p q e o =
    cancel (right_sum p q e) (left_sum p q e) (o.a + o.m) 0 o.some (omega (
      arith,
      ap (λ t. t * q.x) o.y,
      ap (λ t. t * p.x) o.y,
      ap (λ t. t * q.y) o.x,
      ap (λ t. t * p.y) o.x,
    ))

not_below : (a m p q e low : ℕ) → 0 < a + m → low ≤ p → low ≤ q → a * p + m * q ≡ (a + m) * e → low ≤ e
not_below a m p q e low some g h s = ⊎_elim
    (λ l. absurd (omega (arith, mul-le-mul_left a g, mul-le-mul_left m h, mul-lt-mul_of_pos_left l some)))
    (λ o. o) (cases_lt e low)

not_above : (a m p q e high : ℕ) → 0 < a + m → p ≤ high → q ≤ high → a * p + m * q ≡ (a + m) * e → e ≤ high
not_above a m p q e high some g h s = ⊎_elim
    (λ l. absurd (omega (arith, mul-le-mul_left a g, mul-le-mul_left m h, mul-lt-mul_of_pos_left l some)))
    (λ o. o) (cases_lt high e)

on_rank : (width : ℕ) (p q e : GridPoint) (o : OnByWeights p q e) → o.a * rank width p + o.m * rank width q ≡ (o.a + o.m) * rank width e
on_rank width p q e o = omega (arith, ap (λ t. t * width) o.y, o.x)

pub on_between : (width : ℕ) (p q e : GridPoint) (o : OnByWeights p q e)
    → (min (rank width p) (rank width q) ≤ rank width e) × (rank width e ≤ max (rank width p) (rank width q))
on_between width p q e o = (
  not_below o.a o.m (rank width p) (rank width q) (rank width e) (min (rank width p) (rank width q)) o.some (omega arith) (omega arith) (on_rank width p q e o),
  not_above o.a o.m (rank width p) (rank width q) (rank width e) (max (rank width p) (rank width q)) o.some (omega arith) (omega arith) (on_rank width p q e o),
)

-- ---- a point on both segments is a common point
abbrev pub common_at : (p q r s e : GridPoint) → OnByWeights p q e → OnByWeights r s e → Weights p q r s
common_at p q r s e o u = record {
  a = o.a * (u.a + u.m);
  m = o.m * (u.a + u.m);
  b = u.a * (o.a + o.m);
  n = u.m * (o.a + o.m);
  some = omega (arith, mul-lt-mul_of_pos_right o.some u.some);
  even = omega arith;
  same_y = omega (arith, ap (λ t. t * (u.a + u.m)) o.y, ap (λ t. t * (o.a + o.m)) u.y);
  same_x = omega (arith, ap (λ t. t * (u.a + u.m)) o.x, ap (λ t. t * (o.a + o.m)) u.x);
}

-- ---- a common point's rank lies between the greater of the lesser ranks and the lesser of the greater ones
even_rank : (width : ℕ) (p q r s : GridPoint) (w : Weights p q r s)
    → w.a * rank width p + w.m * rank width q ≡ w.b * rank width r + w.n * rank width s
even_rank width p q r s w = omega (arith, ap (λ t. t * width) w.same_y, w.same_x)

pub mean_not_below : (a m p q low : ℕ) → low ≤ p → low ≤ q → (a + m) * low ≤ a * p + m * q
mean_not_below a m p q low g h = omega (arith, mul-le-mul_left a g, mul-le-mul_left m h)

pub mean_not_above : (a m p q high : ℕ) → p ≤ high → q ≤ high → a * p + m * q ≤ (a + m) * high
mean_not_above a m p q high g h = omega (arith, mul-le-mul_left a g, mul-le-mul_left m h)

abbrev pub low_rank : ℕ → GridPoint → GridPoint → GridPoint → GridPoint → ℕ
low_rank width p q r s = max (min (rank width p) (rank width q)) (min (rank width r) (rank width s))

abbrev pub high_rank : ℕ → GridPoint → GridPoint → GridPoint → GridPoint → ℕ
high_rank width p q r s = min (max (rank width p) (rank width q)) (max (rank width r) (rank width s))

not_under : (width : ℕ) (p q r s : GridPoint) (w : Weights p q r s) → (w.a + w.m) * low_rank width p q r s ≤ w.a * rank width p + w.m * rank width q
not_under width p q r s w = ⊎_elim
    (λ l. let h : (w.b + w.n) * low_rank width p q r s ≤ w.b * rank width r + w.n * rank width s =
    mean_not_below w.b w.n (rank width r) (rank width s) (low_rank width p q r s) (omega arith) (omega arith) in
    omega (arith, h, even_rank width p q r s w, ap (λ t. t * low_rank width p q r s) w.even))
    (λ g. mean_not_below w.a w.m (rank width p) (rank width q) (low_rank width p q r s) (omega arith) (omega arith))
    (cases_lt (min (rank width p) (rank width q)) (min (rank width r) (rank width s)))

not_over : (width : ℕ) (p q r s : GridPoint) (w : Weights p q r s) → w.a * rank width p + w.m * rank width q ≤ (w.a + w.m) * high_rank width p q r s
not_over width p q r s w = ⊎_elim
    (λ l. mean_not_above w.a w.m (rank width p) (rank width q) (high_rank width p q r s) (omega arith) (omega arith))
    (λ g. let h : w.b * rank width r + w.n * rank width s ≤ (w.b + w.n) * high_rank width p q r s =
    mean_not_above w.b w.n (rank width r) (rank width s) (high_rank width p q r s) (omega arith) (omega arith) in
    omega (arith, h, even_rank width p q r s w, ap (λ t. t * high_rank width p q r s) w.even))
    (cases_lt (max (rank width p) (rank width q)) (max (rank width r) (rank width s)))

-- ---- nothing in common
pub none_in_rank : (width : ℕ) (p q r s : GridPoint) → high_rank width p q r s < low_rank width p q r s → Weights p q r s → ⊥
none_in_rank width p q r s gap w = omega (arith, not_under width p q r s w, not_over width p q r s w, mul-lt-mul_of_pos_left gap w.some)

-- ---- one point
at_low_rank : (width : ℕ) (p q r s : GridPoint) → low_rank width p q r s ≡ high_rank width p q r s → (w : Weights p q r s)
    → w.a * rank width p + w.m * rank width q ≡ (w.a + w.m) * low_rank width p q r s
at_low_rank width p q r s closed w = omega (arith, not_under width p q r s w, not_over width p q r s w, ap (λ t. (w.a + w.m) * t) closed)

multiplied : (d e k l o : ℕ) → k ≡ d * o → l ≡ e * o → d * l ≡ e * k
multiplied d e k l o g h = omega (arith, ap (λ t. e * t) g, ap (λ t. d * t) h)

product_some : (d e : ℕ) → 0 < d → 0 < e → 0 < d * e
product_some d e g h = omega (arith, mul-lt-mul_of_pos_right g h)

same_ranks : (width : ℕ) (p q : GridPoint) (a m a' m' : ℕ) → IsSameWeighted p q a m a' m'
    → (a + m) * (a' * rank width p + m' * rank width q) ≡ (a' + m') * (a * rank width p + m * rank width q)
same_ranks width p q a m a' m' same = omega (arith, ap (λ t. t * width) same.y, same.x)

same_by_weights : (p q : GridPoint) (a m a' m' : ℕ) → a * m' ≡ a' * m → IsSameWeighted p q a m a' m'
same_by_weights p q a m a' m' e = record {
  y = omega (arith, ap (λ t. t * p.y) e, ap (λ t. t * q.y) e);
  x = omega (arith, ap (λ t. t * p.x) e, ap (λ t. t * q.x) e);
}

same_at_one_place : (p q : GridPoint) (a m a' m' : ℕ) → p.y ≡ q.y → p.x ≡ q.x → IsSameWeighted p q a m a' m'
same_at_one_place p q a m a' m' ey ex = record {
  y = omega (arith, ap (λ t. a * m' * t) ey, ap (λ t. a' * m * t) ey);
  x = omega (arith, ap (λ t. a * m' * t) ex, ap (λ t. a' * m * t) ex);
}

-- points of p q of one rank, after multiplying out, are one
same_by_rank : (width : ℕ) (p q : GridPoint) → IsInGrid width p → IsInGrid width q → (a m a' m' : ℕ)
    → (a + m) * (a' * rank width p + m' * rank width q) ≡ (a' + m') * (a * rank width p + m * rank width q) → IsSameWeighted p q a m a' m'
same_by_rank width p q gp gq a m a' m' e = ⊎_elim
    (λ same. same_at_one_place p q a m a' m' (same_rank_y width p q gp gq same) (same_rank_x width p q gp gq same))
    (λ either. ⊎_elim
    (λ l. same_by_weights p q a m a' m' (cancel (a * m') (a' * m) (rank width q) (rank width p) l (omega (arith, e))))
    (λ l. same_by_weights p q a m a' m' (sym (cancel (a' * m) (a * m') (rank width p) (rank width q) l (omega (arith, e)))))
    either)
    (cases_order (rank width p) (rank width q))

-- where the two ranks are one, any two common points are the same
pub one_in_rank : (width : ℕ) (p q r s : GridPoint) → IsInGrid width p → IsInGrid width q → low_rank width p q r s ≡ high_rank width p q r s
    → (v w : Weights p q r s) → IsSameWeighted p q v.a v.m w.a w.m
one_in_rank width p q r s gp gq closed v w =
    let ev : v.a * rank width p + v.m * rank width q ≡ (v.a + v.m) * low_rank width p q r s = at_low_rank width p q r s closed v in
    let ew : w.a * rank width p + w.m * rank width q ≡ (w.a + w.m) * low_rank width p q r s = at_low_rank width p q r s closed w in
    same_by_rank width p q gp gq v.a v.m w.a w.m (multiplied (v.a + v.m) (w.a + w.m) _ _ _ ev ew)

-- ---- two points
pub differ_by_rank : (width : ℕ) (p q e f : GridPoint) (a m a' m' : ℕ) → 0 < a + m → 0 < a' + m'
    → a * rank width p + m * rank width q ≡ (a + m) * rank width e → a' * rank width p + m' * rank width q ≡ (a' + m') * rank width f
    → rank width e < rank width f → IsSameWeighted p q a m a' m' → ⊥
differ_by_rank width p q e f a m a' m' g h at_e at_f less same =
    omega (
      arith,
      mul-lt-mul_of_pos_left less (product_some (a + m) (a' + m') g h),
      ap (λ t. (a + m) * t) at_f,
      ap (λ t. (a' + m') * t) at_e,
      same_ranks width p q a m a' m' same,
    )
