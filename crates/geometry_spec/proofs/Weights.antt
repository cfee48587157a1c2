-- Points with natural coordinates, the determinant as a difference of two sums, and common points by the weights of the four ends.
use Rattle.std.proofs.Common.{◌≡◌, ℕ, ◌+◌, ◌*◌, ◌-◌, ◌<◌, arith, ap, sym, ⊎_elim}
use Rattle.std.proofs.Math.Nat.{mul-le-mul_left, mul-lt-mul_of_pos_right}
use Rattle.std.proofs.lemmas.Bool.{cases_order}

-- a point counted from the corner of a grid
pub record GridPoint : Type 0 where
  pub y : ℕ
  pub x : ℕ

-- the determinant is the first sum minus the second: c lies to the left of the way from a to b where the first is greater
abbrev pub left_sum : GridPoint → GridPoint → GridPoint → ℕ
left_sum a b c = a.x * b.y + b.x * c.y + c.x * a.y

abbrev pub right_sum : GridPoint → GridPoint → GridPoint → ℕ
right_sum a b c = a.y * b.x + b.y * c.x + c.y * a.x

-- a common point of p q and r s: the weights of p, q, r and s
pub record Weights (p q r s : GridPoint) : Type 0 where
  pub a : ℕ
  pub m : ℕ
  pub b : ℕ
  pub n : ℕ
  pub some : 0 < a + m
  pub even : a + m ≡ b + n
  pub same_y : a * p.y + m * q.y ≡ b * r.y + n * s.y
  pub same_x : a * p.x + m * q.x ≡ b * r.x + n * s.x

-- the weights a, m and a', m' of p and q give one point
pub record IsSameWeighted (p q : GridPoint) (a m a' m' : ℕ) : Type 0 where
  pub y : (a + m) * (a' * p.y + m' * q.y) ≡ (a' + m') * (a * p.y + m * q.y)
  pub x : (a + m) * (a' * p.x + m' * q.x) ≡ (a' + m') * (a * p.x + m * q.x)

pub swapped : (p q r s : GridPoint) → Weights p q r s → Weights r s p q
swapped p q r s w = record { a = w.b; m = w.n; b = w.a; n = w.m; some = omega arith; even = sym w.even; same_y = sym w.same_y; same_x = sym w.same_x }

-- ---- identities
-- the four determinants of p, q, r and s add up
pub four_determinants : (p q r s : GridPoint)
    → right_sum p q r + right_sum r s p + (left_sum p q s + left_sum r s q) ≡ left_sum p q r + left_sum r s p + (right_sum p q s + right_sum r s q)
four_determinants p q r s = omega arith

-- the determinants are the weights of the point where two lines cross
crossing_y : (p q r s : GridPoint)
    → right_sum p q r * s.y + left_sum p q s * r.y + (right_sum r s p * q.y + left_sum r s q * p.y) ≡
    left_sum p q r * s.y + right_sum p q s * r.y + (left_sum r s p * q.y + right_sum r s q * p.y)
crossing_y p q r s = omega arith

crossing_x : (p q r s : GridPoint)
    → right_sum p q r * s.x + left_sum p q s * r.x + (right_sum r s p * q.x + left_sum r s q * p.x) ≡
    left_sum p q r * s.x + right_sum p q s * r.x + (left_sum r s p * q.x + right_sum r s q * p.x)
crossing_x p q r s = omega arith

-- at a common point the determinants of r and s, weighted, cancel
weighted_determinants : (p q r s : GridPoint) (a m b n : ℕ) → a + m ≡ b + n → a * p.y + m * q.y ≡ b * r.y + n * s.y
    → a * p.x + m * q.x ≡ b * r.x + n * s.x
    → b * right_sum p q r + n * right_sum p q s ≡ b * left_sum p q r + n * left_sum p q s
weighted_determinants p q r s a m b n e ey ex =
    omega (
      arith,
      ap (λ t. t * (p.y * q.x)) e,
      ap (λ t. t * (p.x * q.y)) e,
      ap (λ t. t * q.x) ey,
      ap (λ t. t * p.x) ey,
      ap (λ t. t * q.y) ex,
      ap (λ t. t * p.y) ex,
    )

pub determinants_cancel : (p q r s : GridPoint) (w : Weights p q r s) → w.b * right_sum p q r + w.n * right_sum p q s ≡
    w.b * left_sum p q r + w.n * left_sum p q s
determinants_cancel p q r s w = weighted_determinants p q r s w.a w.m w.b w.n w.even w.same_y w.same_x

-- ---- r and s strictly on one side of p q: no common point
no_weight : (b n f g f' g' : ℕ) → g < f → g' < f' → b * f + n * f' ≡ b * g + n * g' → b + n ≡ 0
no_weight b n f g f' g' h k e = omega (arith, mul-le-mul_left b h, mul-le-mul_left n k)

pub none_to_the_right : (p q r s : GridPoint) → left_sum p q r < right_sum p q r → left_sum p q s < right_sum p q s → Weights p q r s → ⊥
none_to_the_right p q r s g h w =
    let z : w.b + w.n ≡ 0 = no_weight w.b w.n _ _ _ _ g h (determinants_cancel p q r s w) in
    omega (arith, w.some, w.even, z)

pub none_to_the_left : (p q r s : GridPoint) → right_sum p q r < left_sum p q r → right_sum p q s < left_sum p q s → Weights p q r s → ⊥
none_to_the_left p q r s g h w =
    let z : w.b + w.n ≡ 0 = no_weight w.b w.n _ _ _ _ g h (sym (determinants_cancel p q r s w)) in
    omega (arith, w.some, w.even, z)

-- ---- r not to the left and s not to the right of p q, and the other way round for p and q: a common point
pub crossing_leftwards : (p q r s : GridPoint) (a m b n : ℕ) → 0 < b + n
    → n + left_sum p q r ≡ right_sum p q r → b + right_sum p q s ≡ left_sum p q s → m + right_sum r s p ≡ left_sum r s p
    → a + left_sum r s q ≡ right_sum r s q
    → Weights p q r s
crossing_leftwards p q r s a m b n some en eb em ea = record {
  a = a;
  m = m;
  b = b;
  n = n;
  some = omega (arith, four_determinants p q r s);
  even = omega (arith, four_determinants p q r s);
  same_y = omega (arith, crossing_y p q r s, ap (λ t. t * s.y) en, ap (λ t. t * r.y) eb, ap (λ t. t * q.y) em, ap (λ t. t * p.y) ea);
  same_x = omega (arith, crossing_x p q r s, ap (λ t. t * s.x) en, ap (λ t. t * r.x) eb, ap (λ t. t * q.x) em, ap (λ t. t * p.x) ea);
}

-- with y and x exchanged left is right
abbrev mirrored : GridPoint → GridPoint
mirrored p = record { y = p.x; x = p.y }

pub crossing_rightwards : (p q r s : GridPoint) (a m b n : ℕ) → 0 < b + n
    → n + right_sum p q r ≡ left_sum p q r → b + left_sum p q s ≡ right_sum p q s → m + left_sum r s p ≡ right_sum r s p
    → a + right_sum r s q ≡ left_sum r s q
    → Weights p q r s
crossing_rightwards p q r s a m b n some en eb em ea =
    let w = crossing_leftwards (mirrored p) (mirrored q) (mirrored r) (mirrored s) a m b n some en eb em ea in
    record { a = w.a; m = w.m; b = w.b; n = w.n; some = w.some; even = w.even; same_y = w.same_x; same_x = w.same_y }

-- ---- one common point alone
cancel_by : (u v k f g : ℕ) → k + g ≡ f → 0 < k → u * f + v * g ≡ u * g + v * f → u ≡ v
cancel_by u v k f g d some e = ⊎_elim (λ same. same) (λ either. ⊎_elim
    (λ l. absurd (omega (arith, mul-lt-mul_of_pos_right l some, e, ap (λ t. u * t) d, ap (λ t. v * t) d)))
    (λ l. absurd (omega (arith, mul-lt-mul_of_pos_right l some, e, ap (λ t. u * t) d, ap (λ t. v * t) d))) either) (cases_order u v)

-- a factor f - g that isn't 0 cancels
pub cancel : (u v f g : ℕ) → g < f → u * f + v * g ≡ u * g + v * f → u ≡ v
cancel u v f g h e = cancel_by u v (f - g) f g (omega arith) (omega arith) e

-- weights that cancel the same two differences, the first of them not 0, are in one proportion
pub same_proportion : (b n b' n' f g f' g' : ℕ) → b * f + n * f' ≡ b * g + n * g' → b' * f + n' * f' ≡ b' * g + n' * g' → (g < f) → b * n' ≡ b' * n
same_proportion b n b' n' f g f' g' e e' h = cancel (b * n') (b' * n) f g h (omega (arith, ap (λ t. t * n') e, ap (λ t. t * n) e'))

-- one coordinate of the points that two lists of weights give
same_coordinate : (a m b n a' m' b' n' p q r s : ℕ) → b * n' ≡ b' * n → a + m ≡ b + n → a' + m' ≡ b' + n' → a * p + m * q ≡ b * r + n * s
    → a' * p + m' * q ≡ b' * r + n' * s → (a + m) * (a' * p + m' * q) ≡ (a' + m') * (a * p + m * q)
same_coordinate a m b n a' m' b' n' p q r s e even even' same same' =
    omega (
      arith,
      ap (λ t. t * r) e,
      ap (λ t. t * s) e,
      ap (λ t. t * (a' + m')) same,
      ap (λ t. t * (a + m)) same',
      ap (λ t. t * (b' * r + n' * s)) even,
      ap (λ t. t * (b * r + n * s)) even',
    )

pub same_by_proportion : (p q r s : GridPoint) (v w : Weights p q r s) → v.b * w.n ≡ w.b * v.n → IsSameWeighted p q v.a v.m w.a w.m
same_by_proportion p q r s v w e = record {
  y = same_coordinate v.a v.m v.b v.n w.a w.m w.b w.n p.y q.y r.y s.y e v.even w.even v.same_y w.same_y;
  x = same_coordinate v.a v.m v.b v.n w.a w.m w.b w.n p.x q.x r.x s.x e v.even w.even v.same_x w.same_x;
}
