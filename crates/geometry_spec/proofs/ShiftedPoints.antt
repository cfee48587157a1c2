-- Common points, and points on a segment, before and after the shift.
use Rattle.std.proofs.Common.{◌≡◌, ℕ, ◌+◌, ◌*◌, ◌-◌, ◌≤◌, arith, refl, ap, sym, ℤ, pos, ◌*ℤ◌}
use borrow.Author.Differences.{up, down, product_is, same_in}
use Rattle.geometry_spec.specs.Points.{Point}
use Rattle.geometry_spec.specs.Segments.{scaled_between, CommonPoint, IsSamePoint, LiesOn}
use Rattle.geometry_spec.proofs.Weights.{Weights, IsSameWeighted}
use Rattle.geometry_spec.proofs.LineOrder.{OnByWeights}
use Rattle.geometry_spec.proofs.Shift.{shifted, IsCovered, grid_point, shifted_is, shifted_between}

-- ---- one coordinate
pub even_shifted : (shift : ℕ) (a b c e : ℤ) (d k m l n : ℕ) → down a ≤ shift → down b ≤ shift → down c ≤ shift → down e ≤ shift → k + m ≡ d
    → l + n ≡ d
    → scaled_between a b d m ≡ scaled_between c e d n → k * shifted shift a + m * shifted shift b ≡ l * shifted shift c + n * shifted shift e
even_shifted shift a b c e d k m l n fa fb fc fe g h same =
    omega (arith, shifted_between shift a b d k m fa fb g, shifted_between shift c e d l n fc fe h, ap up same, ap down same)

pub even_before : (shift : ℕ) (a b c e : ℤ) (d k m l n : ℕ) → down a ≤ shift → down b ≤ shift → down c ≤ shift → down e ≤ shift → k + m ≡ d
    → l + n ≡ d
    → k * shifted shift a + m * shifted shift b ≡ l * shifted shift c + n * shifted shift e → scaled_between a b d m ≡ scaled_between c e d n
even_before shift a b c e d k m l n fa fb fc fe g h same =
    same_in (scaled_between a b d m) (scaled_between c e d n) (omega (arith, shifted_between shift a b d k m fa fb g, shifted_between shift c e d l n fc fe h))

-- how far two points of a segment are apart, before and after the shift
apart_shifted : (shift : ℕ) (a b : ℤ) (d k m e l n : ℕ) → down a ≤ shift → down b ≤ shift → k + m ≡ d → l + n ≡ e
    → up (pos e *ℤ scaled_between a b d m) + down (pos d *ℤ scaled_between a b e n) + (k + m) * (l * shifted shift a + n * shifted shift b)
    ≡ down (pos e *ℤ scaled_between a b d m) + up (pos d *ℤ scaled_between a b e n) + (l + n) * (k * shifted shift a + m * shifted shift b)
apart_shifted shift a b d k m e l n fa fb g h =
    omega (
      arith,
      product_is (pos e) (scaled_between a b d m),
      product_is (pos d) (scaled_between a b e n),
      ap (λ t. e * t) (shifted_between shift a b d k m fa fb g),
      ap (λ t. d * t) (shifted_between shift a b e l n fa fb h),
      ap (λ t. t * (l * shifted shift a + n * shifted shift b)) g,
      ap (λ t. t * (k * shifted shift a + m * shifted shift b)) h,
    )

same_shifted : (shift : ℕ) (a b : ℤ) (d k m e l n : ℕ) → down a ≤ shift → down b ≤ shift → k + m ≡ d → l + n ≡ e
    → pos e *ℤ scaled_between a b d m ≡ pos d *ℤ scaled_between a b e n
    → (k + m) * (l * shifted shift a + n * shifted shift b) ≡ (l + n) * (k * shifted shift a + m * shifted shift b)
same_shifted shift a b d k m e l n fa fb g h same = omega (arith, ap up same, ap down same, apart_shifted shift a b d k m e l n fa fb g h)

same_before : (shift : ℕ) (a b : ℤ) (d k m e l n : ℕ) → down a ≤ shift → down b ≤ shift → k + m ≡ d → l + n ≡ e
    → (k + m) * (l * shifted shift a + n * shifted shift b) ≡ (l + n) * (k * shifted shift a + m * shifted shift b)
    → pos e *ℤ scaled_between a b d m ≡ pos d *ℤ scaled_between a b e n
same_before shift a b d k m e l n fa fb g h same =
    same_in (pos e *ℤ scaled_between a b d m) (pos d *ℤ scaled_between a b e n) (omega (arith, apart_shifted shift a b d k m e l n fa fb g h))

on_shifted : (shift : ℕ) (a b c : ℤ) (d k m : ℕ) → down a ≤ shift → down b ≤ shift → down c ≤ shift → k + m ≡ d → scaled_between a b d m ≡ pos d *ℤ c
    → k * shifted shift a + m * shifted shift b ≡ (k + m) * shifted shift c
on_shifted shift a b c d k m fa fb fc g same =
    omega (
      arith,
      shifted_between shift a b d k m fa fb g,
      ap up same,
      ap down same,
      product_is (pos d) c,
      ap (λ t. d * t) (shifted_is shift c fc),
      ap (λ t. t * shifted shift c) g,
    )

on_before : (shift : ℕ) (a b c : ℤ) (d k m : ℕ) → down a ≤ shift → down b ≤ shift → down c ≤ shift → k + m ≡ d
    → k * shifted shift a + m * shifted shift b ≡ (k + m) * shifted shift c → scaled_between a b d m ≡ pos d *ℤ c
on_before shift a b c d k m fa fb fc g same =
    same_in (scaled_between a b d m) (pos d *ℤ c) (omega (
      arith,
      shifted_between shift a b d k m fa fb g,
      product_is (pos d) c,
      ap (λ t. d * t) (shifted_is shift c fc),
      ap (λ t. t * shifted shift c) g,
    ))

-- ---- points
pub record AreCovered (shift width : ℕ) (p q r s : Point) : Type 0 where
  pub at_p : IsCovered shift width p
  pub at_q : IsCovered shift width q
  pub at_r : IsCovered shift width r
  pub at_s : IsCovered shift width s

abbrev pub WeightsOf : ℕ → Point → Point → Point → Point → Type 0
WeightsOf shift p q r s = Weights (grid_point shift p) (grid_point shift q) (grid_point shift r) (grid_point shift s)

abbrev pub weights_of : (shift width : ℕ) (p q r s : Point) → AreCovered shift width p q r s → CommonPoint p q r s → WeightsOf shift p q r s
weights_of shift width p q r s f w = record {
  a = w.d - w.m;
  m = w.m;
  b = w.d - w.n;
  n = w.n;
  some = omega (arith, w.positive, w.on_first);
  even = omega (arith, w.on_first, w.on_second);
  same_y = even_shifted shift p.0 q.0 r.0 s.0 w.d (w.d - w.m) w.m (w.d - w.n) w.n f.at_p.y f.at_q.y f.at_r.y f.at_s.y (omega (arith, w.on_first))
      (omega (arith, w.on_second)) w.same_y;
  same_x = even_shifted shift p.1 q.1 r.1 s.1 w.d (w.d - w.m) w.m (w.d - w.n) w.n f.at_p.x f.at_q.x f.at_r.x f.at_s.x (omega (arith, w.on_first))
      (omega (arith, w.on_second)) w.same_x;
}

abbrev pub common_point_of : (shift width : ℕ) (p q r s : Point) → AreCovered shift width p q r s → WeightsOf shift p q r s → CommonPoint p q r s
common_point_of shift width p q r s f w = record {
  d = w.a + w.m;
  m = w.m;
  n = w.n;
  positive = w.some;
  on_first = omega arith;
  on_second = omega (arith, w.even);
  same_y = even_before shift p.0 q.0 r.0 s.0 (w.a + w.m) w.a w.m w.b w.n f.at_p.y f.at_q.y f.at_r.y f.at_s.y refl (sym w.even) w.same_y;
  same_x = even_before shift p.1 q.1 r.1 s.1 (w.a + w.m) w.a w.m w.b w.n f.at_p.x f.at_q.x f.at_r.x f.at_s.x refl (sym w.even) w.same_x;
}

-- where the weights of two common points give one point, the common points are one
pub same_points : (shift width : ℕ) (p q r s : Point) (f : AreCovered shift width p q r s) (v w : CommonPoint p q r s)
    → IsSameWeighted (grid_point shift p) (grid_point shift q) (v.d - v.m) v.m (w.d - w.m) w.m → IsSamePoint v w
same_points shift width p q r s f v w same = record {
  y = same_before shift p.0 q.0 v.d (v.d - v.m) v.m w.d (w.d - w.m) w.m f.at_p.y f.at_q.y (omega (arith, v.on_first)) (omega (arith, w.on_first)) same.y;
  x = same_before shift p.1 q.1 v.d (v.d - v.m) v.m w.d (w.d - w.m) w.m f.at_p.x f.at_q.x (omega (arith, v.on_first)) (omega (arith, w.on_first)) same.x;
}

-- and where weights give two points, their common points differ
pub same_weights : (shift width : ℕ) (p q r s : Point) (f : AreCovered shift width p q r s) (v w : WeightsOf shift p q r s)
    → IsSamePoint (common_point_of shift width p q r s f v) (common_point_of shift width p q r s f w)
    → IsSameWeighted (grid_point shift p) (grid_point shift q) v.a v.m w.a w.m
same_weights shift width p q r s f v w same = record {
  y = same_shifted shift p.0 q.0 (v.a + v.m) v.a v.m (w.a + w.m) w.a w.m f.at_p.y f.at_q.y refl refl same.y;
  x = same_shifted shift p.1 q.1 (v.a + v.m) v.a v.m (w.a + w.m) w.a w.m f.at_p.x f.at_q.x refl refl same.x;
}

pub on_by_weights_of : (shift width : ℕ) (w p q : Point) → IsCovered shift width w → IsCovered shift width p → IsCovered shift width q → LiesOn w p q
    → OnByWeights (grid_point shift p) (grid_point shift q) (grid_point shift w)
on_by_weights_of shift width w p q fw fp fq o = record {
  a = o.d - o.m;
  m = o.m;
  some = omega (arith, o.positive, o.within);
  y = on_shifted shift p.0 q.0 w.0 o.d (o.d - o.m) o.m fp.y fq.y fw.y (omega (arith, o.within)) o.same_y;
  x = on_shifted shift p.1 q.1 w.1 o.d (o.d - o.m) o.m fp.x fq.x fw.x (omega (arith, o.within)) o.same_x;
}

pub lies_on_of : (shift width : ℕ) (w p q : Point) → IsCovered shift width w → IsCovered shift width p → IsCovered shift width q
    → OnByWeights (grid_point shift p) (grid_point shift q) (grid_point shift w) → LiesOn w p q
lies_on_of shift width w p q fw fp fq o = record {
  d = o.a + o.m;
  m = o.m;
  positive = o.some;
  within = omega arith;
  same_y = on_before shift p.0 q.0 w.0 (o.a + o.m) o.a o.m fp.y fq.y fw.y refl o.y;
  same_x = on_before shift p.1 q.1 w.1 (o.a + o.m) o.a o.m fp.x fq.x fw.x refl o.x;
}
