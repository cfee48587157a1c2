-- Points moved by one amount north and east, so that their coordinates are natural: what becomes of differences and determinants.
-- A signed number z is read as up z - down z, of which one is 0.
use Rattle.std.proofs.Common.{◌≡◌, ℕ, ◌+◌, ◌*◌, ◌-◌, ◌<◌, ◌≤◌, arith, ap, ℤ, pos, negsuc, ◌-ℤ◌, ◌*ℤ◌}
use Rattle.std.proofs.lemmas.Int.{ints}
use borrow.Author.Differences.{up, down, product_is}
use Rattle.geometry_spec.specs.Points.{Point, orientation_of}
use Rattle.geometry_spec.specs.Segments.{scaled_between}
use Rattle.geometry_spec.proofs.Weights.{GridPoint, left_sum, right_sum}
use Rattle.geometry_spec.proofs.LineOrder.{IsInGrid}

-- a coordinate moved by the shift
unfoldable pub shifted : ℕ → ℤ → ℕ
shifted shift (pos n) = shift + n
shifted shift (negsuc n) = shift - (n + 1)

-- the shift makes no coordinate of the point negative, and the grid is wide enough for it
pub record IsCovered (shift width : ℕ) (p : Point) : Type 0 where
  pub y : down p.0 ≤ shift
  pub x : down p.1 ≤ shift
  pub wide : up p.1 + shift < width

abbrev pub grid_point : ℕ → Point → GridPoint
grid_point shift p = record { y = shifted shift p.0; x = shifted shift p.1 }

-- ---- a coordinate
shifted_pos : (shift n : ℕ) → shifted shift (pos n) + down (pos n) ≡ up (pos n) + shift
unfolding shifted
shifted_pos shift n = omega arith

shifted_negsuc : (shift n : ℕ) → down (negsuc n) ≤ shift → shifted shift (negsuc n) + down (negsuc n) ≡ up (negsuc n) + shift
unfolding shifted
shifted_negsuc shift n h = omega arith

pub shifted_is : (shift : ℕ) (z : ℤ) → down z ≤ shift → shifted shift z + down z ≡ up z + shift
shifted_is shift (pos n) h = shifted_pos shift n
shifted_is shift (negsuc n) h = shifted_negsuc shift n h

pub in_grid : (shift width : ℕ) (p : Point) → IsCovered shift width p → IsInGrid width (grid_point shift p)
in_grid shift width p f = record { x = omega (arith, shifted_is shift p.1 f.x, f.wide) }

-- ---- a difference, a product, a determinant
difference_is : (b a : ℤ) → up (b -ℤ a) + down b + up a ≡ down (b -ℤ a) + up b + down a
difference_is b a = omega (arith, ints)

shifted_difference : (shift : ℕ) (b a : ℤ) → down b ≤ shift → down a ≤ shift → up (b -ℤ a) + shifted shift a ≡ down (b -ℤ a) + shifted shift b
shifted_difference shift b a fb fa = omega (arith, difference_is b a, shifted_is shift a fa, shifted_is shift b fb)

product_of_differences : (u v u' v' b a b' a' : ℕ) → u + a ≡ v + b → u' + a' ≡ v' + b'
    → (u * u' + v * v') + (b * a' + a * b') ≡ (u * v' + v * u') + (b * b' + a * a')
product_of_differences u v u' v' b a b' a' e e' = omega (arith, ap (λ t. t * u') e, ap (λ t. t * v') e, ap (λ t. b * t) e', ap (λ t. a * t) e')

shifted_product : (shift : ℕ) (b a d c : ℤ) → down b ≤ shift → down a ≤ shift → down d ≤ shift → down c ≤ shift
    → up ((b -ℤ a) *ℤ (d -ℤ c)) + (shifted shift b * shifted shift c + shifted shift a * shifted shift d) ≡ down ((b -ℤ a) *ℤ (d -ℤ c)) +
    (shifted shift b * shifted shift d + shifted shift a * shifted shift c)
shifted_product shift b a d c fb fa fd fc =
    omega (
      arith,
      product_is (b -ℤ a) (d -ℤ c),
      product_of_differences (up (b -ℤ a)) (down (b -ℤ a)) (up (d -ℤ c)) (down (d -ℤ c)) (shifted shift b) (shifted shift a)
          (shifted shift d) (shifted shift c) (shifted_difference shift b a fb fa) (shifted_difference shift d c fd fc),
    )

pub shifted_orientation : (shift width : ℕ) (a b c : Point) → IsCovered shift width a → IsCovered shift width b → IsCovered shift width c
    → up (orientation_of a b c) + right_sum (grid_point shift a) (grid_point shift b) (grid_point shift c) ≡ down
    (orientation_of a b c) + left_sum (grid_point shift a) (grid_point shift b) (grid_point shift c)
shifted_orientation shift width a b c fa fb fc =
    omega (
      arith,
      difference_is ((b.1 -ℤ a.1) *ℤ (c.0 -ℤ a.0)) ((b.0 -ℤ a.0) *ℤ (c.1 -ℤ a.1)),
      shifted_product shift b.1 a.1 c.0 a.0 fb.x fa.x fc.y fa.y,
      shifted_product shift b.0 a.0 c.1 a.1 fb.y fa.y fc.x fa.x,
    )

-- ---- a point between two others
pub shifted_between : (shift : ℕ) (a b : ℤ) (d k m : ℕ) → down a ≤ shift → down b ≤ shift → k + m ≡ d
    → up (scaled_between a b d m) + shift * d ≡ down (scaled_between a b d m) + (k * shifted shift a + m * shifted shift b)
shifted_between shift a b d k m fa fb e =
    omega (
      arith,
      ints,
      ap (λ t. m * t) (difference_is b a),
      ap (λ t. k * t) (shifted_is shift a fa),
      ap (λ t. m * t) (shifted_is shift b fb),
      ap (λ t. t * up a) e,
      ap (λ t. t * down a) e,
      ap (λ t. t * shift) e,
    )
