-- How many numbers and tiles there are, and one more of them.
use Rattle.std.proofs.Common.{◌≡◌, ◌&&◌, ◌||◌, ℕ, Bool, false, sym, ap, ◌∙◌, arith, ℤ, is_eq, min}
use Rattle.std.specs.Prelude.{int_le, int_lt, nat_lt, pos, ◌+ℤ◌, ◌≤ℤ◌}
use Rattle.std.specs.Ordering.{int_cmp}
use Rattle.std.proofs.Math.Bool.{and-false, and-or_distrib_left, and-or_distrib_right, or-false, or_assoc}
use Rattle.std.proofs.lemmas.Bool.Decides.{nat_tests}
use Rattle.std.proofs.lemmas.Int.{ints}

-- a product over a limit is over it where it is cut off behind the limit
pub over_cut : (n : ℕ) → nat_lt 64 (min n 18446744073709551615) ≡ nat_lt 64 n
over_cut n = grind (arith, nat_tests)

-- ---- one more number
none_within : (f x : ℤ) → (int_le f x && int_lt x f) ≡ false
none_within f x = grind (arith, ints, nat_tests)

next_within : (f c x : ℤ) → f ≤ℤ c → ((int_le f x && int_lt x c) || is_eq (int_cmp x c)) ≡ (int_le f x && int_le x c)
next_within f c x le = grind (arith, ints, nat_tests)

before_next : (c n x : ℤ) → n ≡ (c +ℤ pos 1) → int_le x c ≡ int_lt x n
before_next c n x is = grind (arith, ints, nat_tests)

-- a test that holds with one of two, or with another
spread_left : (a r w y : Bool) → ((a || (r && w)) || (r && y)) ≡ (a || (r && (w || y)))
spread_left a r w y = or_assoc a (r && w) (r && y) ∙ ap (λ b. a || b) (sym (and-or_distrib_left r w y))

spread_right : (a r w y : Bool) → ((a || (w && r)) || (y && r)) ≡ (a || ((w || y) && r))
spread_right a r w y = or_assoc a (w && r) (y && r) ∙ ap (λ b. a || b) (sym (and-or_distrib_right w y r))

none_left : (a r w : Bool) → w ≡ false → a ≡ (a || (r && w))
none_left a r w e = sym (ap (λ b. a || b) (ap (λ v. r && v) e ∙ and-false r) ∙ or-false a)

none_right : (a r w : Bool) → w ≡ false → a ≡ (a || (w && r))
none_right a r w e = sym (ap (λ b. a || (b && r)) e ∙ or-false a)

module _ (f x : ℤ) (r all : Bool) where
  -- ---- by columns of a row
  pub no_column : all ≡ (all || (r && (int_le f x && int_lt x f)))
  no_column = none_left all r (int_le f x && int_lt x f) (none_within f x)

  pub last_column : (c : ℤ) (before now : Bool) → f ≤ℤ c → before ≡ (all || (r && (int_le f x && int_lt x c))) → now ≡ (before || (r && is_eq (int_cmp x c)))
      → now ≡ (all || (r && (int_le f x && int_le x c)))
  last_column c before now le was is =
      is ∙ ap (λ b. b || (r && is_eq (int_cmp x c))) was
      ∙ spread_left all r (int_le f x && int_lt x c) (is_eq (int_cmp x c))
      ∙ ap (λ w. all || (r && w)) (next_within f c x le)

  pub next_column : (c n : ℤ) (before now : Bool) → f ≤ℤ c → n ≡ (c +ℤ pos 1) → before ≡ (all || (r && (int_le f x && int_lt x c)))
      → now ≡ (before || (r && is_eq (int_cmp x c)))
      → now ≡ (all || (r && (int_le f x && int_lt x n)))
  next_column c n before now le next was is =
      last_column c before now le was is ∙ ap (λ w. all || (r && (int_le f x && w))) (before_next c n x next)

  -- ---- by rows, of which all have the same columns
  pub no_row : all ≡ (all || ((int_le f x && int_lt x f) && r))
  no_row = none_right all r (int_le f x && int_lt x f) (none_within f x)

  pub last_row : (c : ℤ) (before now : Bool) → f ≤ℤ c → before ≡ (all || ((int_le f x && int_lt x c) && r)) → now ≡ (before || (is_eq (int_cmp x c) && r))
      → now ≡ (all || ((int_le f x && int_le x c) && r))
  last_row c before now le was is =
      is ∙ ap (λ b. b || (is_eq (int_cmp x c) && r)) was
      ∙ spread_right all r (int_le f x && int_lt x c) (is_eq (int_cmp x c))
      ∙ ap (λ w. all || (w && r)) (next_within f c x le)

  pub next_row : (c n : ℤ) (before now : Bool) → f ≤ℤ c → n ≡ (c +ℤ pos 1) → before ≡ (all || ((int_le f x && int_lt x c) && r))
      → now ≡ (before || (is_eq (int_cmp x c) && r))
      → now ≡ (all || ((int_le f x && int_lt x n) && r))
  next_row c n before now le next was is =
      last_row c before now le was is ∙ ap (λ w. all || ((int_le f x && w) && r)) (before_next c n x next)
