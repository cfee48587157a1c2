-- The first number of a range that passes a test.
use Rattle.std.proofs.Common.{◌≡◌, ◌<◌, ◌≤◌, ◌+◌, ◌-◌, ◌&&◌, ℕ, zero, suc, Bool, true, false, Option, Some, None, arith, refl, sym, ◌∙◌, ap, cond}
use Rattle.std.proofs.lemmas.Bool.{and_parts}
use Rattle.std.specs.List.{find, list_all, range_with_len}

pub find-range_from : (f : ℕ → Bool) (a b : ℕ) → a < b → find f (range_with_len a (b - a)) ≡ cond (f a) (Some a) (find f (range_with_len (a + 1) (b - (a + 1))))
find-range_from f a b below = let e : b - a ≡ suc (b - (a + 1)) = omega (arith, below) in rw e refl

pub list_all-range_from : (f : ℕ → Bool) (a b : ℕ) → a < b → list_all f (range_with_len a (b - a)) ≡ (f a && list_all f (range_with_len (a + 1) (b - (a + 1))))
list_all-range_from f a b below = let e : b - a ≡ suc (b - (a + 1)) = omega (arith, below) in rw e refl

pub find-none : (f : ℕ → Bool) (a n : ℕ) → ((i : ℕ) → i < n → f (a + i) ≡ false) → find f (range_with_len a n) ≡ None
find-none f a zero none = refl
find-none f a (suc n) none =
    let start : a + 0 ≡ a = omega arith in
    let first : f a ≡ false = ap f (sym start) ∙ none 0 (omega arith) in
    rw first (find-none f (a + 1) n (λ i below. let e : a + 1 + i ≡ a + (i + 1) = omega arith in rw e (none (i + 1) (omega (arith, below)))))

pub find-first : (f : ℕ → Bool) (a n i : ℕ) → i < n → f (a + i) ≡ true → ((j : ℕ) → j < i → f (a + j) ≡ false) → find f (range_with_len a n) ≡ Some (a + i)
find-first f a zero i below here before = absurd (omega (arith, below))
find-first f a (suc n) zero below here before =
    let start : a + 0 ≡ a = omega arith in
    let first : f a ≡ true = ap f (sym start) ∙ here in
    rw first (ap Some (sym start))
find-first f a (suc n) (suc i) below here before =
    let start : a + 0 ≡ a = omega arith in
    let first : f a ≡ false = ap f (sym start) ∙ before 0 (omega arith) in
    let e : a + 1 + i ≡ a + suc i = omega arith in
    rw first (find-first f (a + 1) n i (omega (arith, below)) (ap f e ∙ here) (λ j under. let d : a + 1 + j ≡ a + (j + 1) =
    omega arith in rw d (before (j + 1) (omega (arith, under))))
    ∙ ap Some e)

rest_none : (b : Bool) (a : ℕ) (o : Option ℕ) → cond b (Some a) o ≡ None → (b ≡ false) × (o ≡ None)
rest_none true a o e = absurd (cc)
rest_none false a o e = (refl, e)

-- where none was found, none passes
pub none-each : (f : ℕ → Bool) (a n : ℕ) → find f (range_with_len a n) ≡ None → (i : ℕ) → i < n → f (a + i) ≡ false
none-each f a zero none i below = absurd (omega (arith, below))
none-each f a (suc n) none zero below =
    let start : a + 0 ≡ a = omega arith in
    ap f start ∙ (rest_none (f a) a (find f (range_with_len (a + 1) n)) none).0
none-each f a (suc n) none (suc i) below =
    let e : a + suc i ≡ a + 1 + i = omega arith in
    ap f e ∙ none-each f (a + 1) n (rest_none (f a) a (find f (range_with_len (a + 1) n)) none).1 i (omega (arith, below))

-- what was found passes and is in the range
pub record IsFoundIn (f : ℕ → Bool) (a n i : ℕ) : Type 0 where
  pub passes : f i ≡ true
  pub above : a ≤ i
  pub below : i < a + n

rest_some : (f : ℕ → Bool) (a n i : ℕ) (b : Bool) → f a ≡ b → (find f (range_with_len (a + 1) n) ≡ Some i → IsFoundIn f (a + 1) n i)
    → cond b (Some a) (find f (range_with_len (a + 1) n)) ≡ Some i → IsFoundIn f a (suc n) i
rest_some f a n i true is inner e =
    let same : a ≡ i = cc in
    record { passes = ap f (sym same) ∙ is; above = omega (arith, same); below = omega (arith, same) }
rest_some f a n i false is inner e =
    let found = inner e in
    record { passes = found.passes; above = omega (arith, found.above); below = omega (arith, found.below) }

pub find-some : (f : ℕ → Bool) (a n i : ℕ) → find f (range_with_len a n) ≡ Some i → IsFoundIn f a n i
find-some f a zero i e = absurd (cc)
find-some f a (suc n) i e = rest_some f a n i (f a) refl (find-some f (a + 1) n i) e

-- where all pass, each does
pub all-each : (f : ℕ → Bool) (a n : ℕ) → list_all f (range_with_len a n) ≡ true → (i : ℕ) → i < n → f (a + i) ≡ true
all-each f a zero all i below = absurd (omega (arith, below))
all-each f a (suc n) all zero below =
    let start : a + 0 ≡ a = omega arith in
    ap f start ∙ (and_parts (f a) (list_all f (range_with_len (a + 1) n)) all).0
all-each f a (suc n) all (suc i) below =
    let e : a + suc i ≡ a + 1 + i = omega arith in
    ap f e ∙ all-each f (a + 1) n (and_parts (f a) (list_all f (range_with_len (a + 1) n)) all).1 i (omega (arith, below))
