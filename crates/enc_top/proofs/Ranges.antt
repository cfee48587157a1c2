-- A search along numbers.
use Rattle.std.proofs.Common.{◌≡◌, ◌<◌, ◌≤◌, ℕ, suc, ◌+◌, ◌-◌, Bool, Some, None, cond, ap, arith}
use Rattle.std.specs.List.{find, range_with_len}

-- the first number, then the others
pub find-range_from : (p : ℕ → Bool) (n end : ℕ) → n < end → find p (range_with_len n (end - n)) ≡ cond (p n) (Some n)
    (find p (range_with_len (n + 1) (end - (n + 1))))
find-range_from p n end below =
    let one_more : end - n ≡ suc (end - (n + 1)) = omega arith in
    ap (λ k. find p (range_with_len n k)) one_more

-- no number is left
pub find-range_past : (p : ℕ → Bool) (n end : ℕ) → end ≤ n → find p (range_with_len n (end - n)) ≡ None
find-range_past p n end past = let none : end - n ≡ 0 = omega arith in ap (λ k. find p (range_with_len n k)) none
