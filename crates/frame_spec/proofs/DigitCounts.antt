-- How many decimal digits a number has: one, or one more than its tenth.
use Rattle.std.proofs.Common.{◌≡◌, ◌≤◌, ◌<◌, ◌^◌, ◌∙◌, ℕ, sym, ap, length-append, [], ◌∷◌, ◌+◌, ◌%◌, ◌/◌, length}
use Rattle.std.specs.Fmt.{decimal}
use Rattle.std.proofs.lemmas.Fmt.{decimal_digit, decimal_step}
use Rattle.frame_spec.specs.WrittenRecord.{digit_count}

pub digit_count-one : (n : ℕ) → n < 10 → 1 ≡ digit_count n
digit_count-one n few = sym (ap length (decimal_digit n few))

pub digit_count-more : (n : ℕ) → 10 ≤ n → n < 2 ^ 64 → digit_count n ≡ digit_count (n / 10) + 1
digit_count-more n many small = ap length (decimal_step n many small) ∙ length-append (decimal (n / 10)) ((48 + n % 10) ∷ [])
