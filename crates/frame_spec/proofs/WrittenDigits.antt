-- Decimal digits.
use Rattle.std.proofs.Common.{◌≡◌, ◌<◌, ℕ, zero, suc, ◌+◌, ◌-◌, ◌*◌, ◌/◌, ◌%◌, ◌^◌, length, refl, ap, ◌∙◌, arith, add-one}
use Rattle.std.proofs.Math.Nat.{pow-suc}
use Rattle.std.proofs.lemmas.List.{length_push}
use Rattle.std.proofs.lemmas.List.Sums.{fold_push}
use Rattle.std.specs.Char.{IsAsciiDigit}
use Rattle.std.proofs.lemmas.List.Elements.{All-push}
use Rattle.frame_spec.specs.RecordFrame.{decimal_value, AreDigits}
use Rattle.frame_spec.specs.WrittenRecord.{digits}

pub length-digits : (w n : ℕ) → length (digits w n) ≡ w
length-digits zero n = refl
length-digits (suc w) n = length_push (digits w (n / 10)) _ ∙ ap (λ k. k + 1) (length-digits w (n / 10)) ∙ add-one w

pub AreDigits-digits : (w n : ℕ) → AreDigits (digits w n)
AreDigits-digits zero n = λ k d h. absurd (omega arith)
AreDigits-digits (suc w) n = All-push IsAsciiDigit (digits w (n / 10)) (48 + n % 10) (AreDigits-digits w (n / 10)) (omega arith, omega arith)

pub decimal_value-digits : (w n : ℕ) → n < 10 ^ w → decimal_value (digits w n) ≡ n
decimal_value-digits zero n small = omega arith
decimal_value-digits (suc w) n small =
    let less : n / 10 < 10 ^ w = let most = rw pow-suc at small in omega (arith, most) in
    fold_push (λ (a c : ℕ). a * 10 + (c - 48)) 0 (digits w (n / 10)) (48 + n % 10)
    ∙ ap (λ a. a * 10 + (48 + n % 10 - 48)) (decimal_value-digits w (n / 10) less) ∙ omega arith
