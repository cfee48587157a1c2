-- The text of a number is UTF-8, and reading it gives the number.
use Rattle.std.proofs.Common.{◌≡◌, ◌<◌, ◌^◌, ℕ, ℤ, pos, negsuc, List, arith, subst, w32, FitsSigned}
use Rattle.std.proofs.lemmas.Fmt.{IsAscii-decimal, IsAscii-signed}
use Rattle.std.proofs.lemmas.Str.{IsUtf8-from_ascii}
use Rattle.std.specs.Fmt.{decimal, signed_decimal}
use Rattle.std.specs.Str.{IsUtf8}
use lib.Signed.{mag}

pub utf8_unsigned : (n : ℕ) (word : List ℕ) → n < 2 ^ 32 → decimal n ≡ word → IsUtf8 word
utf8_unsigned n word fits spelled = subst IsUtf8 spelled (IsUtf8-from_ascii _ (IsAscii-decimal n (omega (arith, fits))))

pub mag_fits : (z : ℤ) → FitsSigned w32 z → mag z < 2 ^ 63
mag_fits (pos n) fits = omega (arith, fits.sfits)
mag_fits (negsuc n) fits = omega (arith, fits.sfits)

pub utf8_signed : (z : ℤ) (word : List ℕ) → FitsSigned w32 z → signed_decimal z ≡ word → IsUtf8 word
utf8_signed z word fits spelled = subst IsUtf8 spelled (IsUtf8-from_ascii _ (IsAscii-signed z (mag_fits z fits)))
