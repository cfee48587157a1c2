-- Whether a record is within the limit, from what the program counts.
use Rattle.std.proofs.Common.{◌≡◌, ℕ, zero, suc, ◌+◌, ◌-◌, ◌*◌, ◌^◌, ◌≤◌, ◌==◌, ◌⊎◌, not, List, [], ◌∷◌, length, take, map, fold, sum, max}
use Rattle.std.proofs.Common.{refl, sym, ◌∙◌, ap, inl, inr, arith, leb}
use Rattle.std.proofs.lemmas.List.{length-take}
use Rattle.std.proofs.lemmas.List.Sums.{sum_by-cons, sum_by-take-le, length-filter, count_by-le-length}
use Rattle.std.proofs.lemmas.Bool.Decides.{nat_tests}
use Rattle.std.proofs.lemmas.Bool.{cases_lt}
use Rattle.frame_spec.specs.WrittenRecord.{digit_count, record_length}
use Rattle.s57_types.specs.RecordFields.{length_limit}
use Rattle.record_fit.proofs.PresentFields.{present-some}
use Rattle.record_fit.specs.Lengths.{saturated, present, is_within_limit, IsSizesOf}
use Rattle.record_fit.specs.declared.length.Sizes.{Sizes}

sum-present-cons : (n : ℕ) (ns : List ℕ) → sum (present (n ∷ ns)) ≡ n + sum (present ns)
sum-present-cons zero ns = omega arith
sum-present-cons (suc n) ns = ap sum (present-some (suc n) ns (omega arith)) ∙ sum_by-cons (λ m. m) (suc n) (present ns)

-- fields of as many bytes as a machine word counts, or more
pub too_long : (ns : List ℕ) → 2 ^ 64 - 1 ≤ sum (present ns) → saturated (record_length (present ns)) ≡ 2 ^ 64 - 1
too_long ns h = omega (arith, h)

record IsBoth (ns : List ℕ) : Type 0 where
  long : 2 ^ 64 - 1 ≤ sum (present ns)
  counted_long : 2 ^ 64 - 1 ≤ sum (present (map saturated ns))

same_or_long : (ns : List ℕ) → (map saturated ns ≡ ns) ⊎ IsBoth ns
same_or_long [] = inl refl
same_or_long (n ∷ ns) = elim (cases_lt (2 ^ 64 - 1) n) [
  | inl large ↦ inr (record {
    long = omega (arith, sum-present-cons n ns);
    counted_long = omega (arith, sum-present-cons (saturated n) (map saturated ns));
  })
  | inr small ↦ elim (same_or_long ns) [
    | inl same ↦ let head : saturated n ≡ n = omega arith in inl (cc)
    | inr both ↦ inr (record {
      long = omega (arith, sum-present-cons n ns, both.long);
      counted_long = omega (arith, sum-present-cons (saturated n) (map saturated ns), both.counted_long);
    })
  ]
]

-- counting in machine words gives the same
pub length-saturated : (ns : List ℕ) → saturated (record_length (present (map saturated ns))) ≡ saturated (record_length (present ns))
length-saturated ns = elim (same_or_long ns) [
  | inl same ↦ ap (λ ms. saturated (record_length (present ms))) same
  | inr both ↦ too_long (map saturated ns) both.counted_long ∙ sym (too_long ns both.long)
]

pub limit-saturated : (n : ℕ) → leb (saturated n) length_limit ≡ leb n length_limit
limit-saturated n = grind (arith, nat_tests)

-- and decides the same
pub within_limit-saturated : (ns : List ℕ) → is_within_limit (map saturated ns) ≡ is_within_limit ns
within_limit-saturated ns =
    sym (limit-saturated (record_length (present (map saturated ns)))) ∙ ap (λ n. leb n length_limit) (length-saturated ns)
    ∙ limit-saturated (record_length (present ns))

pub present_count_le : (ns : List ℕ) → length (present ns) ≤ length ns
present_count_le ns = omega (arith, length-filter (λ n. not (n == 0)) ns, count_by-le-length (λ n. not (n == 0)) ns)

length_by : ℕ → ℕ → ℕ → ℕ → ℕ
length_by count longest last_begins total = saturated (25 + count * (4 + digit_count longest + digit_count last_begins) + total)

length_same : (c d l m b e t u : ℕ) → c ≡ d → l ≡ m → b ≡ e → t ≡ u → length_by c l b t ≡ length_by d m e u
length_same c d l m b e t u p q r s = cc

-- the sizes tell the length
pub sizes_tell : (lengths : List ℕ) (sizes : Sizes) → IsSizesOf lengths sizes
    → saturated (25 + sizes.count * (4 + digit_count sizes.longest + digit_count sizes.last_begins) + sizes.total) ≡ saturated (record_length (present lengths))
unfolding length_by
sizes_tell lengths sizes is =
    let fields = present lengths in
    elim (cases_lt (sum fields) (2 ^ 64 - 1)) [
      | inl small ↦ length_same sizes.count (length fields) sizes.longest (fold max 0 fields) sizes.last_begins
          (sum (take (length fields - 1) fields)) sizes.total (sum fields)
          is.count is.longest (omega (arith, is.last_begins, sum_by-take-le (λ n. n) fields (length fields - 1), small)) (omega (arith, is.total, small))
      | inr large ↦ let full : sizes.total ≡ 2 ^ 64 - 1 = omega (arith, is.total, large) in omega (arith, full, large)
    ]

-- there are at most as many fields as lengths
pub count_within : (lengths : List ℕ) (i : ℕ) (sizes : Sizes) → IsSizesOf (take i lengths) sizes → sizes.count ≤ length lengths
count_within lengths i sizes is = omega (arith, is.count, present_count_le (take i lengths), length-take i lengths)
