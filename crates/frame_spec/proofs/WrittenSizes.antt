-- The entry map of a record that is written has room for each length and each position.
use Rattle.std.proofs.Common.{◌≡◌, ◌≤◌, ◌<◌, ℕ, zero, suc, ◌+◌, ◌-◌, ◌*◌, ◌/◌, ◌%◌, ◌^◌, Bool, List, [], ◌∷◌, ◌++◌, length, take, max, refl, sym, ap, ◌∙◌}
use Rattle.std.proofs.Common.{subst, arith, add-one, append_assoc}
use Rattle.std.specs.Prelude.{fold, sum}
use Rattle.std.specs.List.{AllByRecursion}
use Rattle.std.proofs.Math.Nat.{pow-suc}
use Rattle.std.proofs.lemmas.Fmt.{decimal_by_steps, decimal_nonempty, length-decimal-le}
use Rattle.std.proofs.lemmas.List.{length-append, length_push, length-map}
use Rattle.std.proofs.lemmas.List.Elements.{recursion_from_All}
use Rattle.std.proofs.lemmas.List.Sums.{sum_by-cons, sum_by-take-le}
use Rattle.frame_spec.specs.RecordFrame.{Field, RecordFrame}
use Rattle.frame_spec.specs.WrittenRecord.{CanBeWritten, StandsAt, WrittenHasLength, WrittenIsRead, digit_count, length_digits, position_digits}
use Rattle.frame_spec.specs.WrittenRecord.{base_address, record_length, field_lengths, field_area, directory_entries, leader_text, written_record}
use Rattle.frame_spec.proofs.WrittenEntries.{IsField}
use Rattle.frame_spec.proofs.WrittenFrame.{AreFields, base_of, length_of, record_text, text_length, record_stands}
use Rattle.frame_spec.proofs.WrittenLeader.{leader_with}

-- a number is below the power of ten of its digits
below_power : (n : ℕ) → n < 2 ^ 64 → n < 10 ^ digit_count n
below_power n small = decimal_by_steps (λ m ds. m < 10 ^ length ds) (λ m l. omega arith) more n small
  where
    more : (m : ℕ) (ds : List ℕ) → 10 ≤ m → m / 10 < 10 ^ length ds → m < 10 ^ length (ds ++ ((48 + m % 10) ∷ []))
    more m ds l h =
        let e : length (ds ++ ((48 + m % 10) ∷ [])) ≡ suc (length ds) = length_push ds _ ∙ add-one (length ds) in
        let f : m < 10 ^ suc (length ds) = rw pow-suc (omega (arith, h)) in
        subst (λ k. m < 10 ^ k) (sym e) f

sum-cons : (x : ℕ) (xs : List ℕ) → sum (x ∷ xs) ≡ x + sum xs
sum-cons x xs = sum_by-cons (λ y. y) x xs

-- the greatest of some numbers
max_above : (a : ℕ) (xs : List ℕ) → a ≤ fold max a xs
max_above a [] = omega arith
max_above a (x ∷ xs) = let rest = max_above (max a x) xs in omega (arith, rest)

max_below : (a : ℕ) (xs : List ℕ) → fold max a xs ≤ a + sum xs
max_below a [] = omega arith
max_below a (x ∷ xs) = let rest = max_below (max a x) xs in omega (arith, rest, sum-cons x xs)

pub area_length : (fields : List Field) → length (field_area fields) ≡ sum (field_lengths fields)
area_length [] = refl
area_length (f ∷ fields) = omega (arith, length-append f.bytes (field_area fields), area_length fields, sum-cons (length f.bytes) (field_lengths fields))

-- each field but the last begins before the last
below_last : (fields : List Field) (k : ℕ) → k < length fields → length (field_area (take k fields)) ≤ sum
    (take (length (field_lengths fields) - 1) (field_lengths fields))
below_last [] k below = absurd (omega arith)
below_last (f ∷ fields) zero below = omega arith
below_last (f ∷ []) (suc k) below = absurd (omega arith)
below_last (f ∷ g ∷ fields) (suc k) below =
    let rest = below_last (g ∷ fields) k (omega arith) in
    let lengths : List ℕ = field_lengths (g ∷ fields) in
    let one_more : length (length f.bytes ∷ lengths) - 1 ≡ suc (length lengths - 1) = omega arith in
    let last : sum (take (length (length f.bytes ∷ lengths) - 1) (length f.bytes ∷ lengths)) ≡ length f.bytes + sum (take (length lengths - 1) lengths) =
    ap (λ i. sum (take i (length f.bytes ∷ lengths))) one_more ∙ sum-cons (length f.bytes) (take (length lengths - 1) lengths) in
    omega (arith, rest, last, length-append f.bytes (field_area (take k (g ∷ fields))))

each_fits : (m a : ℕ) (fields : List Field) → AllByRecursion (λ (f : Field). length f.tag ≡ 4) fields
    → AllByRecursion (λ (f : Field). 0 < length f.bytes) fields
    → fold max a (field_lengths fields) < 10 ^ m → AllByRecursion (IsField m) fields
each_fits m a [] tags some most = tt
each_fits m a (f ∷ fields) tags some most = let here = max_above (max a (length f.bytes)) (field_lengths fields) in
    (record { tag = tags.0; some = some.0; fits = omega (arith, here, most) }, each_fits m (max a (length f.bytes)) fields tags.1 some.1 most)

pub base_is : (fields : List Field) → base_address (field_lengths fields) ≡ base_of (length_digits (field_lengths fields))
    (position_digits (field_lengths fields)) fields
base_is fields = ap (λ k. 25 + k * (4 + length_digits (field_lengths fields) + position_digits (field_lengths fields)))
    (length-map fields (λ (f : Field). length f.bytes))

pub length_is : (fields : List Field) → record_length (field_lengths fields) ≡ length_of (length_digits (field_lengths fields))
    (position_digits (field_lengths fields)) fields
length_is fields = omega (arith, base_is fields, area_length fields)

-- one digit to five
size_fits : (n : ℕ) → n ≤ 99999 → (1 ≤ digit_count n) × (digit_count n ≤ 9)
size_fits n small =
    let some = decimal_nonempty n (omega arith) in
    let most = length-decimal-le 5 n (omega arith) (omega arith) (omega arith) in
    (omega (arith, some), omega (arith, most))

pub fields_fit : (fields : List Field) → CanBeWritten fields → AreFields (length_digits (field_lengths fields)) (position_digits (field_lengths fields)) fields
fields_fit fields can =
    let lengths : List ℕ = field_lengths fields in
    let fits = can.fits in
    let total : sum lengths ≤ 99999 = omega (arith, fits) in
    let greatest : fold max 0 lengths ≤ 99999 = let most = max_below 0 lengths in omega (arith, most, total) in
    let last : ℕ = sum (take (length lengths - 1) lengths) in
    let last_below : last ≤ 99999 = let part = sum_by-take-le (λ x. x) lengths (length lengths - 1) in omega (arith, part, total) in
    record {
      length_size = size_fits (fold max 0 lengths) greatest;
      position_size = size_fits last last_below;
      each = each_fits (length_digits lengths) 0 fields (recursion_from_All _ fields can.tags) (recursion_from_All _ fields can.not_empty)
          (below_power (fold max 0 lengths) (omega (arith, greatest)));
      positions = λ k below. let before = below_last fields k below in let power = below_power last (omega (arith, last_below)) in omega (arith, before, power);
      fits = subst (λ n. n ≤ 99999) (length_is fields) fits;
    }

written_is : (first : Bool) (fields : List Field) → written_record first fields ≡ record_text first (length_digits (field_lengths fields))
    (position_digits (field_lengths fields)) fields
unfolding written_record
written_is first fields =
    let m : ℕ = length_digits (field_lengths fields) in
    let n : ℕ = position_digits (field_lengths fields) in
    let others : List ℕ = directory_entries m n 0 fields ++ (30 ∷ field_area fields) in
    append_assoc (leader_text first (field_lengths fields) ++ directory_entries m n 0 fields) (30 ∷ []) (field_area fields)
    ∙ append_assoc (leader_text first (field_lengths fields)) (directory_entries m n 0 fields) (30 ∷ field_area fields)
    ∙ ap (λ base. leader_with first m n base (record_length (field_lengths fields)) ++ others) (base_is fields)
    ∙ ap (λ size. leader_with first m n (base_of m n fields) size ++ others) (length_is fields)

pub written_has_length : WrittenHasLength
written_has_length first fields can = ap length (written_is first fields) ∙ text_length first _ _ fields (fields_fit fields can) ∙ sym (length_is fields)

pub written_is_read : WrittenIsRead
written_is_read b p first fields can h =
    subst (λ n. RecordFrame b p first (record { length = n; fields = fields })) (sym (length_is fields))
    (record_stands b p first _ _ fields (fields_fit fields can) (subst (StandsAt b p) (written_is first fields) h))
