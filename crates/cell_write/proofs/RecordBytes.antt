-- The bytes of records one after the other.
use Rattle.std.proofs.Common.{◌≡◌, ℕ, ◌+◌, List, [], ◌∷◌, ◌++◌, length, sym, ap, ◌∙◌, arith, append_assoc}
use Rattle.s57_types.specs.declared.record.Rec.{Rec}
use Rattle.file_spec.specs.EncodedCell.{record_bytes, records_bytes}

records_bytes-append : (nall n : ℕ) (xs ys : List Rec) → records_bytes nall n (xs ++ ys) ≡ records_bytes nall n xs ++ records_bytes nall (n + length xs) ys
records_bytes-append nall n [] ys = let e : n ≡ n + 0 = omega arith in ap (λ k. records_bytes nall k ys) e
records_bytes-append nall n (x ∷ xs) ys =
    let e : n + 1 + length xs ≡ n + length (x ∷ xs) = omega arith in
    ap (λ b. record_bytes nall n x ++ b) (records_bytes-append nall (n + 1) xs ys ∙ ap (λ k. records_bytes nall (n + 1) xs ++ records_bytes nall k ys) e)
    ∙ sym (append_assoc (record_bytes nall n x) (records_bytes nall (n + 1) xs) (records_bytes nall (n + length (x ∷ xs)) ys))

-- records whose numbers go on from those before
pub next_records : (nall n m : ℕ) (before xs slice : List Rec) (out old new : List ℕ) → slice ≡ xs → m ≡ n + length before
    → old ≡ out ++ records_bytes nall n before
    → new ≡ old ++ records_bytes nall m slice → new ≡ out ++ records_bytes nall n (before ++ xs)
next_records nall n m before xs slice out old new same number old_is new_is =
    new_is ∙ ap (λ (b : List ℕ). b ++ records_bytes nall m slice) old_is ∙ append_assoc out (records_bytes nall n before) (records_bytes nall m slice)
    ∙ ap (λ (k : ℕ). out ++ (records_bytes nall n before ++ records_bytes nall k slice)) number
    ∙ ap (λ (r : List Rec). out ++ (records_bytes nall n before ++ records_bytes nall (n + length before) r)) same
    ∙ ap (λ (b : List ℕ). out ++ b) (sym (records_bytes-append nall n before xs))
