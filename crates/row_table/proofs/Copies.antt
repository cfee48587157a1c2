-- What copies of rows are.
use Rattle.std.proofs.Common.{All, List, Ordering, [], ap, ap₂, arith, length, length-append, refl, subst, suc, sym, take, zero, ℕ, ◌++◌, ◌∙◌, ◌∷◌, ◌≡◌}
use Rattle.std.specs.List.Sorted.{IsStrictlySortedBy}
use Rattle.std.specs.Map.{keys_of}
use Rattle.std.specs.List.{AllZip}
use Rattle.std.proofs.lemmas.List.Elements.{All-cons, All-tail}
use Rattle.row_spec.specs.Rows.{Run, AreCopies, IsAscending}
use Rattle.row_spec.specs.Blocks.{joined, rows_of, rows_before, AreRunCopies, IsFilled, AreStarts}

module _ {K V : Type 0} (clones : V → V → Type 0) where
  -- copies have the keys of the rows
  pub keys_of-copies : (rows copies : List (K × V)) → AreCopies clones rows copies → keys_of copies ≡ keys_of rows
  keys_of-copies [] [] copied = refl
  keys_of-copies [] (copy ∷ copies) copied = absurd copied
  keys_of-copies (row ∷ rows) [] copied = absurd copied
  keys_of-copies (row ∷ rows) (copy ∷ copies) copied = ap₂ (λ k ks. k ∷ ks) copied.0.0 (keys_of-copies rows copies copied.1)

  pub copies_are_rows : (rows copies : List (K × V)) → ((value cloned : V) → clones value cloned → cloned ≡ value) → AreCopies clones rows copies
      → copies ≡ rows
  copies_are_rows [] [] same copied = refl
  copies_are_rows [] (copy ∷ copies) same copied = absurd copied
  copies_are_rows (row ∷ rows) [] same copied = absurd copied
  copies_are_rows (row ∷ rows) (copy ∷ copies) same copied =
      ap₂ (λ r rs. r ∷ rs) (ap₂ (λ k v. (k, v)) copied.0.0 (same row.1 copy.1 copied.0.1)) (copies_are_rows rows copies same copied.1)

  pub IsAscending-copies : (cmp : K → K → Ordering) (rows copies : List (K × V)) → AreCopies clones rows copies → IsAscending cmp rows → IsAscending cmp copies
  IsAscending-copies cmp rows copies copied ascending = subst (IsStrictlySortedBy cmp) (sym (keys_of-copies rows copies copied)) ascending

  AreCopies-append : (rows copies more others : List (K × V)) → AreCopies clones rows copies → AreCopies clones more others
      → AreCopies clones (rows ++ more) (copies ++ others)
  AreCopies-append [] [] more others copied next = next
  AreCopies-append [] (copy ∷ copies) more others copied next = absurd copied
  AreCopies-append (row ∷ rows) [] more others copied next = absurd copied
  AreCopies-append (row ∷ rows) (copy ∷ copies) more others copied next = (copied.0, AreCopies-append rows copies more others copied.1 next)

  pub length-copies : (rows copies : List (K × V)) → AreCopies clones rows copies → length copies ≡ length rows
  length-copies [] [] copied = refl
  length-copies [] (copy ∷ copies) copied = absurd copied
  length-copies (row ∷ rows) [] copied = absurd copied
  length-copies (row ∷ rows) (copy ∷ copies) copied = ap suc (length-copies rows copies copied.1)

  pub joined-copies : (runs copies : List (Run K V)) → AllZip (AreRunCopies clones) runs copies
      → AreCopies clones (joined (rows_of runs)) (joined (rows_of copies))
  joined-copies [] [] copied = tt
  joined-copies [] (copy ∷ copies) copied = absurd copied
  joined-copies (run ∷ runs) [] copied = absurd copied
  joined-copies (run ∷ runs) (copy ∷ copies) copied = AreCopies-append run.rows copy.rows (joined (rows_of runs))
      (joined (rows_of copies)) copied.0.rows (joined-copies runs copies copied.1)

  count-copies : (runs copies : List (Run K V)) → AllZip (AreRunCopies clones) runs copies → length (rows_of copies) ≡ length (rows_of runs)
  count-copies [] [] copied = refl
  count-copies [] (copy ∷ copies) copied = absurd copied
  count-copies (run ∷ runs) [] copied = absurd copied
  count-copies (run ∷ runs) (copy ∷ copies) copied = ap suc (count-copies runs copies copied.1)

  rows_before-copies : (runs copies : List (Run K V)) (k : ℕ) → AllZip (AreRunCopies clones) runs copies
      → rows_before (rows_of copies) k ≡ rows_before (rows_of runs) k
  rows_before-copies runs copies zero copied = refl
  rows_before-copies [] [] (suc k) copied = refl
  rows_before-copies [] (copy ∷ copies) (suc k) copied = absurd copied
  rows_before-copies (run ∷ runs) [] (suc k) copied = absurd copied
  rows_before-copies (run ∷ runs) (copy ∷ copies) (suc k) copied =
      let rest = rows_before-copies runs copies k copied.1 in
      omega (
        arith,
        rest,
        length-copies run.rows copy.rows copied.0.rows,
        length-append copy.rows (joined (take k (rows_of copies))),
        length-append run.rows (joined (take k (rows_of runs))),
      )

  pub filled-copies : (runs copies : List (Run K V)) → AllZip (AreRunCopies clones) runs copies → All IsFilled runs → All IsFilled copies
  filled-copies [] [] copied filled = filled
  filled-copies [] (copy ∷ copies) copied filled = absurd copied
  filled-copies (run ∷ runs) [] copied filled = absurd copied
  filled-copies (run ∷ runs) (copy ∷ copies) copied filled =
      let was = filled 0 run (omega arith) in
      let len = length-copies run.rows copy.rows copied.0.rows in
      All-cons IsFilled copy copies (record { some = omega (arith, len, was.some); few = omega (arith, len, was.few); room = copied.0.room })
      (filled-copies runs copies copied.1 (All-tail IsFilled run runs filled))

  pub starts-copies : (runs copies : List (Run K V)) (starts : List ℕ) → AllZip (AreRunCopies clones) runs copies
      → AreStarts (rows_of runs) starts → AreStarts (rows_of copies) starts
  starts-copies runs copies starts copied are = record {
    count = are.count ∙ sym (count-copies runs copies copied);
    start = λ k lt. are.start k (omega (arith, count-copies runs copies copied)) ∙ sym (rows_before-copies runs copies k copied);
    fits = omega (arith, are.fits, length-copies (joined (rows_of runs)) (joined (rows_of copies)) (joined-copies runs copies copied));
  }
