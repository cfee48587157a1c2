-- Blocks of rows one after another: how many rows stand before a block, after each change of the blocks.
use Rattle.std.proofs.Common.{◌≡◌, ℕ, zero, suc, ◌+◌, ◌-◌, ◌<◌, ◌≤◌, List, [], ◌∷◌, ◌++◌, length, take, drop, set, insert, remove, refl, sym, ap, ◌∙◌, arith}
use Rattle.std.proofs.Common.{length-append, append_assoc, append-nil, take-append-drop, length-take, length-drop, slice_get, ◌*◌, length-set}
use Rattle.row_spec.specs.Blocks.{joined, block_at, rows_before, excess, claim_of, replaced, halved}

-- what stood in a place that is taken out is not seen
pub remove-set : {A : Type 0} (xs : List A) (i : ℕ) (y : A) → remove (set xs i y) i ≡ remove xs i
remove-set [] i y = refl
remove-set (x ∷ xs) zero y = refl
remove-set (x ∷ xs) (suc i) y = ap (λ rest. x ∷ rest) (remove-set xs i y)

module _ {X : Type 0} where
  pub joined-append : (xs ys : List (List X)) → joined (xs ++ ys) ≡ joined xs ++ joined ys
  joined-append [] ys = refl
  joined-append (x ∷ xs) ys = ap (λ rest. x ++ rest) (joined-append xs ys) ∙ sym (append_assoc x (joined xs) (joined ys))

  -- all rows are those before a block, its own and those after it
  pub joined_parted : (xs : List (List X)) (i : ℕ) → i < length xs → joined xs ≡ joined (take i xs) ++ (block_at xs i ++ joined (drop (suc i) xs))
  joined_parted [] i lt = absurd (omega arith)
  joined_parted (x ∷ xs) zero lt = refl
  joined_parted (x ∷ xs) (suc i) lt = ap (λ rest. x ++ rest) (joined_parted xs i (omega arith))
      ∙ sym (append_assoc x (joined (take i xs)) (block_at xs i ++ joined (drop (suc i) xs)))

  pub joined-set : (xs : List (List X)) (i : ℕ) (y : List X) → i < length xs → joined (set xs i y) ≡ joined (take i xs) ++ (y ++ joined (drop (suc i) xs))
  joined-set [] i y lt = absurd (omega arith)
  joined-set (x ∷ xs) zero y lt = refl
  joined-set (x ∷ xs) (suc i) y lt = ap (λ rest. x ++ rest) (joined-set xs i y (omega arith))
      ∙ sym (append_assoc x (joined (take i xs)) (y ++ joined (drop (suc i) xs)))

  pub joined-replaced : (xs : List (List X)) (i : ℕ) (y : List X) → i < length xs → joined (replaced xs i y) ≡ joined (take i xs)
      ++ (y ++ joined (drop (suc i) xs))
  joined-replaced xs i [] lt = joined-append (take i xs) (drop (suc i) xs)
  joined-replaced xs i (row ∷ y) lt = joined-set xs i (row ∷ y) lt

  pub joined-halved : (xs : List (List X)) (i : ℕ) → i < length xs → joined (halved xs i) ≡ joined xs
  joined-halved xs i lt =
      joined-append (take i xs) (take 128 (block_at xs i) ∷ drop 128 (block_at xs i) ∷ drop (suc i) xs)
      ∙ ap (λ rest. joined (take i xs) ++ rest) (sym (append_assoc (take 128 (block_at xs i)) (drop 128 (block_at xs i))
      (joined (drop (suc i) xs))) ∙ ap (λ rows. rows ++ joined (drop (suc i) xs)) (take-append-drop 128 (block_at xs i)))
      ∙ sym (joined_parted xs i lt)

  -- a lower half and an upper one in the place of a block
  pub insert-set : (xs : List (List X)) (i : ℕ) (low high : List X) → i < length xs → insert (set xs i low) (suc i) high ≡ take i xs
      ++ low ∷ high ∷ drop (suc i) xs
  insert-set [] i low high lt = absurd (omega arith)
  insert-set (x ∷ xs) zero low high lt = refl
  insert-set (x ∷ xs) (suc i) low high lt = ap (λ rest. x ∷ rest) (insert-set xs i low high (omega arith))

  pub length-joined-set : (xs : List (List X)) (i : ℕ) (y : List X) → i < length xs
      → length (joined (set xs i y)) + length (block_at xs i) ≡ length (joined xs) + length y
  length-joined-set [] i y lt = absurd (omega arith)
  length-joined-set (x ∷ xs) zero y lt = omega (arith, length-append y (joined xs), length-append x (joined xs))
  length-joined-set (x ∷ xs) (suc i) y lt = let rest = length-joined-set xs i y (omega arith) in
      omega (arith, length-append x (joined (set xs i y)), length-append x (joined xs), rest)

  pub length-joined-remove : (xs : List (List X)) (i : ℕ) → i < length xs → length (joined (remove xs i)) + length (block_at xs i) ≡ length (joined xs)
  length-joined-remove [] i lt = absurd (omega arith)
  length-joined-remove (x ∷ xs) zero lt = omega (arith, length-append x (joined xs))
  length-joined-remove (x ∷ xs) (suc i) lt = let rest = length-joined-remove xs i (omega arith) in
      omega (arith, length-append x (joined (remove xs i)), length-append x (joined xs), rest)

  pub length-halved : (xs : List (List X)) (i : ℕ) → i < length xs → length (halved xs i) ≡ length xs + 1
  length-halved [] i lt = absurd (omega arith)
  length-halved (x ∷ xs) zero lt = omega arith
  length-halved (x ∷ xs) (suc i) lt = let rest = length-halved xs i (omega arith) in omega (arith, rest)

  -- ---- how many rows stand before a block

  pub rows_before-all : (xs : List (List X)) (k : ℕ) → rows_before xs k ≤ length (joined xs)
  rows_before-all [] zero = omega arith
  rows_before-all [] (suc k) = omega arith
  rows_before-all (x ∷ xs) zero = omega arith
  rows_before-all (x ∷ xs) (suc k) = let rest = rows_before-all xs k in omega (arith, length-append x (joined (take k xs)), length-append x (joined xs))

  pub rows_before-suc : (xs : List (List X)) (k : ℕ) → k < length xs → rows_before xs (suc k) ≡ rows_before xs k + length (block_at xs k)
  rows_before-suc [] k lt = absurd (omega arith)
  rows_before-suc (x ∷ xs) zero lt = rw append-nil (omega arith)
  rows_before-suc (x ∷ xs) (suc k) lt = let rest = rows_before-suc xs k (omega arith) in
      omega (arith, length-append x (joined (take (suc k) xs)), length-append x (joined (take k xs)), rest)

  -- the rows of a block stand before the blocks behind it
  pub rows_before-behind : (xs : List (List X)) (i k : ℕ) → i < k → i < length xs → length (block_at xs i) ≤ rows_before xs k
  rows_before-behind [] i k lt in_range = absurd (omega arith)
  rows_before-behind (x ∷ xs) i zero lt in_range = absurd (omega arith)
  rows_before-behind (x ∷ xs) zero (suc k) lt in_range = omega (arith, length-append x (joined (take k xs)))
  rows_before-behind (x ∷ xs) (suc i) (suc k) lt in_range = let rest = rows_before-behind xs i k (omega arith) (omega arith) in
      omega (arith, length-append x (joined (take k xs)), rest)

  pub rows_before-set_low : (xs : List (List X)) (i k : ℕ) (y : List X) → k ≤ i → rows_before (set xs i y) k ≡ rows_before xs k
  rows_before-set_low [] i k y le = refl
  rows_before-set_low (x ∷ xs) i zero y le = refl
  rows_before-set_low (x ∷ xs) zero (suc k) y le = absurd (omega arith)
  rows_before-set_low (x ∷ xs) (suc i) (suc k) y le = let rest = rows_before-set_low xs i k y (omega arith) in
      omega (arith, length-append x (joined (take k (set xs i y))), length-append x (joined (take k xs)), rest)

  pub rows_before-set_high : (xs : List (List X)) (i k : ℕ) (y : List X) → i < k → i < length xs
      → rows_before (set xs i y) k + length (block_at xs i) ≡ rows_before xs k + length y
  rows_before-set_high [] i k y lt in_range = absurd (omega arith)
  rows_before-set_high (x ∷ xs) i zero y lt in_range = absurd (omega arith)
  rows_before-set_high (x ∷ xs) zero (suc k) y lt in_range = omega (arith, length-append y (joined (take k xs)), length-append x (joined (take k xs)))
  rows_before-set_high (x ∷ xs) (suc i) (suc k) y lt in_range = let rest = rows_before-set_high xs i k y (omega arith) (omega arith) in
      omega (arith, length-append x (joined (take k (set xs i y))), length-append x (joined (take k xs)), rest)

  pub rows_before-remove_low : (xs : List (List X)) (i k : ℕ) → k ≤ i → rows_before (remove xs i) k ≡ rows_before xs k
  rows_before-remove_low [] zero k le = ap (λ ys. length (joined (take k ys))) refl
  rows_before-remove_low [] (suc i) k le = refl
  rows_before-remove_low (x ∷ xs) i zero le = refl
  rows_before-remove_low (x ∷ xs) zero (suc k) le = absurd (omega arith)
  rows_before-remove_low (x ∷ xs) (suc i) (suc k) le = let rest = rows_before-remove_low xs i k (omega arith) in
      omega (arith, length-append x (joined (take k (remove xs i))), length-append x (joined (take k xs)), rest)

  pub rows_before-remove_high : (xs : List (List X)) (i k : ℕ) → i ≤ k → i < length xs
      → rows_before (remove xs i) k + length (block_at xs i) ≡ rows_before xs (suc k)
  rows_before-remove_high [] i k le lt = absurd (omega arith)
  rows_before-remove_high (x ∷ xs) zero k le lt = omega (arith, length-append x (joined (take k xs)))
  rows_before-remove_high (x ∷ xs) (suc i) zero le lt = absurd (omega arith)
  rows_before-remove_high (x ∷ xs) (suc i) (suc k) le lt = let rest = rows_before-remove_high xs i k (omega arith) (omega arith) in
      omega (arith, length-append x (joined (take k (remove xs i))), length-append x (joined (take (suc k) xs)), rest)

  pub rows_before-halved_low : (xs : List (List X)) (i k : ℕ) → k ≤ i → i < length xs → rows_before (halved xs i) k ≡ rows_before xs k
  rows_before-halved_low [] i k le lt = absurd (omega arith)
  rows_before-halved_low (x ∷ xs) i zero le lt = refl
  rows_before-halved_low (x ∷ xs) zero (suc k) le lt = absurd (omega arith)
  rows_before-halved_low (x ∷ xs) (suc i) (suc k) le lt = let rest = rows_before-halved_low xs i k (omega arith) (omega arith) in
      omega (arith, length-append x (joined (take k (halved xs i))), length-append x (joined (take k xs)), rest)

  pub rows_before-halved_middle : (xs : List (List X)) (i : ℕ) → i < length xs → 128 ≤ length (block_at xs i)
      → rows_before (halved xs i) (suc i) ≡ rows_before xs i + 128
  rows_before-halved_middle [] i lt full = absurd (omega arith)
  rows_before-halved_middle (x ∷ xs) zero lt full = rw append-nil (omega (arith, length-take 128 x))
  rows_before-halved_middle (x ∷ xs) (suc i) lt full = let rest = rows_before-halved_middle xs i (omega arith) full in
      omega (arith, length-append x (joined (take (suc i) (halved xs i))), length-append x (joined (take i xs)), rest)

  pub rows_before-halved_high : (xs : List (List X)) (i k : ℕ) → i < k → i < length xs → rows_before (halved xs i) (suc k) ≡ rows_before xs k
  rows_before-halved_high [] i k lt in_range = absurd (omega arith)
  rows_before-halved_high (x ∷ xs) i zero lt in_range = absurd (omega arith)
  rows_before-halved_high (x ∷ xs) zero (suc k) lt in_range =
      omega (
        arith,
        length-append (take 128 x) (drop 128 x ++ joined (take k xs)),
        length-append (drop 128 x) (joined (take k xs)),
        length-append x (joined (take k xs)),
        length-take 128 x,
        length-drop 128 x,
      )
  rows_before-halved_high (x ∷ xs) (suc i) (suc k) lt in_range = let rest = rows_before-halved_high xs i k (omega arith) (omega arith) in
      omega (arith, length-append x (joined (take (suc k) (halved xs i))), length-append x (joined (take k xs)), rest)

  -- ---- how many rows stand in the upper halves

  pub excess-set : (xs : List (List X)) (i : ℕ) (y : List X) → i < length xs → excess (set xs i y) + (length (block_at xs i) - 128) ≡
      excess xs + (length y - 128)
  excess-set [] i y lt = absurd (omega arith)
  excess-set (x ∷ xs) zero y lt = omega arith
  excess-set (x ∷ xs) (suc i) y lt = let rest = excess-set xs i y (omega arith) in omega (arith, rest)

  pub excess-halved : (xs : List (List X)) (i : ℕ) → i < length xs → length (block_at xs i) ≡ 256 → excess (halved xs i) + 128 ≡ excess xs
  excess-halved [] i lt full = absurd (omega arith)
  excess-halved (x ∷ xs) zero lt full = omega (arith, length-take 128 x, length-drop 128 x)
  excess-halved (x ∷ xs) (suc i) lt full = let rest = excess-halved xs i (omega arith) full in omega (arith, rest)

  pub excess-remove : (xs : List (List X)) (i : ℕ) → excess (remove xs i) ≤ excess xs
  excess-remove [] zero = omega arith
  excess-remove [] (suc i) = omega arith
  excess-remove (x ∷ xs) zero = omega arith
  excess-remove (x ∷ xs) (suc i) = let rest = excess-remove xs i in omega (arith, rest)

  pub excess-replaced : (xs : List (List X)) (i : ℕ) (y : List X) → i < length xs → length y ≤ length (block_at xs i) → excess (replaced xs i y) ≤ excess xs
  excess-replaced xs i [] lt shorter = excess-remove xs i
  excess-replaced xs i (row ∷ y) lt shorter = omega (arith, excess-set xs i (row ∷ y) lt)

  -- ---- what a halved block leaves around it

  pub take-halved : (xs : List (List X)) (i : ℕ) → i < length xs → take i (halved xs i) ≡ take i xs
  take-halved [] i lt = absurd (omega arith)
  take-halved (x ∷ xs) zero lt = refl
  take-halved (x ∷ xs) (suc i) lt = ap (λ rest. x ∷ rest) (take-halved xs i (omega arith))

  pub drop-halved : (xs : List (List X)) (i : ℕ) → i < length xs → drop (suc i) (halved xs i) ≡ drop 128 (block_at xs i) ∷ drop (suc i) xs
  drop-halved [] i lt = absurd (omega arith)
  drop-halved (x ∷ xs) zero lt = refl
  drop-halved (x ∷ xs) (suc i) lt = drop-halved xs i (omega arith)

  pub drop-halved_next : (xs : List (List X)) (i : ℕ) → i < length xs → drop (suc (suc i)) (halved xs i) ≡ drop (suc i) xs
  drop-halved_next [] i lt = absurd (omega arith)
  drop-halved_next (x ∷ xs) zero lt = refl
  drop-halved_next (x ∷ xs) (suc i) lt = drop-halved_next xs i (omega arith)

  pub block_at-halved : (xs : List (List X)) (i : ℕ) → i < length xs → block_at (halved xs i) i ≡ take 128 (block_at xs i)
  block_at-halved [] i lt = absurd (omega arith)
  block_at-halved (x ∷ xs) zero lt = refl
  block_at-halved (x ∷ xs) (suc i) lt = block_at-halved xs i (omega arith)

  pub block_at-halved_next : (xs : List (List X)) (i : ℕ) → i < length xs → block_at (halved xs i) (suc i) ≡ drop 128 (block_at xs i)
  block_at-halved_next [] i lt = absurd (omega arith)
  block_at-halved_next (x ∷ xs) zero lt = refl
  block_at-halved_next (x ∷ xs) (suc i) lt = block_at-halved_next xs i (omega arith)

  -- the row at a place in a block
  pub slice_get-right : (front back : List X) (j : ℕ) → slice_get (front ++ back) (length front + j) ≡ slice_get back j
  slice_get-right [] back j = let none : 0 + j ≡ j = omega arith in ap (slice_get back) none
  slice_get-right (x ∷ front) back j = let next : suc (length front) + j ≡ suc (length front + j) = omega arith in
      ap (slice_get (x ∷ (front ++ back))) next ∙ slice_get-right front back j

  pub slice_get-left : (front back : List X) (j : ℕ) → j < length front → slice_get (front ++ back) j ≡ slice_get front j
  slice_get-left [] back j lt = absurd (omega arith)
  slice_get-left (x ∷ front) back zero lt = refl
  slice_get-left (x ∷ front) back (suc j) lt = slice_get-left front back j (omega arith)

  pub slice_get-joined : (xs : List (List X)) (i j : ℕ) → i < length xs → j < length (block_at xs i)
      → slice_get (joined xs) (rows_before xs i + j) ≡ slice_get (block_at xs i) j
  slice_get-joined xs i j in_range lt =
      ap (λ rows. slice_get rows (rows_before xs i + j)) (joined_parted xs i in_range)
      ∙ slice_get-right (joined (take i xs)) (block_at xs i ++ joined (drop (suc i) xs)) j
      ∙ slice_get-left (block_at xs i) (joined (drop (suc i) xs)) j lt

  pub rows_before-mono : (xs : List (List X)) (i k : ℕ) → i ≤ k → rows_before xs i ≤ rows_before xs k
  rows_before-mono [] zero zero le = omega arith
  rows_before-mono [] zero (suc k) le = omega arith
  rows_before-mono [] (suc i) zero le = omega arith
  rows_before-mono [] (suc i) (suc k) le = omega arith
  rows_before-mono (x ∷ xs) zero k le = omega arith
  rows_before-mono (x ∷ xs) (suc i) zero le = absurd (omega arith)
  rows_before-mono (x ∷ xs) (suc i) (suc k) le = let rest = rows_before-mono xs i k (omega arith) in
      omega (arith, length-append x (joined (take i xs)), length-append x (joined (take k xs)), rest)

  pub rows_before-length : (xs : List (List X)) (k : ℕ) → length xs ≤ k → rows_before xs k ≡ length (joined xs)
  rows_before-length [] zero le = refl
  rows_before-length [] (suc k) le = refl
  rows_before-length (x ∷ xs) zero le = absurd (omega arith)
  rows_before-length (x ∷ xs) (suc k) le = let rest = rows_before-length xs k (omega arith) in
      omega (arith, length-append x (joined (take k xs)), length-append x (joined xs), rest)

  pub excess-le : (xs : List (List X)) → ((k : ℕ) → k < length xs → length (block_at xs k) ≤ 256) → excess xs ≤ 128 * length xs
  excess-le [] few = omega arith
  excess-le (x ∷ xs) few = let rest = excess-le xs (λ k lt. few (suc k) (omega arith)) in let here = few 0 (omega arith) in omega (arith, rest, here)

  -- ---- what the blocks claim of the reserve

  pub claim_of-some : (xs : List (List X)) → 0 < length xs → claim_of xs ≡ excess xs
  claim_of-some [] some = absurd (omega arith)
  claim_of-some (x ∷ xs) some = refl

  pub claim_of-le : (xs : List (List X)) → claim_of xs ≤ excess xs + 127
  claim_of-le [] = omega arith
  claim_of-le (x ∷ xs) = omega arith

  pub claim_of-set : (xs : List (List X)) (i : ℕ) (y : List X) → i < length xs → claim_of (set xs i y) + (length (block_at xs i) - 128) ≡
      claim_of xs + (length y - 128)
  claim_of-set xs i y lt = omega (arith, excess-set xs i y lt, claim_of-some xs (omega arith), claim_of-some (set xs i y) (omega (arith, length-set xs i y)))

  pub claim_of-halved : (xs : List (List X)) (i : ℕ) → i < length xs → length (block_at xs i) ≡ 256 → claim_of (halved xs i) + 128 ≡ claim_of xs
  claim_of-halved xs i lt full = omega (
    arith,
    excess-halved xs i lt full,
    claim_of-some xs (omega arith),
    claim_of-some (halved xs i) (omega (arith, length-halved xs i lt)),
  )

  pub claim_of-remove : (xs : List (List X)) (i : ℕ) → i < length xs → claim_of (remove xs i) ≤ claim_of xs + 127
  claim_of-remove xs i lt = omega (arith, claim_of-le (remove xs i), excess-remove xs i, claim_of-some xs (omega arith))

  pub claim_of-bound : (xs : List (List X)) → ((k : ℕ) → k < length xs → length (block_at xs k) ≤ 256) → claim_of xs ≤ 128 * length xs + 127
  claim_of-bound xs few = omega (arith, claim_of-le xs, excess-le xs few)
