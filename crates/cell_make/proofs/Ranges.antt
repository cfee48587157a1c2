-- Lists by ranges of numbers, one more at a time.
use Rattle.std.proofs.Common.{◌≡◌, ℕ, zero, suc, ◌+◌, ◌-◌, ◌<◌, List, [], ◌∷◌, ◌++◌, length, map, sym, ap, ◌∙◌, append_assoc, arith}
use Rattle.std.specs.Prelude.{reverse}
use Rattle.std.specs.List.{flat_map, range_with_len}
use Rattle.std.proofs.lemmas.List.{append-nil, length-map, length-reverse, get_or-map, get_or-reverse}
use Rattle.std.proofs.lemmas.List.Concat.{flat_map-append}
use Rattle.std.proofs.lemmas.List.FromFn.{map-range_with_len_more, length-range_with_len, get_or-range_with_len, fill_by_all}

pub range_join : (a m n : ℕ) → range_with_len a (m + n) ≡ range_with_len a m ++ range_with_len (a + m) n
range_join a zero n =
    let none : zero + n ≡ n = omega arith in
    let start : a + 0 ≡ a = omega arith in
    ap (range_with_len a) none ∙ ap (λ b. range_with_len b n) (sym start)
range_join a (suc m) n =
    let one : suc m + n ≡ suc (m + n) = omega arith in
    let start : a + 1 + m ≡ a + suc m = omega arith in
    ap (range_with_len a) one ∙ ap (λ xs. a ∷ xs) (range_join (a + 1) m n ∙ ap (λ b. range_with_len (a + 1) m ++ range_with_len b n) start)

-- one more item in a row
pub row_more : {X : Type 0} (f : ℕ → X) (before : List X) (k : ℕ) → before ++ map f (range_with_len 0 (k + 1)) ≡
    (before ++ map f (range_with_len 0 k)) ++ f k ∷ []
row_more f before k = ap (λ xs. before ++ xs) (map-range_with_len_more f 0 k k (omega arith))
    ∙ sym (append_assoc before (map f (range_with_len 0 k)) (f k ∷ []))

-- one more row
pub rows_more : {X : Type 0} (f : ℕ → List X) (before : List X) (k : ℕ) → before ++ flat_map f (range_with_len 0 (k + 1)) ≡
    (before ++ flat_map f (range_with_len 0 k)) ++ f k
rows_more f before k =
    let start : 0 + k ≡ k = omega arith in
    ap (λ xs. before ++ xs)
    (ap (flat_map f) (range_join 0 k 1) ∙ flat_map-append f (range_with_len 0 k) (range_with_len (0 + k) 1)
    ∙ ap (λ xs. flat_map f (range_with_len 0 k) ++ xs) (append-nil (f (0 + k)) ∙ ap f start))
    ∙ sym (append_assoc before (flat_map f (range_with_len 0 k)) (f k))

-- numbers from the last down
pub from_last : {X : Type 0} (f : ℕ → X) (n : ℕ) → map f (reverse (range_with_len 0 n)) ≡ map (λ k. f (n - 1 - k)) (range_with_len 0 n)
from_last f n =
    let all = length-range_with_len 0 n in
    let down = reverse (range_with_len 0 n) in
    let as_many : length down ≡ n = length-reverse (range_with_len 0 n) ∙ all in
    fill_by_all (λ k. f (n - 1 - k)) (map f down) n (f 0) (length-map down f ∙ as_many)
    (λ k below. let within : k < length down = omega (arith, as_many, below) in
    let there : k < length (range_with_len 0 n) = omega (arith, all, below) in
    let place : length (range_with_len 0 n) - 1 - k < n = omega (arith, all, below) in
    let number : 0 + (length (range_with_len 0 n) - 1 - k) ≡ n - 1 - k = omega (arith, all, below) in
    get_or-map f down k 0 (f 0) within
    ∙ ap f (get_or-reverse (range_with_len 0 n) k 0 there ∙ get_or-range_with_len 0 n (length (range_with_len 0 n) - 1 - k) 0 place ∙ number))

-- one more round, the first being that of number 1
pub rounds_more : {X : Type 0} (f : ℕ → List X) (k : ℕ) → flat_map f (range_with_len 1 (k + 1)) ≡ flat_map f (range_with_len 1 k) ++ f (k + 1)
rounds_more f k =
    let last : 1 + k ≡ k + 1 = omega arith in
    ap (flat_map f) (range_join 1 k 1) ∙ flat_map-append f (range_with_len 1 k) (range_with_len (1 + k) 1)
    ∙ ap (λ xs. flat_map f (range_with_len 1 k) ++ xs) (append-nil (f (1 + k)) ∙ ap f last)

-- one more script, the first being that of number 1
pub scripts_more : {X : Type 0} (f : ℕ → X) (k : ℕ) → map f (range_with_len 1 (k + 1)) ≡ map f (range_with_len 1 k) ++ f (k + 1) ∷ []
scripts_more f k = map-range_with_len_more f 1 k (k + 1) (omega arith)
