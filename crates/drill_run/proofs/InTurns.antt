-- Sessions in turn: each stands there once a turn.
use Rattle.std.proofs.Common.{◌≡◌, ℕ, zero, suc, ◌+◌, ◌*◌, ◌<◌, ◌≤◌, ◌==◌, Bool, List, [], ◌∷◌, ◌++◌, length, inl, inr, refl, sym, ap, ◌∙◌, subst, arith}
use Rattle.std.proofs.Common.{append_assoc, append-nil}
use Rattle.std.specs.Prelude.{All, cond, count_by}
use Rattle.std.specs.List.{flat_map, range_with_len}
use Rattle.std.proofs.Math.Nat.{eq-or-lt_of_le}
use Rattle.std.proofs.lemmas.Bool.{eq-eqb, ne_eqb}
use Rattle.std.proofs.lemmas.List.Elements.{All-nil, All-append, All-from_get_or}
use Rattle.std.proofs.lemmas.List.Concat.{flat_map-append}
use Rattle.std.proofs.lemmas.List.FromFn.{length-range_with_len, get_or-range_with_len}
use Rattle.std.proofs.lemmas.List.Sums.{sum_by-cons, sum_by-append}
use Rattle.drill_run.specs.RoundRobin.{in_turns}

-- the numbers of a range
abbrev pub IsBetween : ℕ → ℕ → ℕ → Type 0
IsBetween low high n = (low ≤ n) × (n ≤ high)

all_numbers : (k : ℕ) → All (IsBetween 1 k) (range_with_len 1 k)
all_numbers k =
    All-from_get_or (IsBetween 1 k) (range_with_len 1 k) 0
    (λ i below. let within : i < k = omega (arith, length-range_with_len 1 k, below) in
    subst (IsBetween 1 k) (sym (get_or-range_with_len 1 k i 0 within)) (omega arith, omega (arith, within)))

all_repeated : {X : Type 0} (P : X → Type 0) (xs : List X) (turns : List ℕ) → All P xs → All P (flat_map (λ turn. xs) turns)
all_repeated P xs [] all = All-nil P
all_repeated P xs (turn ∷ turns) all = All-append P xs (flat_map (λ t. xs) turns) all (all_repeated P xs turns all)

pub in_turns_between : (sessions turns : ℕ) → All (IsBetween 1 sessions) (in_turns sessions turns)
in_turns_between sessions turns = all_repeated (IsBetween 1 sessions) (range_with_len 1 sessions) (range_with_len 0 turns) (all_numbers sessions)

abbrev is : ℕ → ℕ → Bool
is i other = other == i

abbrev one_if : ℕ → ℕ → ℕ
one_if i other = cond (other == i) 1 0

none_before : (i a n : ℕ) → i < a → count_by (is i) (range_with_len a n) ≡ 0
none_before i a zero below = refl
none_before i a (suc n) below = sum_by-cons (one_if i) a (range_with_len (a + 1) n)
    ∙ (λ j. cond (ne_eqb a i (λ e. absurd (omega (arith, e, below))) j) 1 0 + none_before i (a + 1) n (omega (arith, below)) j)

once : (i a n : ℕ) → a ≤ i → i < a + n → count_by (is i) (range_with_len a n) ≡ 1
once i a zero low high = absurd (omega (arith, low, high))
once i a (suc n) low high =
    sum_by-cons (one_if i) a (range_with_len (a + 1) n)
    ∙ elim (eq-or-lt_of_le low) [
      | inl e ↦ (λ j. cond (eq-eqb a i e j) 1 0 + none_before i (a + 1) n (omega (arith, e)) j)
      | inr h ↦ (λ j. cond (ne_eqb a i (λ e. absurd (omega (arith, e, h))) j) 1 0 + once i (a + 1) n (omega (arith, h)) (omega (arith, high)) j)
    ]

repeated_count : {X : Type 0} (p : X → Bool) (xs : List X) (turns : List ℕ) → count_by p (flat_map (λ turn. xs) turns) ≡ length turns * count_by p xs
repeated_count p xs [] = omega arith
repeated_count p xs (turn ∷ turns) = sum_by-append (λ x. cond (p x) 1 0) xs (flat_map (λ t. xs) turns)
    ∙ ap (λ n. count_by p xs + n) (repeated_count p xs turns) ∙ omega arith

pub in_turns_count : (sessions turns i : ℕ) → 1 ≤ i → i ≤ sessions → count_by (λ other. other == i) (in_turns sessions turns) ≡ turns
in_turns_count sessions turns i low high =
    let one = once i 1 sessions low (omega (arith, high)) in
    let many = length-range_with_len 0 turns in
    repeated_count (is i) (range_with_len 1 sessions) (range_with_len 0 turns) ∙ (λ j. many j * one j) ∙ omega arith

one_more : (a n : ℕ) → range_with_len a (suc n) ≡ range_with_len a n ++ (a + n) ∷ []
one_more a zero = let start : a ≡ a + 0 = omega arith in ap (λ b. b ∷ []) start
one_more a (suc n) = let last : (a + 1) + n ≡ a + suc n = omega arith in
    ap (λ xs. a ∷ xs) (one_more (a + 1) n ∙ ap (λ b. range_with_len (a + 1) n ++ b ∷ []) last)

range_more : (a n : ℕ) → range_with_len a (n + 1) ≡ range_with_len a n ++ (a + n) ∷ []
range_more a n = let one : n + 1 ≡ suc n = omega arith in ap (range_with_len a) one ∙ one_more a n

-- one session more
pub session_more : (before : List ℕ) (k : ℕ) → before ++ range_with_len 1 (k + 1) ≡ (before ++ range_with_len 1 k) ++ (k + 1) ∷ []
session_more before k =
    let last : 1 + k ≡ k + 1 = omega arith in
    ap (λ xs. before ++ xs) (range_more 1 k ∙ ap (λ b. range_with_len 1 k ++ b ∷ []) last) ∙ sym (append_assoc before (range_with_len 1 k) ((k + 1) ∷ []))

-- one turn more
pub turn_more : (sessions turns : ℕ) → in_turns sessions (turns + 1) ≡ in_turns sessions turns ++ range_with_len 1 sessions
turn_more sessions turns =
    ap (flat_map (λ turn. range_with_len 1 sessions)) (range_more 0 turns)
    ∙ flat_map-append (λ turn. range_with_len 1 sessions) (range_with_len 0 turns) ((0 + turns) ∷ [])
    ∙ ap (λ last. in_turns sessions turns ++ last) (append-nil (range_with_len 1 sessions))
