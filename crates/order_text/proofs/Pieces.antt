-- A text cut at its first space.
use Rattle.std.proofs.Common.{◌≡◌, ◌<◌, ◌≤◌, ◌+◌, ◌==◌, ℕ, suc, Bool, true, false, List, [], ◌∷◌, length, take, drop, arith, refl, Some, None, cond, nat_lt}
use Rattle.std.proofs.Common.{◌++◌, map, ap, Bor}
use Rattle.std.proofs.lemmas.List.{length-map, length-append}
use Rattle.std.proofs.lemmas.Bool.{ltb-false}
use Rattle.std.specs.List.{position, position_or_len}
use Rattle.text_spec.specs.OrderLine.{pieces, with_byte}

-- the place of the first space, or the length
abbrev pub space_place : List ℕ → ℕ
space_place = position_or_len (λ c. c == 32)

cut_step : (c : ℕ) (text : List ℕ) (b : Bool) → (c == 32) ≡ b
    → (space_place text < length text → pieces text ≡ take (space_place text) text ∷ pieces (drop (space_place text + 1) text))
    → space_place (c ∷ text) < length (c ∷ text)
    → pieces (c ∷ text) ≡ take (space_place (c ∷ text)) (c ∷ text) ∷ pieces (drop (space_place (c ∷ text) + 1) (c ∷ text))
cut_step c text true is inner within = rw is refl
cut_step c text false is inner within =
    let shorter = rw is at within in
    let first : 1 + space_place text ≡ suc (space_place text) = omega arith in
    let behind : 1 + space_place text + 1 ≡ suc (space_place text + 1) = omega arith in
    rw is (rw (inner (omega (arith, shorter))) (rw (behind, first) refl))

-- the first piece ends there
pub pieces-cut : (text : List ℕ) → space_place text < length text → pieces text ≡ take (space_place text) text ∷ pieces (drop (space_place text + 1) text)
pieces-cut [] within = absurd (omega (arith, within))
pieces-cut (c ∷ text) within = cut_step c text (c == 32) refl (pieces-cut text) within

whole_step : (c : ℕ) (text : List ℕ) (b : Bool) → (c == 32) ≡ b → (length text ≤ space_place text → pieces text ≡ text ∷ [])
    → length (c ∷ text) ≤ space_place (c ∷ text) → pieces (c ∷ text) ≡ (c ∷ text) ∷ []
whole_step c text true is inner above = let empty = rw is at above in absurd (omega (arith, empty))
whole_step c text false is inner above =
    let longer = rw is at above in
    rw is (rw (inner (omega (arith, longer))) refl)

-- a text without a space is one piece
pub pieces-whole : (text : List ℕ) → length text ≤ space_place text → pieces text ≡ text ∷ []
pieces-whole [] above = refl
pieces-whole (c ∷ text) above = whole_step c text (c == 32) refl (pieces-whole text) above

-- the place that a search gives
found_in : (b : Bool) (n i : ℕ) → Some i ≡ cond b (Some n) None → i ≡ n
found_in true n i e = cc
found_in false n i e = absurd (cc)

missed_in : (b : Bool) (n : ℕ) → None ≡ cond b (Some n) None → b ≡ false
missed_in true n e = absurd (cc)
missed_in false n e = refl

pub position-found : (p : ℕ → Bool) (text : List ℕ) (i : ℕ) → Some i ≡ position p text → i ≡ position_or_len p text
position-found p text i e = found_in (nat_lt (position_or_len p text) (length text)) (position_or_len p text) i e

le_step : (p : ℕ → Bool) (c : ℕ) (text : List ℕ) (b : Bool) → p c ≡ b → position_or_len p text ≤ length text → position_or_len p (c ∷ text) ≤ length (c ∷ text)
le_step p c text true is inner = rw is (omega arith)
le_step p c text false is inner = rw is (omega (arith, inner))

position_le : (p : ℕ → Bool) (text : List ℕ) → position_or_len p text ≤ length text
position_le p [] = omega arith
position_le p (c ∷ text) = le_step p c text (p c) refl (position_le p text)

pub position-missed : (p : ℕ → Bool) (text : List ℕ) → None ≡ position p text → length text ≡ position_or_len p text
position-missed p text e =
    let above = ltb-false (position_or_len p text) (length text) (missed_in (nat_lt (position_or_len p text) (length text)) (position_or_len p text) e) in
    let below = position_le p text in
    omega (arith, above, below)

length-with_byte : (c : ℕ) (ps : List (List ℕ)) (n : ℕ) → length ps ≤ n + 1 → length (with_byte c ps) ≤ n + 1
length-with_byte c [] n few = omega arith
length-with_byte c (p ∷ ps) n few = omega (arith, few)

some_step : (c : ℕ) (text : List ℕ) (b : Bool) → (c == 32) ≡ b → 0 < length (pieces (c ∷ text))
some_step c text true is = rw is (omega arith)
some_step c text false is = rw is (some_with c (pieces text))
  where
    some_with : (d : ℕ) (ps : List (List ℕ)) → 0 < length (with_byte d ps)
    some_with d [] = omega arith
    some_with d (p ∷ ps) = omega arith

-- and at least one
pub pieces-some : (text : List ℕ) → 0 < length (pieces text)
pieces-some [] = omega arith
pieces-some (c ∷ text) = some_step c text (c == 32) refl

few_step : (c : ℕ) (text : List ℕ) (b : Bool) → (c == 32) ≡ b → length (pieces text) ≤ length text + 1 → length (pieces (c ∷ text)) ≤ length (c ∷ text) + 1
few_step c text true is inner = rw is (omega (arith, inner))
few_step c text false is inner = let same = length-with_byte c (pieces text) (length text) inner in rw is (omega (arith, same))

-- there is at most one piece more than bytes
pub pieces-few : (text : List ℕ) → length (pieces text) ≤ length text + 1
pieces-few [] = omega arith
pieces-few (c ∷ text) = few_step c text (c == 32) refl (pieces-few text)

-- pieces that were found, with those behind them
pub few_found : (found : List (Bor (List ℕ))) (more : List (List ℕ)) (text : List ℕ) → map (λ piece. piece.now) found ++ more ≡ pieces text
    → length found ≤ length text + 1
few_found found more text are =
    let all = ap length are in
    let parts : length (map (λ (piece : Bor (List ℕ)). piece.now) found ++ more) ≡ length
    (map (λ (piece : Bor (List ℕ)). piece.now) found) + length more = length-append (map (λ (piece : Bor (List ℕ)). piece.now) found) more in
    let same : length (map (λ (piece : Bor (List ℕ)). piece.now) found) ≡ length found = length-map found (λ piece. piece.now) in
    let few = pieces-few text in
    omega (arith, all, parts, same, few)
