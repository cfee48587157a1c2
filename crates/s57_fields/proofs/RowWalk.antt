-- Rows that are cut one after the other, as a loop does.
use Rattle.std.proofs.Common.{◌≡◌, ℕ, suc, ◌+◌, ◌-◌, ◌<◌, ◌≤◌, ◌&&◌, Bool, true, false, List, [], ◌∷◌, ◌++◌, length, take, set, Option, Some, None, refl}
use Rattle.std.proofs.Common.{sym, ap, ◌∙◌, append_assoc, arith}
use Rattle.std.proofs.lemmas.List.{append-nil, take_more_set}
use Rattle.s57_fields.specs.RowCutting.{take_row, with_front, rows_after, rows_from}
use Rattle.s57_fields.specs.RowLayouts.{RowLayout}

and_assoc : (p q r : Bool) → (p && (q && r)) ≡ ((p && q) && r)
and_assoc true q r = refl
and_assoc false q r = refl

and_true : (p : Bool) → (p && true) ≡ p
and_true true = refl
and_true false = refl

pair : {X : Type 0} (xs ys : List X) (p q : Bool) → xs ≡ ys → p ≡ q → (let a : List X × Bool = (xs, p) in let b : List X × Bool = (ys, q) in Some a ≡ Some b)
pair xs ys p q same plain = rw (same, plain) refl

with_front-with_front : {X : Type 0} (front : List X) (plain : Bool) (x : X) (is_plain : Bool) (rest : Option (List X × Bool))
    → with_front front plain (with_front (x ∷ []) is_plain rest) ≡ with_front (front ++ x ∷ []) (plain && is_plain) rest
with_front-with_front front plain x is_plain None = refl
with_front-with_front front plain x is_plain (Some rows) =
    pair (front ++ (x ∷ rows.0)) ((front ++ x ∷ []) ++ rows.0) (plain && (is_plain && rows.1)) ((plain && is_plain) && rows.1)
    (simp append_assoc) (and_assoc plain is_plain rows.1)

-- bytes that are left give the next row, of one row fewer
rows_from-next : {X : Type 0} (layout : RowLayout X) (j : ℕ) (rest : List ℕ) → 0 < length rest
    → rows_from layout (suc j) rest ≡ rows_after (rows_from layout j) (take_row layout rest)
unfolding rows_from
rows_from-next layout j [] some = absurd (omega arith)
rows_from-next layout j (c ∷ b) some = refl

-- the next row, where so many rows are left
next_is : {X : Type 0} (layout : RowLayout X) (k j : ℕ) (rest : List ℕ)
    (taken : Option (X × Bool × List ℕ))
    → 0 < length rest → k ≡ suc j → take_row layout rest ≡ taken → rows_from layout k rest ≡ rows_after (rows_from layout j) taken
next_is layout k j rest taken some left is =
    ap (λ n. rows_from layout n rest) left ∙ rows_from-next layout j rest some ∙ ap (rows_after (rows_from layout j)) is

pub goes_on : {X : Type 0} (layout : RowLayout X) (front : List X)
    (plain : Bool) (total : Option (List X × Bool)) (k j : ℕ) (rest : List ℕ)
    (x : X) (is_plain : Bool) (after : List ℕ)
    → 0 < length rest → k ≡ suc j → take_row layout rest ≡ Some (x, is_plain, after)
    → with_front front plain (rows_from layout k rest) ≡ total
    → with_front (front ++ x ∷ []) (plain && is_plain) (rows_from layout j after) ≡ total
goes_on layout front plain total k j rest x is_plain after some left taken so_far =
    sym (with_front-with_front front plain x is_plain (rows_from layout j after))
    ∙ sym (ap (with_front front plain) (next_is layout k j rest (Some (x, is_plain, after)) some left taken))
    ∙ so_far

pub stops : {X : Type 0} (layout : RowLayout X) (front : List X) (plain : Bool)
    (total : Option (List X × Bool)) (k j : ℕ) (rest : List ℕ)
    → 0 < length rest → k ≡ suc j → take_row layout rest ≡ None → with_front front plain (rows_from layout k rest) ≡ total → total ≡ None
stops layout front plain total k j rest some left taken so_far =
    sym so_far ∙ ap (with_front front plain) (next_is layout k j rest None some left taken)

pub is_done : {X : Type 0} (layout : RowLayout X) (front : List X)
    (plain : Bool) (total : Option (List X × Bool)) (k : ℕ) (rest : List ℕ)
    → length rest ≡ 0 → with_front front plain (rows_from layout k rest) ≡ total → total ≡ Some (front, plain)
unfolding rows_from
is_done layout front plain total k [] none so_far = sym so_far ∙ pair (front ++ []) front (plain && true) plain (append-nil front) (and_true plain)
is_done layout front plain total k (c ∷ b) none so_far = absurd (omega arith)

-- the next row is written over a place
pub writes_on : {X : Type 0} (layout : RowLayout X) (rows : List X)
    (place : ℕ) (plain : Bool) (total : Option (List X × Bool)) (size : ℕ) (rest : List ℕ)
    (x : X) (is_plain : Bool) (after : List ℕ)
    → place < length rows → length rest + place ≤ size → length after < length rest → take_row layout rest ≡ Some (x, is_plain, after)
    → with_front (take place rows) plain (rows_from layout (size - place) rest) ≡ total
    → with_front (take (place + 1) (set rows place x)) (plain && is_plain) (rows_from layout (size - (place + 1)) after) ≡ total
writes_on layout rows place plain total size rest x is_plain after within room shorter taken so_far =
    let left : size - place ≡ suc (size - (place + 1)) = omega (arith, room, shorter) in
    let some : 0 < length rest = omega (arith, shorter) in
    ap (λ front. with_front front (plain && is_plain) (rows_from layout (size - (place + 1)) after)) (take_more_set rows place x within)
    ∙ goes_on layout (take place rows) plain total (size - place) (size - (place + 1)) rest x is_plain after some left taken so_far

-- no row stands in front
pub begins : {X : Type 0} (total : Option (List X × Bool)) → with_front [] true total ≡ total
begins None = refl
begins (Some rows) = refl
