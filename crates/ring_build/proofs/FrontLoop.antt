-- The loop at the front of a boundary: found by one walk along it.
use Rattle.std.proofs.Common.{◌≡◌, ℕ, suc, ◌+◌, ◌-◌, ◌<◌, ◌≤◌, Bool, true, false, not, ◌&&◌, ◌||◌, List, [], ◌∷◌, ◌++◌, length, map, take, drop, find}
use Rattle.std.proofs.Common.{Option, None, Some, cond, refl, sym, ap, ◌∙◌, get_or, arith}
use Rattle.std.specs.List.{list_any}
use Rattle.std.specs.Cmp.Lexicographic.{pointwise}
use Rattle.s57_types.specs.declared.name.RecName.{RecName}
use Rattle.cell_spec.specs.Names.{same_name, kind_rank}
use Rattle.rule_spec.specs.Loops.{Arc, is_loop, counted_from, loop_length}
use Rattle.std.proofs.lemmas.List.{at_drop_more}
use store.Seg.{eqb_same}

pub same_name-self : (n : RecName) → same_name n n ≡ true
same_name-self n = rw (eqb_same (kind_rank n.kind)) (eqb_same n.id)

one_more : (j : ℕ) → 1 + j ≡ suc j
one_more j = omega arith

-- a chain that has come to a node goes on along these pieces, and comes to the first start at the end of them and not before
abbrev pub goes_round : RecName → RecName → List Arc → Bool
goes_round start node [] = same_name node start
goes_round start node (b ∷ rest) = not (same_name node start) && (same_name node b.0 && goes_round start b.1 rest)

-- the number of the piece that comes to the start first, along a chain that has come to a node after so many pieces
abbrev pub returns_at : ℕ → RecName → RecName → List Arc → Option ℕ
returns_at k start node [] = None
returns_at k start node (b ∷ rest) = cond (same_name node b.0) (cond (same_name b.1 start) (Some (k + 1)) (returns_at (k + 1) start b.1 rest)) None

-- closed is a chain that is so far and further on, and comes back early where it does here or further on
regroup : (meets more back early : Bool) → ((meets && more) && not (back || early)) ≡ (not back && (meets && (more && not early)))
regroup true true true early = refl
regroup true false true early = refl
regroup true more false early = refl
regroup false more true early = refl
regroup false more false early = refl

last_closes : (b : Bool) → ((b && true) && true) ≡ b
last_closes true = refl
last_closes false = refl

closed_no_sooner : (start : RecName) (a : Arc) (rest : List Arc) →
    (pointwise same_name (map (λ (b : Arc). b.1) (a ∷ rest)) (map (λ (b : Arc). b.0) rest ++ start ∷ []) && not
    (list_any (λ (b : Arc). same_name b.1 start) (take (length rest) (a ∷ rest))))
    ≡ goes_round start a.1 rest
closed_no_sooner start a [] = last_closes (same_name a.1 start)
closed_no_sooner start a (b ∷ rest) =
    regroup (same_name a.1 b.0) (pointwise same_name (map (λ (b : Arc). b.1) (b ∷ rest)) (map (λ (b : Arc). b.0) rest ++ start ∷ []))
    (same_name a.1 start) (list_any (λ (b : Arc). same_name b.1 start) (take (length rest) (b ∷ rest)))
    ∙ ap (λ t. not (same_name a.1 start) && (same_name a.1 b.0 && t)) (closed_no_sooner start b rest)

pub is_loop-round : (a : Arc) (rest : List Arc) → is_loop (a ∷ rest) ≡ goes_round a.0 a.1 rest
is_loop-round a rest = closed_no_sooner a.0 a rest

-- where no number from one on passes a test, none is found
pub none_counted : (p : ℕ → Bool) (n : ℕ) (xs : List Arc) → ((m : ℕ) → n ≤ m → p m ≡ false) → find p (counted_from n xs) ≡ None
none_counted p n [] h = refl
none_counted p n (x ∷ xs) h = rw (h n (omega arith)) (none_counted p (n + 1) xs (λ m le. h m (omega (arith, le))))

-- one piece on, by whether the chain has come back and whether it goes on
round_further : (p : ℕ → Bool) (start node : RecName) (n : ℕ) (b : Arc) (rest : List Arc) (back meets : Bool)
    → (((j m : ℕ) → m ≡ n + 1 + j → p m ≡ goes_round start b.1 (take j rest)) → find p ((n + 1) ∷ counted_from (n + 1 + 1) rest) ≡
    cond (same_name b.1 start) (Some (n + 1)) (returns_at (n + 1) start b.1 rest))
    → ((j m : ℕ) → m ≡ n + j → p m ≡ goes_round start node (take j (b ∷ rest))) → same_name node start ≡ back → same_name node b.0 ≡ meets
    → find p (n ∷ (n + 1) ∷ counted_from (n + 1 + 1) rest) ≡ cond back (Some n)
    (cond meets (cond (same_name b.1 start) (Some (n + 1)) (returns_at (n + 1) start b.1 rest)) None)
round_further p start node n b rest true meets next h e f = rw (h 0 n (omega arith), e) refl
round_further p start node n b rest false true next h e f =
    rw (h 0 n (omega arith), e) (next (λ j m is. h (suc j) m (omega (arith, is)) ∙ rw (e, f) refl))
round_further p start node n b rest false false next h e f =
    rw (h 0 n (omega arith), e) (none_counted p (n + 1) (b ∷ rest) (λ m le. h (suc (m - (n + 1))) m (omega (arith, le)) ∙ rw (e, f) refl))

-- the first length at which a chain has gone round, by the walk
round_counted : (p : ℕ → Bool) (start node : RecName) (n : ℕ) (xs : List Arc) → ((j m : ℕ) → m ≡ n + j → p m ≡ goes_round start node (take j xs))
    → find p (n ∷ counted_from (n + 1) xs) ≡ cond (same_name node start) (Some n) (returns_at n start node xs)
round_counted p start node n [] h = rw (h 0 n (omega arith)) refl
round_counted p start node n (b ∷ rest) h =
    round_further p start node n b rest (same_name node start) (same_name node b.0) (round_counted p start b.1 (n + 1) rest) h refl refl

-- the loop at the front is what the walk from its start finds
pub front_loop : (a : Arc) (rest : List Arc) → returns_at 0 a.0 a.0 (a ∷ rest) ≡ loop_length (a ∷ rest)
front_loop a rest =
    ap (λ t. cond t (cond (same_name a.1 a.0) (Some 1) (returns_at 1 a.0 a.1 rest)) None) (same_name-self a.0)
    ∙ sym (round_counted (λ n. is_loop (take n (a ∷ rest))) a.0 a.1 1 rest (λ j m is. ap (λ k. is_loop (take k (a ∷ rest))) (is ∙ one_more j)
    ∙ is_loop-round a (take j rest)))

pub front_loop_of : (xs : List Arc) (d : Arc) → 0 < length xs → returns_at 0 (get_or xs 0 d).0 (get_or xs 0 d).0 xs ≡ loop_length xs
front_loop_of [] d h = absurd (omega (arith, h))
front_loop_of (a ∷ rest) d h = front_loop a rest

-- what the walk finds from a piece on: that piece, or what it finds from the next on
pub returns_here : (start node : RecName) (xs : List Arc) (k : ℕ) (d : Arc) (found : Option ℕ) → returns_at k start node (drop k xs) ≡ found → k < length xs
    → same_name node (get_or xs k d).0 ≡ true → same_name (get_or xs k d).1 start ≡ true → Some (k + 1) ≡ found
returns_here start node xs k d found is h e f = sym (at_drop_more (returns_at k start node) xs k d h ∙ rw (e, f) refl) ∙ is

pub returns_further : (start node : RecName) (xs : List Arc) (k : ℕ) (d : Arc) (found : Option ℕ) → returns_at k start node (drop k xs) ≡ found → k < length xs
    → same_name node (get_or xs k d).0 ≡ true → same_name (get_or xs k d).1 start ≡ false → returns_at (k + 1) start (get_or xs k d).1 (drop (k + 1) xs) ≡ found
returns_further start node xs k d found is h e f = sym (at_drop_more (returns_at k start node) xs k d h ∙ rw (e, f) refl) ∙ is
