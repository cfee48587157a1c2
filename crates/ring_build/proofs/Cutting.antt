-- The cut of a boundary: it is what the lengths of its loops say, and there is no other.
use Rattle.std.proofs.Common.{◌≡◌, ℕ, zero, suc, ◌+◌, ◌-◌, ◌<◌, ◌≤◌, Bool, true, false, List, [], ◌∷◌, ◌++◌, length, map, take, drop, find, Option, None}
use Rattle.std.proofs.Common.{Some, cond, All, refl, sym, ap, ◌∙◌, subst, eqb, eq-eqb, ne_eqb, sum_by, flat_map, append_assoc, append-nil, length-append}
use Rattle.std.proofs.Common.{length-take, take-append-drop, arith}
use Rattle.std.specs.Option.{option_map_or}
use Rattle.std.proofs.lemmas.Bool.{and_parts, not-true, false≢true}
use Rattle.std.proofs.lemmas.List.{drop_at, take_at, length-drop}
use Rattle.std.proofs.lemmas.List.Sums.{sum_by-cons}
use Rattle.std.proofs.lemmas.List.Elements.{All-nil, All-cons, All-head, All-tail}
use Rattle.s57_types.specs.declared.name.RecName.{RecName}
use Rattle.cell_spec.specs.Names.{same_name}
use Rattle.rule_spec.specs.Loops.{Arc, is_loop, counted_from, loop_length, loop_lengths_within, loop_lengths}
use Rattle.rule_spec.specs.Loops as loops
use Rattle.ring_build.specs.declared.ring.Block.{Block}
use Rattle.ring_build.specs.declared.ring.RingCut.{RingCut}
use Rattle.ring_build.specs.declared.ring.RingCut.TheVariants.{Whole, OpenAt}
use Rattle.ring_build.specs.Partition.{blocks_after, IsCut, ComputedCutIsOnly, cut_by, cut_of}
use Rattle.ring_build.proofs.FrontLoop.{goes_round, returns_at, is_loop-round, front_loop, none_counted, same_name-self}

-- the walk finds a chain that goes round, whatever stands behind it
returns_round : (start node : RecName) (n : ℕ) (xs rest : List Arc) → goes_round start node xs ≡ true
    → cond (same_name node start) (Some n) (returns_at n start node (xs ++ rest)) ≡ Some (n + length xs)
returns_round start node n [] rest h = rw h (ap Some (omega arith))
returns_round start node n (b ∷ xs) rest h =
    let away = and_parts _ _ h in
    let on = and_parts _ _ away.1 in
    let not_back : same_name node start ≡ false = not-true _ away.0 in
    let meets : same_name node b.0 ≡ true = on.0 in
    rw (not_back, meets) (returns_round start b.1 (n + 1) xs rest on.1 ∙ ap Some (omega arith))

one_more : (m : ℕ) → 1 + m ≡ suc m
one_more m = omega arith

-- a loop at the front is found
loop_found : (block rest : List Arc) → is_loop block ≡ true → loop_length (block ++ rest) ≡ Some (length block)
loop_found [] rest h = absurd (false≢true h)
loop_found (a ∷ block) rest h =
    sym (front_loop a (block ++ rest)) ∙ rw (same_name-self a.0) (returns_round a.0 a.1 1 block rest (sym (is_loop-round a block) ∙ h)
    ∙ ap Some (one_more (length block)))

-- where none is at the front, none is found
none_found : (arcs : List Arc) → ((n : ℕ) → is_loop (take n arcs) ≡ false) → loop_length arcs ≡ None
none_found arcs h = none_counted (λ n. is_loop (take n arcs)) 1 arcs (λ m le. h m)

none_here : (arcs : List Arc) (n : ℕ) (b : Bool) → loop_length arcs ≡ None → is_loop (take n arcs) ≡ b → b ≡ false
none_here arcs n false h e = refl
none_here arcs n true h e =
    let found = ap loop_length (sym (take-append-drop n arcs)) ∙ loop_found (take n arcs) (drop n arcs) e in
    let clash : None ≡ Some (length (take n arcs)) = sym h ∙ found in cc

-- where none is found, none is at the front
none_at_front : (arcs : List Arc) → loop_length arcs ≡ None → (n : ℕ) → is_loop (take n arcs) ≡ false
none_at_front arcs h n = sym (sym (none_here arcs n (is_loop (take n arcs)) h refl))

find_here : {X : Type 0} (p : X → Bool) (y : X) (ys : List X) (x : X) (b : Bool) → ((find p ys ≡ Some x) → p x ≡ true) → p y ≡ b
    → cond b (Some y) (find p ys) ≡ Some x → p x ≡ true
find_here p y ys x true later e h = let same : y ≡ x = cc in ap p (sym same) ∙ e
find_here p y ys x false later e h = later h

find_passes : {X : Type 0} (p : X → Bool) (xs : List X) (x : X) → find p xs ≡ Some x → p x ≡ true
find_passes p [] x h = cc
find_passes p (y ∷ ys) x h = find_here p y ys x (p y) (find_passes p ys x) refl h

-- what is found is a loop of that length
record IsFront (arcs : List Arc) (n : ℕ) : Type 0 where
  loop : is_loop (take n arcs) ≡ true
  some : 0 < n
  within : n ≤ length arcs

some_pieces : (n : ℕ) (arcs : List Arc) → is_loop (take n arcs) ≡ true → 0 < n
some_pieces zero arcs h = absurd (false≢true h)
some_pieces (suc n) arcs h = omega arith

front_is : (arcs : List Arc) (n : ℕ) → loop_length arcs ≡ Some n → IsFront arcs n
front_is arcs n h =
    let loop = find_passes (λ n. is_loop (take n arcs)) (counted_from 1 arcs) n h in
    let found = ap loop_length (sym (take-append-drop n arcs)) ∙ loop_found (take n arcs) (drop n arcs) loop in
    let same : n ≡ length (take n arcs) = cc in
    record { loop = loop; some = some_pieces n arcs loop; within = omega (arith, length-take n arcs) }

abbrev pub joined : List (List Arc) → List Arc
joined pieces = flat_map (λ (piece : List Arc). piece) pieces

-- a boundary is some loops and a rest at whose front is none
pub record Cutting (arcs : List Arc) : Type 0 where
  pub pieces : List (List Arc)
  pub rest : List Arc
  pub together : arcs ≡ joined pieces ++ rest
  pub loops : All (λ piece. is_loop piece ≡ true) pieces
  pub no_more : loop_length rest ≡ None

cutting_by : (most : ℕ) (arcs : List Arc) (found : Option ℕ) → ((rest : List Arc) → suc (length rest) ≤ most → Cutting rest)
    → length arcs ≤ most → loop_length arcs ≡ found → Cutting arcs
cutting_by most arcs None shorter h e = record { pieces = []; rest = arcs; together = refl; loops = All-nil (λ piece. is_loop piece ≡ true); no_more = e }
cutting_by most arcs (Some n) shorter h e =
    let front = front_is arcs n e in
    let c = shorter (drop n arcs) (omega (arith, length-drop n arcs, front)) in
    record {
      pieces = take n arcs ∷ c.pieces;
      rest = c.rest;
      together = sym (take-append-drop n arcs) ∙ ap (λ z. take n arcs ++ z) c.together ∙ sym (append_assoc (take n arcs) (joined c.pieces) c.rest);
      loops = All-cons (λ piece. is_loop piece ≡ true) (take n arcs) c.pieces front.loop c.loops;
      no_more = c.no_more;
    }

cutting_within : (most : ℕ) (arcs : List Arc) → length arcs ≤ most → Cutting arcs
cutting_within zero arcs h = cutting_by zero arcs (loop_length arcs) (λ rest shorter. absurd (omega (arith, shorter))) h refl
cutting_within (suc most) arcs h = cutting_by (suc most) arcs (loop_length arcs) (λ rest shorter. cutting_within most rest (omega (arith, shorter))) h refl

pub cutting : (arcs : List Arc) → Cutting arcs
cutting arcs = cutting_within (length arcs) arcs (omega arith)

some_length : (piece : List Arc) → is_loop piece ≡ true → 0 < length piece
some_length [] h = absurd (false≢true h)
some_length (a ∷ piece) h = omega arith

-- the lengths of the loops, by any cutting
lengths_within : (most : ℕ) (pieces : List (List Arc)) (rest : List Arc) → All (λ piece. is_loop piece ≡ true) pieces → loop_length rest ≡ None
    → length (joined pieces ++ rest) ≤ most
    → loop_lengths_within most (joined pieces ++ rest) ≡ map length pieces
lengths_within zero [] rest loops no_more h = refl
lengths_within (suc most) [] rest loops no_more h = rw no_more refl
lengths_within zero (piece ∷ pieces) rest loops no_more h =
    let some = some_length piece (All-head (λ piece. is_loop piece ≡ true) piece pieces loops) in
    absurd (omega (arith, h, some, length-append (piece ++ joined pieces) rest, length-append piece (joined pieces)))
lengths_within (suc most) (piece ∷ pieces) rest loops no_more h =
    let loop = All-head (λ piece. is_loop piece ≡ true) piece pieces loops in
    let found = loop_found piece (joined pieces ++ rest) loop in
    let left = drop_at piece (joined pieces ++ rest) (length piece) refl in
    ap (loop_lengths_within (suc most)) (append_assoc piece (joined pieces) rest)
    ∙ ap (λ o. option_map_or (λ n. n ∷ loop_lengths_within most (drop n (piece ++ (joined pieces ++ rest)))) o []) found
    ∙ ap (λ z. length piece ∷ loop_lengths_within most z) left
    ∙ ap (λ z. length piece ∷ z) (lengths_within most pieces rest (All-tail (λ piece. is_loop piece ≡ true) piece pieces loops) no_more
    (omega (
      arith,
      h,
      some_length piece loop,
      length-append (piece ++ joined pieces) rest,
      length-append piece (joined pieces),
      length-append (joined pieces) rest,
    )))

pub lengths_of : (arcs : List Arc) (c : Cutting arcs) (most : ℕ) → length arcs ≤ most → loop_lengths_within most arcs ≡ map length c.pieces
lengths_of arcs c most h = ap (loop_lengths_within most) c.together ∙ lengths_within most c.pieces c.rest c.loops c.no_more
    (omega (arith, h, ap length c.together))

-- the lengths, taken off one after the other
pub lengths_stop : (arcs : List Arc) → loop_length arcs ≡ None → loop_lengths arcs ≡ []
lengths_stop [] h = refl
lengths_stop (a ∷ arcs) h = rw h refl

pub lengths_step : (arcs : List Arc) (n : ℕ) → loop_length arcs ≡ Some n → loop_lengths arcs ≡ n ∷ loop_lengths (drop n arcs)
lengths_step [] n h = cc
lengths_step (a ∷ arcs) n h =
    let front = front_is (a ∷ arcs) n h in
    let rest = drop n (a ∷ arcs) in
    let c = cutting rest in
    ap (λ o. option_map_or (λ n. n ∷ loop_lengths_within (length arcs) (drop n (a ∷ arcs))) o []) h
    ∙ ap (λ z. n ∷ z) (lengths_of rest c (length arcs) (omega (arith, length-drop n (a ∷ arcs), front)) ∙ sym (lengths_of rest c (length rest) (omega arith)))

-- ---- the cut, by any loops and what is behind them
sum_lengths : (pieces : List (List Arc)) → sum_by (λ n. n) (map length pieces) ≡ length (joined pieces)
sum_lengths [] = refl
sum_lengths (piece ∷ pieces) = sum_by-cons (λ n. n) (length piece) (map length pieces) ∙ ap (λ s. length piece + s) (sum_lengths pieces)
    ∙ sym (length-append piece (joined pieces))

-- the cut by the lengths of the loops and the number of the pieces in them
abbrev cut_at : List Arc → List ℕ → ℕ → RingCut
cut_at arcs lengths done = cut_by lengths (cond (eqb done (length arcs)) None (Some (done + 1)))

cut_is : (arcs : List Arc) (pieces : List (List Arc)) (rest : List Arc) → arcs ≡ joined pieces ++ rest
    → All (λ piece. is_loop piece ≡ true) pieces → loop_length rest ≡ None
    → cut_of arcs ≡ cut_at arcs (map length pieces) (length (joined pieces))
cut_is arcs pieces rest together loops no_more =
    let c : Cutting arcs = record { pieces = pieces; rest = rest; together = together; loops = loops; no_more = no_more } in
    ap (λ lengths. cut_at arcs lengths (sum_by (λ n. n) lengths)) (lengths_of arcs c (length arcs) (omega arith))
    ∙ ap (cut_at arcs (map length pieces)) (sum_lengths pieces)

whole_cut : (arcs : List Arc) (pieces : List (List Arc)) → arcs ≡ joined pieces → All (λ piece. is_loop piece ≡ true) pieces
    → cut_of arcs ≡ Whole (blocks_after 0 (map length pieces))
whole_cut arcs pieces together loops =
    cut_is arcs pieces [] (together ∙ sym (append-nil (joined pieces))) loops refl
    ∙ ap (λ t. cut_by (map length pieces) (cond t None (Some (length (joined pieces) + 1))))
    (eq-eqb (length (joined pieces)) (length arcs) (sym (ap length together)))

open_cut : (arcs : List Arc) (pieces : List (List Arc)) (rest : List Arc) → arcs ≡ joined pieces ++ rest
    → All (λ piece. is_loop piece ≡ true) pieces → loop_length rest ≡ None → 0 < length rest
    → cut_of arcs ≡ OpenAt (length (joined pieces) + 1)
open_cut arcs pieces rest together loops no_more some =
    cut_is arcs pieces rest together loops no_more
    ∙ ap (λ t. cut_by (map length pieces) (cond t None (Some (length (joined pieces) + 1))))
    (ne_eqb (length (joined pieces)) (length arcs) (λ e. omega (arith, e, some, ap length together, length-append (joined pieces) rest)))

is_open : (arcs : List Arc) (pieces : List (List Arc)) (rest : List Arc) → arcs ≡ joined pieces ++ rest
    → All (λ piece. is_loop piece ≡ true) pieces → loop_length rest ≡ None → 0 < length rest
    → loops.OpenAt (length (joined pieces) + 1) arcs
is_open arcs pieces rest together each no_more some =
    let before : length (joined pieces) ≡ length (joined pieces) + 1 - 1 = omega arith in
    let front : take (length (joined pieces) + 1 - 1) arcs ≡ joined pieces = ap (take (length (joined pieces) + 1 - 1)) together
    ∙ take_at (joined pieces) rest _ before in
    let behind : drop (length (joined pieces) + 1 - 1) arcs ≡ rest = ap (drop (length (joined pieces) + 1 - 1)) together
    ∙ drop_at (joined pieces) rest _ before in
    record {
      before = pieces;
      from_one = omega arith;
      within = omega (arith, some, ap length together, length-append (joined pieces) rest);
      cut = record { joined = front; each = each };
      open_here = λ n. ap (λ z. is_loop (take n z)) behind ∙ none_at_front rest no_more n;
    }

cut_holds : (arcs : List Arc) (pieces : List (List Arc)) (rest : List Arc) → arcs ≡ joined pieces ++ rest
    → All (λ piece. is_loop piece ≡ true) pieces → loop_length rest ≡ None → IsCut arcs (cut_of arcs)
cut_holds arcs pieces [] together each no_more =
    let all = together ∙ append-nil (joined pieces) in
    subst (IsCut arcs) (sym (whole_cut arcs pieces all each)) (record { pieces = pieces; are_loops = record { joined = all; each = each }; placed = refl })
cut_holds arcs pieces (a ∷ rest) together each no_more =
    subst (IsCut arcs) (sym (open_cut arcs pieces (a ∷ rest) together each no_more (omega arith)))
    (is_open arcs pieces (a ∷ rest) together each no_more (omega arith))

cut_alone : (arcs : List Arc) (other : RingCut) → IsCut arcs other → other ≡ cut_of arcs
cut_alone arcs (Whole blocks) h = ap Whole h.placed ∙ sym (whole_cut arcs h.pieces h.are_loops.joined h.are_loops.each)
cut_alone arcs (OpenAt place) h =
    let rest = drop (place - 1) arcs in
    let together = sym (take-append-drop (place - 1) arcs) ∙ ap (λ z. z ++ rest) h.cut.joined in
    let from_one = h.from_one in
    let within = h.within in
    let same : place ≡ length (joined h.before) + 1 = omega (arith, from_one, within, ap length h.cut.joined, length-take (place - 1) arcs) in
    ap OpenAt same ∙ sym (open_cut arcs h.before rest together h.cut.each (none_found rest h.open_here)
    (omega (arith, from_one, within, length-drop (place - 1) arcs)))

-- what the lengths say is the cut, and there is no other
pub only_cut : ComputedCutIsOnly
only_cut arcs = let c = cutting arcs in record { holds = cut_holds arcs c.pieces c.rest c.together c.loops c.no_more; only = cut_alone arcs }

-- ---- the cut, by the pieces that are done and the rest
pub open_at : (arcs rest : List Arc) (done : ℕ) → loop_length rest ≡ None → done + sum_by (λ n. n) (loop_lengths rest) ≡
    sum_by (λ n. n) (loop_lengths arcs) → done + length rest ≡ length arcs
    → 0 < length rest → OpenAt (done + 1) ≡ cut_of arcs
open_at arcs rest done none counted left some =
    let sum : sum_by (λ n. n) (loop_lengths arcs) ≡ done = omega (arith, counted, ap (sum_by (λ n. n)) (lengths_stop rest none)) in
    sym (ap (cut_at arcs (loop_lengths arcs)) sum ∙ ap (λ t. cut_by (loop_lengths arcs) (cond t None (Some (done + 1))))
    (ne_eqb done (length arcs) (λ e. omega (arith, e, some, left))))

pub whole_at : (arcs rest : List Arc) (blocks : List Block) (done : ℕ) → length rest ≡ 0
    → blocks ++ blocks_after done (loop_lengths rest) ≡ blocks_after 0 (loop_lengths arcs)
    → done + sum_by (λ n. n) (loop_lengths rest) ≡ sum_by (λ n. n) (loop_lengths arcs) → done + length rest ≡ length arcs → Whole blocks ≡ cut_of arcs
whole_at arcs (a ∷ rest) blocks done none placed counted left = absurd (omega (arith, none))
whole_at arcs [] blocks done none placed counted left =
    let sum : sum_by (λ n. n) (loop_lengths arcs) ≡ length arcs = omega (arith, counted, left) in
    ap Whole (sym (append-nil blocks) ∙ placed)
    ∙ sym (ap (λ t. cut_by (loop_lengths arcs) (cond t None (Some (sum_by (λ n. n) (loop_lengths arcs) + 1))))
    (eq-eqb (sum_by (λ n. n) (loop_lengths arcs)) (length arcs) sum))

-- what the first loop of the rest adds to the lengths
pub lengths_sum : (rest after : List Arc) (n : ℕ) → loop_length rest ≡ Some n → after ≡ drop n rest
    → sum_by (λ n. n) (loop_lengths rest) ≡ n + sum_by (λ n. n) (loop_lengths after)
lengths_sum rest after n found back = ap (sum_by (λ n. n)) (lengths_step rest n found) ∙ sum_by-cons (λ n. n) n (loop_lengths (drop n rest))
    ∙ ap (λ z. n + sum_by (λ n. n) (loop_lengths z)) (sym back)
