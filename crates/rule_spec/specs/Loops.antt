-- The partition of a boundary into closed loops (S-57 Part 3, 7.6.8; Appendix B.1).
use Rattle.std.specs.Prelude.{◌≡◌, ℕ, zero, suc, ◌+◌, ◌-◌, ◌≤◌, ◌==◌, ◌&&◌, Bool, true, false, not, List, [], ◌∷◌, ◌++◌, Option, None, Some, length, map}
use Rattle.std.specs.Prelude.{take, drop, find, flat_map, sum_by, All, if◌then◌else◌}
use Rattle.std.specs.List.{list_any}
use Rattle.std.specs.Option.{option_map_or}
use Rattle.std.specs.Cmp.Lexicographic.{pointwise}
use Rattle.s57_types.specs.declared.name.RecName.{RecName}
use Rattle.cell_spec.specs.Names.{same_name}

-- a piece of a boundary, from its start node to its end node
abbrev pub Arc : Type 0
Arc = RecName × RecName

-- each end is the next start, and the last end is the first start
abbrev pub is_closed_chain : List Arc → Bool
is_closed_chain arcs = let starts = map (λ (a : Arc). a.0) arcs in pointwise same_name (map (λ (a : Arc). a.1) arcs) (drop 1 starts ++ take 1 starts)

-- an end before the last is the first start
abbrev pub comes_back_early : List Arc → Bool
comes_back_early [] = false
comes_back_early (a ∷ rest) = list_any (λ (b : Arc). same_name b.1 a.0) (take (length rest) (a ∷ rest))

-- a block of arcs is a loop where each end is the next start, the last end is the first start, and no earlier end is
abbrev pub is_loop : List Arc → Bool
is_loop [] = false
is_loop (a ∷ rest) = is_closed_chain (a ∷ rest) && not (comes_back_early (a ∷ rest))

-- a list of arcs is these loops, one after the other
pub record AreLoops (arcs : List Arc) (blocks : List (List Arc)) : Type 0 where
  pub joined : arcs ≡ flat_map (λ block. block) blocks
  pub each : All (λ block. is_loop block ≡ true) blocks

-- the arcs before a place, from 1, are loops, and no block of arcs that begins there is one
pub record OpenAt (place : ℕ) (arcs : List Arc) : Type 0 where
  pub before : List (List Arc)
  pub from_one : 1 ≤ place
  pub within : place ≤ length arcs
  pub cut : AreLoops (take (place - 1) arcs) before
  pub open_here : (n : ℕ) → is_loop (take n (drop (place - 1) arcs)) ≡ false

-- the numbers from one on
abbrev pub counted_from : {X : Type 0} → ℕ → List X → List ℕ
counted_from n [] = []
counted_from n (x ∷ xs) = n ∷ counted_from (n + 1) xs

-- the length of the block at the front that is a loop, if one is
abbrev pub loop_length : List Arc → Option ℕ
loop_length arcs = find (λ n. is_loop (take n arcs)) (counted_from 1 arcs)

-- the lengths of the loops that a list begins with, one after the other, as far as they go; at most so many
abbrev pub loop_lengths_within : ℕ → List Arc → List ℕ
loop_lengths_within zero arcs = []
loop_lengths_within (suc most) arcs = option_map_or (λ n. n ∷ loop_lengths_within most (drop n arcs)) (loop_length arcs) []

abbrev pub loop_lengths : List Arc → List ℕ
loop_lengths arcs = loop_lengths_within (length arcs) arcs

-- the place, from 1, of the first arc that is in no loop
abbrev pub first_open_place : List Arc → Option ℕ
first_open_place arcs = let done = sum_by (λ n. n) (loop_lengths arcs) in if done == length arcs then None else Some (done + 1)

-- a list cut into blocks of these lengths
abbrev pub blocks_of : {X : Type 0} → List ℕ → List X → List (List X)
blocks_of [] xs = []
blocks_of (n ∷ ns) xs = take n xs ∷ blocks_of ns (drop n xs)
