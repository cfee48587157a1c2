-- A boundary cut into closed loops, or the place where it is open (S-57 Appendix B.1, 3.8).
use Rattle.std.specs.Prelude.{◌≡◌, ℕ, ◌+◌, ◌-◌, List, [], ◌∷◌, Option, None, Some, length, map}
use Rattle.rule_spec.specs.Loops.{Arc, AreLoops, first_open_place, loop_lengths}
use Rattle.rule_spec.specs.Loops as loops
use Rattle.ring_build.specs.declared.ring.Block.{Block}
use Rattle.ring_build.specs.declared.ring.RingCut.{RingCut}
use Rattle.ring_build.specs.declared.ring.RingCut.TheVariants.{Whole, OpenAt}

-- the places of blocks of these lengths, one after the other, behind so many pieces
abbrev pub blocks_after : ℕ → List ℕ → List Block
blocks_after done [] = []
blocks_after done (n ∷ ns) = record { from = done + 1; to = done + n } ∷ blocks_after (done + n) ns

-- how many pieces a loop has by the places of its first and its last
abbrev pub length_of_block : Block → ℕ
length_of_block b = b.to + 1 - b.from

-- the list is loops one after the other, and these are their places
pub record IsWhole (arcs : List Arc) (blocks : List Block) : Type 0 where
  pub pieces : List (List Arc)
  pub are_loops : AreLoops arcs pieces
  pub placed : blocks ≡ blocks_after 0 (map length pieces)

-- what the cut of a list says holds
abbrev pub IsCut : List Arc → RingCut → Type 0
IsCut arcs (Whole blocks) = IsWhole arcs blocks
IsCut arcs (OpenAt place) = loops.OpenAt place arcs

-- it holds, and nothing else does
pub record IsOnlyCut (arcs : List Arc) (found : RingCut) : Type 0 where
  pub holds : IsCut arcs found
  pub only : (other : RingCut) → IsCut arcs other → other ≡ found

-- the cut by the lengths of the loops that the list begins with
abbrev pub cut_by : List ℕ → Option ℕ → RingCut
cut_by lengths None = Whole (blocks_after 0 lengths)
cut_by lengths (Some place) = OpenAt place

abbrev pub cut_of : List Arc → RingCut
cut_of arcs = cut_by (loop_lengths arcs) (first_open_place arcs)

-- what is computed of any list is its cut, and the list has no other
abbrev pub ComputedCutIsOnly : Type 0
ComputedCutIsOnly = (arcs : List Arc) → IsOnlyCut arcs (cut_of arcs)
