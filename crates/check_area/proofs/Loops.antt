-- What is found of a boundary, by its cut into loops.
use Rattle.std.proofs.Common.{◌≡◌, ℕ, ◌+◌, ◌-◌, List, [], ◌∷◌, map, Option, None, Some, refl, ap, ◌∙◌, arith}
use Rattle.rule_spec.specs.declared.kind.TheConstants.{OPEN_RING}
use Rattle.rule_spec.specs.Findings.{finding}
use Rattle.rule_spec.specs.Loops.{blocks_of, first_open_place, loop_lengths}
use Rattle.ring_build.specs.declared.ring.Block.{Block}
use Rattle.ring_build.specs.declared.ring.RingCut.TheVariants.{OpenAt, Whole}
use Rattle.ring_build.specs.Partition.{blocks_after, cut_by, cut_of, length_of_block}
use Rattle.check_area.specs.declared.part.BoundaryEdge.{BoundaryEdge}
use Rattle.check_area.specs.Parts.{arc_of_part, findings_by, findings_of_loops, findings_of_parts, loops_of_parts}

lengths_back : (done : ℕ) (lengths : List ℕ) → map length_of_block (blocks_after done lengths) ≡ lengths
lengths_back done [] = refl
lengths_back done (n ∷ lengths) = let here : done + n + 1 - (done + 1) ≡ n = omega arith in λ i. here i ∷ lengths_back (done + n) lengths i

open_by : (loops : List (List BoundaryEdge)) (lengths : List ℕ) (place : ℕ) (found : Option ℕ) → OpenAt place ≡ cut_by lengths found
    → finding OPEN_RING (place ∷ []) ∷ [] ≡ findings_by loops found
open_by loops lengths place None e = cc
open_by loops lengths place (Some p) e = let same : place ≡ p = cc in ap (λ (p : ℕ). finding OPEN_RING (p ∷ []) ∷ []) same

pub open_found : (parts : List BoundaryEdge) (place : ℕ) → OpenAt place ≡ cut_of (map arc_of_part parts)
    → finding OPEN_RING (place ∷ []) ∷ [] ≡ findings_of_parts parts
unfolding findings_of_parts
open_found parts place e = open_by (loops_of_parts parts) (loop_lengths (map arc_of_part parts)) place (first_open_place (map arc_of_part parts)) e

whole_by : (parts : List BoundaryEdge) (lengths : List ℕ) (blocks : List Block) (found : Option ℕ) → Whole blocks ≡ cut_by lengths found
    → findings_of_loops (blocks_of (map length_of_block blocks) parts) ≡ findings_by (blocks_of lengths parts) found
whole_by parts lengths blocks None e =
    let same : blocks ≡ blocks_after 0 lengths = cc in
    ap (λ ns. findings_of_loops (blocks_of ns parts)) (ap (map length_of_block) same ∙ lengths_back 0 lengths)
whole_by parts lengths blocks (Some p) e = cc

pub whole_found : (parts : List BoundaryEdge) (blocks : List Block) (lengths : List ℕ) → Whole blocks ≡ cut_of (map arc_of_part parts)
    → lengths ≡ map length_of_block blocks
    → findings_of_loops (blocks_of lengths parts) ≡ findings_of_parts parts
unfolding findings_of_parts
whole_found parts blocks lengths e f =
    ap (λ ns. findings_of_loops (blocks_of ns parts)) f
    ∙ whole_by parts (loop_lengths (map arc_of_part parts)) blocks (first_open_place (map arc_of_part parts)) e
