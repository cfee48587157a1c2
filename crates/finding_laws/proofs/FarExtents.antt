-- Two whose extents have no point in common have no finding together.
use Rattle.std.proofs.Common.{◌≡◌, ◌+◌, ℕ, Bool, true, false, List, [], ◌∷◌, refl, ◌∙◌}
use Rattle.std.specs.Prelude.{not}
use Rattle.std.specs.List.{enumerate_from, list_any}
use Rattle.std.proofs.lemmas.Bool.{or_from}
use Rattle.geometry_spec.specs.Boxes.{are_disjoint, box_of}
use Rattle.geometry_spec.specs.declared.tile.Box4.{Box4}
use Rattle.rule_spec.specs.Candidates.{segments_named}
use Rattle.rule_spec.specs.EdgePoints.{Segment}
use Rattle.line_boxes.specs.LineBoxes.{box_with, united}
use Rattle.line_boxes.proofs.DisjointBoxes.{disjoint_next, either_way}
use Rattle.finding_laws.specs.Pairs.{ApartPairsAreClean, are_apart, box_around}
use Rattle.finding_laws.proofs.FarPairs.{are_near, far_is_clean}

-- the boxes of two segments have a point in common
abbrev meet : Segment → Segment → Bool
meet s t = not (are_disjoint (box_of s.0 s.1) (box_of t.0 t.1))

yes_unless : (b : Bool) → not b ≡ false → b ≡ true
yes_unless true h = refl
yes_unless false h = cc

no_when : (b : Bool) → b ≡ true → not b ≡ false
no_when true h = refl
no_when false h = cc

-- a box that is disjoint from the box around segments is disjoint from that of each
module _ (s : Segment) where
  none_met : (k : ℕ) (start : Box4) (ts : List Segment) → are_disjoint (box_of s.0 s.1) (box_with start (enumerate_from k ts)) ≡ true
      → list_any (meet s) ts ≡ false
  none_met k start [] h = refl
  none_met k start (t ∷ ts) h =
      or_from (meet s t) (list_any (meet s) ts)
      (no_when (are_disjoint (box_of s.0 s.1) (box_of t.0 t.1)) (disjoint_next (box_of s.0 s.1) start (k, t) (enumerate_from (k + 1) ts) h))
      (none_met (k + 1) (united start (box_of t.0 t.1)) ts h)

module _ (around : Box4) (ts : List Segment) (each : (s : Segment) → are_disjoint around (box_of s.0 s.1) ≡ true → list_any (meet s) ts ≡ false) where
  none_near : (k : ℕ) (start : Box4) (ss : List Segment) → are_disjoint around (box_with start (enumerate_from k ss)) ≡ true → are_near meet ss ts ≡ false
  none_near k start [] h = refl
  none_near k start (s ∷ ss) h =
      or_from (list_any (meet s) ts) (are_near meet ss ts)
      (each s (disjoint_next around start (k, s) (enumerate_from (k + 1) ss) h))
      (none_near (k + 1) (united start (box_of s.0 s.1)) ss h)

nothing_near : (ss : List Segment) → are_near meet ss [] ≡ false
nothing_near [] = refl
nothing_near (s ∷ ss) = nothing_near ss

far : (ss ts : List Segment) → are_apart (box_around ss) (box_around ts) ≡ true → are_near meet ss ts ≡ false
far [] ts h = refl
far (s ∷ ss) [] h = nothing_near (s ∷ ss)
far (s ∷ ss) (t ∷ ts) h =
    let first = box_of s.0 s.1 in
    let second = box_of t.0 t.1 in
    let theirs = box_with second (enumerate_from 1 (t ∷ ts)) in
    none_near theirs (t ∷ ts)
    (λ r apart. none_met r 1 second (t ∷ ts) (either_way (box_of r.0 r.1) theirs ∙ apart))
    1 first (s ∷ ss) (either_way theirs (box_with first (enumerate_from 1 (s ∷ ss))) ∙ h)

pub apart_is_clean : ApartPairsAreClean
apart_is_clean c a b h =
    far_is_clean meet (λ s t none. yes_unless (are_disjoint (box_of s.0 s.1) (box_of t.0 t.1)) none) c a b (far (segments_named c a) (segments_named c b) h)
