-- Segments in disjoint boxes have no point in common, so that no test finds two of them that asks for one.
use Rattle.std.proofs.Common.{◌≡◌, Bool, true, false, List, [], ◌∷◌, map, find, None, Some, refl, ap, ◌∙◌}
use Rattle.geometry_spec.specs.Boxes.{are_disjoint}
use Rattle.geometry_spec.specs.declared.segment.MeetCase.TheVariants.{Apart}
use Rattle.geometry_spec.specs.declared.tile.Box4.{Box4}
use Rattle.geometry_spec.proofs.DisjointBoxes.{apart_by_boxes}
use Rattle.check_words.proofs.Appends.{find_missed}
use Rattle.rule_spec.specs.Vectors.{Numbered, each_with_each, meeting_of_segments}
use Rattle.line_boxes.specs.LineBoxes.{box_of_segment, box_with, line_box, united}
use Rattle.line_boxes.proofs.DisjointBoxes.{disjoint_next, either_way}

-- a test of two segments that those without a common point don't pass
abbrev pub NeedsMeeting : (Numbered × Numbered → Bool) → Type 0
NeedsMeeting test = (a b : Numbered) → meeting_of_segments a.1 b.1 ≡ Apart → test (a, b) ≡ false

module _ (test : Numbered × Numbered → Bool) (needs : NeedsMeeting test) where
  by_boxes : (a b : Numbered) → are_disjoint (box_of_segment a) (box_of_segment b) ≡ true → test (a, b) ≡ false
  by_boxes a b h = needs a b (apart_by_boxes a.1.0 a.1.1 b.1.0 b.1.1 h)

  none_by_start : (a : Numbered) (start : Box4) (line : List Numbered) → are_disjoint (box_of_segment a) (box_with start line) ≡ true
      → find test (map (λ b. (a, b)) line) ≡ None
  none_by_start a start [] h = refl
  none_by_start a start (b ∷ line) h = rw (by_boxes a b (disjoint_next (box_of_segment a) start b line h))
      (none_by_start a (united start (box_of_segment b)) line h)

  -- a segment whose box is disjoint from the box around a line and a segment of the line
  pub none_by_box : (a : Numbered) (around : Box4) (line : List Numbered) → line_box line ≡ Some around
      → are_disjoint (box_of_segment a) around ≡ true → find test (map (λ b. (a, b)) line) ≡ None
  none_by_box a around [] e h = refl
  none_by_box a around (s ∷ rest) e h =
      let same : box_with (box_of_segment s) (s ∷ rest) ≡ around = cc in
      none_by_start a (box_of_segment s) (s ∷ rest) (ap (are_disjoint (box_of_segment a)) same ∙ h)

  none_by_starts : (start around : Box4) (first second : List Numbered) → line_box second ≡ Some around
      → are_disjoint around (box_with start first) ≡ true → find test (each_with_each first second) ≡ None
  none_by_starts start around [] second e h = refl
  none_by_starts start around (a ∷ rest) second e h =
      let apart = either_way (box_of_segment a) around ∙ disjoint_next around start a rest h in
      find_missed test (map (λ b. (a, b)) second) (each_with_each rest second) (none_by_box a around second e apart)
      ∙ none_by_starts (united start (box_of_segment a)) around rest second e h

  -- segments of two lines that lie in disjoint boxes
  pub none_by_boxes : (first_box second_box : Box4) (first second : List Numbered) → line_box first ≡ Some first_box
      → line_box second ≡ Some second_box → are_disjoint first_box second_box ≡ true → find test (each_with_each first second) ≡ None
  none_by_boxes first_box second_box [] second e f h = refl
  none_by_boxes first_box second_box (a ∷ rest) second e f h =
      let same : box_with (box_of_segment a) (a ∷ rest) ≡ first_box = cc in
      none_by_starts (box_of_segment a) second_box (a ∷ rest) second f (ap (are_disjoint second_box) same ∙ either_way second_box first_box ∙ h)

-- a line without a box has no segments
module _ (test : Numbered × Numbered → Bool) where
  pub none_first : (first second : List Numbered) → line_box first ≡ None → find test (each_with_each first second) ≡ None
  none_first [] second h = refl
  none_first (a ∷ rest) second h = absurd (cc)

  none_second_empty : (first : List Numbered) → find test (each_with_each first []) ≡ None
  none_second_empty [] = refl
  none_second_empty (a ∷ rest) = none_second_empty rest

  pub none_second : (first second : List Numbered) → line_box second ≡ None → find test (each_with_each first second) ≡ None
  none_second first [] h = none_second_empty first
  none_second first (b ∷ rest) h = absurd (cc)
