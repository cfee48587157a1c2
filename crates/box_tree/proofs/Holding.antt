-- What is disjoint from a box that holds others meets none of them.
use Rattle.std.proofs.Common.{◌≡◌, ◌++◌, ◌∙◌, Bool, true, false, not, cond, All, List, [], ◌∷◌, ap, get_or, refl, sym, true≢false}
use Rattle.std.specs.Prelude.{map}
use Rattle.std.proofs.lemmas.List.{append_assoc, append-nil, map-append}
use Rattle.std.proofs.lemmas.List.Elements.{All-cons, All-head, All-nil, All-tail, filter-append}
use Rattle.s57_types.specs.declared.name.RecName.{RecName}
use Rattle.geometry_spec.specs.Boxes.{are_disjoint}
use Rattle.geometry_spec.specs.declared.tile.Box4.{Box4}
use Rattle.line_boxes.specs.LineBoxes.{united}
use Rattle.line_boxes.proofs.DisjointBoxes.{disjoint_first, disjoint_second, either_way}
use Rattle.box_tree.specs.Leaves.{box_with, leaves_meeting, meets, names_meeting, Holds, IsNear}
use Rattle.box_tree.specs.declared.leaf.Leaf.{Leaf}

abbrev IsApart : Box4 → Leaf → Type 0
IsApart other leaf = are_disjoint other leaf.around ≡ true

apart_from_each : (start : Box4) (leaves : List Leaf) (other : Box4) → are_disjoint other (box_with start leaves) ≡ true
    → (are_disjoint other start ≡ true) × All (IsApart other) leaves
apart_from_each start [] other h = (h, All-nil (IsApart other))
apart_from_each start (leaf ∷ leaves) other h =
    let rest = apart_from_each (united start leaf.around) leaves other h in (
      disjoint_first other start leaf.around rest.0,
      All-cons (IsApart other) leaf leaves (disjoint_second other start leaf.around rest.0) rest.1,
    )

-- the least box around leaves holds them
pub box_holds : (start : Box4) (leaves : List Leaf) → Holds (box_with start leaves) leaves
box_holds start leaves = λ other h. (apart_from_each start leaves other h).1

-- no box meets what it is disjoint from
none_meet : (around : Box4) (leaves : List Leaf) → All (IsApart around) leaves → leaves_meeting around leaves ≡ []
none_meet around [] all = refl
none_meet around (leaf ∷ leaves) all =
    rw (All-head (IsApart around) leaf leaves all) (none_meet around leaves (All-tail (IsApart around) leaf leaves all))

-- what is told of leaves part by part, as their names are and they themselves
module _ {X : Type 0} (tell : List Leaf → List X) (none : tell [] ≡ []) (parts : (xs ys : List Leaf) → tell (xs ++ ys) ≡ tell xs ++ tell ys) where
  abbrev told : Box4 → List Leaf → List X
  told around leaves = tell (leaves_meeting around leaves)

  -- nothing of leaves that are held by a box that doesn't meet
  pub untold : (out : List X) (around holder : Box4) (leaves : List Leaf) → Holds holder leaves → are_disjoint around holder ≡ true
      → out ≡ out ++ told around leaves
  untold out around holder leaves holds apart =
      sym (append-nil out) ∙ ap (λ more. out ++ more) (sym (ap tell (none_meet around leaves (holds around apart)) ∙ none))

  -- of two halves one after the other what is told of both
  pub both_told : (out between after : List X) (around : Box4) (front back : List Leaf) → between ≡ out ++ told around front
      → after ≡ between ++ told around back → after ≡ out ++ told around (front ++ back)
  both_told out between after around front back first second =
      second ∙ ap (λ more. more ++ told around back) first ∙ append_assoc out (told around front) (told around back)
      ∙ ap (λ more. out ++ more)
      (sym (ap tell (filter-append (meets around) front back) ∙ parts (leaves_meeting around front) (leaves_meeting around back)))

abbrev names_of : List Leaf → List RecName
names_of leaves = map (λ (leaf : Leaf). leaf.name) leaves

-- of leaves that are held by a box that doesn't meet, none is asked
pub unasked : (names : List RecName) (around holder : Box4) (leaves : List Leaf) → Holds holder leaves → are_disjoint around holder ≡ true
    → names ≡ names ++ names_meeting around leaves
unasked = untold names_of refl (map-append (λ (leaf : Leaf). leaf.name))

-- what is asked of two halves one after the other is asked of both
pub both_asked : (names between after : List RecName) (around : Box4) (front back : List Leaf) → between ≡ names ++ names_meeting around front
    → after ≡ between ++ names_meeting around back → after ≡ names ++ names_meeting around (front ++ back)
both_asked = both_told names_of refl (map-append (λ (leaf : Leaf). leaf.name))

kept : (around holder : Box4) (leaf : Leaf) (wide narrow : Bool) (all few : List Leaf) → meets around leaf ≡ narrow → (narrow ≡ true → wide ≡ true)
    → leaves_meeting around few ≡ all → leaves_meeting around (cond wide (leaf ∷ few) few) ≡ cond narrow (leaf ∷ all) all
kept around holder leaf true true all few is wider same = rw is (ap (λ ls. leaf ∷ ls) same)
kept around holder leaf true false all few is wider same = rw is same
kept around holder leaf false true all few is wider same = absurd (true≢false (sym (wider refl)))
kept around holder leaf false false all few is wider same = same

-- what meets a box is sought among what meets a wider one
still_meeting : (around holder : Box4) (leaves : List Leaf) → ((leaf : Leaf) → meets around leaf ≡ true → meets holder leaf ≡ true)
    → leaves_meeting around (leaves_meeting holder leaves) ≡ leaves_meeting around leaves
still_meeting around holder [] wider = refl
still_meeting around holder (leaf ∷ leaves) wider =
    kept around holder leaf (meets holder leaf) (meets around leaf) (leaves_meeting around leaves) (leaves_meeting holder leaves) refl (wider leaf)
    (still_meeting around holder leaves wider)

unless : (wide narrow : Bool) → (wide ≡ true → narrow ≡ true) → not narrow ≡ true → not wide ≡ true
unless true true more e = e
unless true false more e = absurd (true≢false (sym (more refl)))
unless false narrow more e = refl

-- among those that meet a box are all that meet a leaf which it holds
pub near_each : (tree leaves : List Leaf) (holder : Box4) → Holds holder leaves → All (IsNear tree (leaves_meeting holder tree)) leaves
near_each tree leaves holder holds = λ k d within.
    let leaf = get_or leaves k d in
    ap names_of (still_meeting leaf.around holder tree (λ other. unless (are_disjoint holder other.around) (are_disjoint leaf.around other.around)
    (λ apart. either_way leaf.around other.around ∙ holds other.around (either_way other.around holder ∙ apart) k d within)))

-- the least box around leaves that stand for these holds these
pub held_by_box : (start : Box4) (leaves those : List Leaf) (holder : Box4) → holder ≡ box_with start leaves → those ≡ leaves → Holds holder those
held_by_box start leaves those holder is are = rw (is, are) (box_holds start leaves)
