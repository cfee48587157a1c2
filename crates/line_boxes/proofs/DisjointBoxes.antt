-- Boxes that are disjoint from the box around others.
use Rattle.std.proofs.Common.{◌≡◌, Bool, true, false, ◌||◌, List, [], ◌∷◌, refl, ap, arith, ℤ}
use Rattle.std.proofs.Math.Bool.{or_comm}
use Rattle.std.specs.Prelude.{int_lt}
use Rattle.std.specs.Int.{int_min, int_max}
use Rattle.std.proofs.lemmas.Int.{ints, clamps}
use Rattle.std.proofs.lemmas.Bool.Decides.{nat_tests}
use Rattle.geometry_spec.specs.Boxes.{are_disjoint}
use Rattle.geometry_spec.specs.declared.tile.Box4.{Box4}
use Rattle.rule_spec.specs.Vectors.{Numbered}
use Rattle.line_boxes.specs.LineBoxes.{box_of_segment, box_with, united}

-- disjoint boxes are disjoint either way round
pub either_way : (a b : Box4) → are_disjoint a b ≡ are_disjoint b a
either_way a b = λ i. or_comm (int_lt a.north b.south) (int_lt b.north a.south) i || or_comm (int_lt a.east b.west) (int_lt b.east a.west) i

-- a range that ends before a wider one begins ends before it, and so where it begins after
before_wider : (last low other : ℤ) → int_lt last (int_min low other) ≡ true → int_lt last low ≡ true
before_wider last low other h = grind (arith, ints, clamps, nat_tests)

before_wider_other : (last low other : ℤ) → int_lt last (int_min low other) ≡ true → int_lt last other ≡ true
before_wider_other last low other h = grind (arith, ints, clamps, nat_tests)

after_wider : (first high other : ℤ) → int_lt (int_max high other) first ≡ true → int_lt high first ≡ true
after_wider first high other h = grind (arith, ints, clamps, nat_tests)

after_wider_other : (first high other : ℤ) → int_lt (int_max high other) first ≡ true → int_lt other first ≡ true
after_wider_other first high other h = grind (arith, ints, clamps, nat_tests)

either : (a b c d : Bool) → (a ≡ true → c ≡ true) → (b ≡ true → d ≡ true) → a || b ≡ true → c || d ≡ true
either true b c d f g h = ap (λ t. t || d) (f refl)
either false true true d f g h = refl
either false true false d f g h = g refl
either false false c d f g h = absurd (cc)

-- a box that is disjoint from a united box is disjoint from both parts
pub disjoint_first : (x a b : Box4) → are_disjoint x (united a b) ≡ true → are_disjoint x a ≡ true
disjoint_first x a b h = either _ _ _ _
    (either _ _ _ _ (before_wider x.north a.south b.south) (after_wider x.south a.north b.north))
    (either _ _ _ _ (before_wider x.east a.west b.west) (after_wider x.west a.east b.east)) h

pub disjoint_second : (x a b : Box4) → are_disjoint x (united a b) ≡ true → are_disjoint x b ≡ true
disjoint_second x a b h = either _ _ _ _
    (either _ _ _ _ (before_wider_other x.north a.south b.south) (after_wider_other x.south a.north b.north))
    (either _ _ _ _ (before_wider_other x.east a.west b.west) (after_wider_other x.west a.east b.east)) h

-- a box that is disjoint from the box around segments is disjoint from the box that it began with
pub disjoint_start : (x start : Box4) (line : List Numbered) → are_disjoint x (box_with start line) ≡ true → are_disjoint x start ≡ true
disjoint_start x start [] h = h
disjoint_start x start (s ∷ line) h = disjoint_first x start (box_of_segment s) (disjoint_start x (united start (box_of_segment s)) line h)

-- and from the box of the first of them
pub disjoint_next : (x start : Box4) (s : Numbered) (line : List Numbered) → are_disjoint x (box_with start (s ∷ line)) ≡ true
    → are_disjoint x (box_of_segment s) ≡ true
disjoint_next x start s line h = disjoint_second x start (box_of_segment s) (disjoint_start x (united start (box_of_segment s)) line h)
