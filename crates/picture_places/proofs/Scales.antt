-- Distances on the page: how long they are at most, and that they rise.
use Rattle.std.proofs.Common.{◌≡◌, ℕ, ◌+◌, ◌*◌, ◌/◌, ◌<◌, ◌≤◌, ◌-ℤ◌, unsigned_abs, min, ap, sym, ◌∙◌, arith}
use Rattle.std.proofs.Math.Nat.{div-le_of_le-mul, div-mul-le_self}
use Rattle.std.proofs.lemmas.Int.{ints}
use Rattle.std.proofs.lemmas.Nat.{le-div}
use Rattle.picture_places.specs.North.{AllInFrame, CornersMeet, EastIsRight, NorthIsUp}
use Rattle.picture_places.specs.Page.{height_of, on_page, width_of}
use Rattle.picture_places.specs.declared.page.PagePoint.{PagePoint}

-- a distance is no longer than the side
pub scaled_within : (span d : ℕ) → min d span * 10790 / span ≤ 10790
scaled_within span d = div-le_of_le-mul span (omega arith)

scaled_rises : (span a b : ℕ) → 0 < span → a ≤ b → min a span * 10790 / span ≤ min b span * 10790 / span
scaled_rises span a b some le =
    let down : min a span * 10790 / span * span ≤ min a span * 10790 = div-mul-le_self (min a span * 10790) span in
    le-div (min a span * 10790 / span) (min b span * 10790) span some (omega (arith, down, le))

pub north_up : NorthIsUp
north_up around p q le within =
    let closer : unsigned_abs (around.north -ℤ q.0) ≤ unsigned_abs (around.north -ℤ p.0) = omega (arith, ints, le, within) in
    let some : 0 < height_of around = omega arith in
    let rises = scaled_rises (height_of around) (unsigned_abs (around.north -ℤ q.0)) (unsigned_abs (around.north -ℤ p.0)) some closer in
    omega (arith, rises)

pub east_right : EastIsRight
east_right around p q within le =
    let closer : unsigned_abs (p.1 -ℤ around.west) ≤ unsigned_abs (q.1 -ℤ around.west) = omega (arith, ints, le, within) in
    let some : 0 < width_of around = omega arith in
    let rises = scaled_rises (width_of around) (unsigned_abs (p.1 -ℤ around.west)) (unsigned_abs (q.1 -ℤ around.west)) some closer in
    omega (arith, rises)

pub all_in_frame : AllInFrame
all_in_frame around p =
    let across = scaled_within (width_of around) (unsigned_abs (p.1 -ℤ around.west)) in
    let down = scaled_within (height_of around) (unsigned_abs (around.north -ℤ p.0)) in
    record {
      left = omega arith;
      right = omega (arith, across);
      top = omega arith;
      bottom = omega (arith, down);
    }

-- no distance stands at the side's beginning, the whole span at its end
none_on_page : (span d : ℕ) → d ≡ 0 → on_page span d ≡ 0
none_on_page span d none =
    let most : min d span * 10790 / span ≤ 0 = div-le_of_le-mul span (omega (arith, none)) in
    omega (arith, most)

all_on_page : (span d : ℕ) → 0 < span → d ≡ span → on_page span d ≡ 10790
all_on_page span d some all =
    let most = scaled_within span d in
    let least : 10790 ≤ min d span * 10790 / span = le-div 10790 (min d span * 10790) span some (omega (arith, all)) in
    omega (arith, most, least)

abbrev at_place : ℕ → ℕ → PagePoint
at_place right down = record { x = 600 + right; y = 900 + down }

place : (right down across below : ℕ) → right ≡ across → down ≡ below
    → at_place right down ≡ at_place across below
place right down across below first second =
    ap (λ k. at_place k down) first ∙ ap (at_place across) second

pub corners_meet : CornersMeet
corners_meet around high wide =
    let height : height_of around ≡ unsigned_abs (around.north -ℤ around.south) = omega (arith, ints, high) in
    let width : width_of around ≡ unsigned_abs (around.east -ℤ around.west) = omega (arith, ints, wide) in
    let some_height : 0 < height_of around = omega arith in
    let some_width : 0 < width_of around = omega arith in
    let no_width : unsigned_abs (around.west -ℤ around.west) ≡ 0 = omega (arith, ints) in
    let no_height : unsigned_abs (around.north -ℤ around.north) ≡ 0 = omega (arith, ints) in (
      place (on_page (width_of around) (unsigned_abs (around.west -ℤ around.west)))
          (on_page (height_of around) (unsigned_abs (around.north -ℤ around.north))) 0 0
          (none_on_page (width_of around) (unsigned_abs (around.west -ℤ around.west)) no_width)
          (none_on_page (height_of around) (unsigned_abs (around.north -ℤ around.north)) no_height),
      place (on_page (width_of around) (unsigned_abs (around.east -ℤ around.west)))
          (on_page (height_of around) (unsigned_abs (around.north -ℤ around.south))) 10790 10790
          (all_on_page (width_of around) (unsigned_abs (around.east -ℤ around.west)) some_width (sym width))
          (all_on_page (height_of around) (unsigned_abs (around.north -ℤ around.south)) some_height (sym height)),
    )
