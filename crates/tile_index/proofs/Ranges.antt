-- The ranges under segments, in order, each of which has a tile.
use Rattle.std.proofs.Common.{◌≡◌, ◌&&◌, Bool, true, false, List, [], ◌∷◌, map, fold, refl, sym, ap, ◌∙◌, ℤ, arith, Ordering, Less, Equal, Greater}
use Rattle.std.specs.Prelude.{int_le, pos, ◌*ℤ◌, ◌+ℤ◌, ◌≤ℤ◌, ◌<ℤ◌}
use Rattle.std.specs.Int.{int_max, int_min}
use Rattle.std.specs.List.{list_all}
use Rattle.std.specs.Ordering.{int_cmp, match_ordering, ordering_then}
use Rattle.std.proofs.lemmas.Bool.{and_from, and_parts}
use Rattle.std.proofs.lemmas.Bool.Decides.{nat_tests}
use Rattle.std.proofs.lemmas.Int.{ints}
use Rattle.std.proofs.lemmas.Map.Lookups.{CmpEqualImpliesEq, exact_signed}
use Rattle.cell_spec.specs.Ascending.{ascending, put_in_order}
use Rattle.geometry_spec.specs.Laws.{TilesAreFloors}
use Rattle.geometry_spec.specs.Tiles.{tile_of}
use Rattle.geometry_spec.specs.declared.tile.TileRange.{TileRange}
use Rattle.rule_spec.specs.Candidates.{tiles_under}
use Rattle.rule_spec.specs.EdgePoints.{Segment}
use Rattle.finding_laws.specs.Tables.{range_order}
use Rattle.tile_index.specs.Tilings.{has_some_tile, range_with}

-- ---- a list in order, mapped
module _ {X Y : Type 0} (f : X → Y) (first : X → X → Ordering) (second : Y → Y → Ordering) (alike : (x y : X) → first x y ≡ second (f x) (f y)) where
  put_by : (x y : X) (ys : List X) (o : Ordering) → map f (put_in_order first x ys) ≡ put_in_order second (f x) (map f ys)
      → map f (match_ordering o (x ∷ y ∷ ys) (y ∷ ys) (y ∷ put_in_order first x ys))
      ≡ match_ordering o (f x ∷ f y ∷ map f ys) (f y ∷ map f ys) (f y ∷ put_in_order second (f x) (map f ys))
  put_by x y ys Less e = refl
  put_by x y ys Equal e = refl
  put_by x y ys Greater e = ap (λ rest. f y ∷ rest) e

  put_mapped : (x : X) (ys : List X) → map f (put_in_order first x ys) ≡ put_in_order second (f x) (map f ys)
  put_mapped x [] = refl
  put_mapped x (y ∷ ys) =
      put_by x y ys (first x y) (put_mapped x ys)
      ∙ ap (λ o. match_ordering o (f x ∷ f y ∷ map f ys) (f y ∷ map f ys) (f y ∷ put_in_order second (f x) (map f ys))) (alike x y)

  fold_mapped : (sorted xs : List X) → map f (fold (λ those x. put_in_order first x those) sorted xs)
      ≡ fold (λ those y. put_in_order second y those) (map f sorted) (map f xs)
  fold_mapped sorted [] = refl
  fold_mapped sorted (x ∷ xs) =
      fold_mapped (put_in_order first x sorted) xs ∙ ap (λ those. fold (λ ys y. put_in_order second y ys) those (map f xs)) (put_mapped x sorted)

  pub ascending_mapped : (xs : List X) → map f (ascending first xs) ≡ ascending second (map f xs)
  ascending_mapped xs = fold_mapped [] xs

-- ---- the sides of ranges
abbrev pub Sides : Type 0
Sides = ℤ × ℤ × ℤ × ℤ

both_equal : (a b : Ordering) → ordering_then a b ≡ Equal → (a ≡ Equal) × (b ≡ Equal)
both_equal Less b e = cc
both_equal Equal b e = (refl, e)
both_equal Greater b e = cc

abbrev pub sides_order : Sides → Sides → Ordering
sides_order a b =
    ordering_then (ordering_then (ordering_then (int_cmp a.0 b.0) (int_cmp a.1 b.1)) (int_cmp a.2 b.2)) (int_cmp a.3 b.3)

three : (b c d : Ordering) → ordering_then (ordering_then b c) d ≡ ordering_then b (ordering_then c d)
three Less c d = refl
three Equal c d = refl
three Greater c d = refl

four : (a b c d : Ordering) → ordering_then (ordering_then (ordering_then a b) c) d ≡ ordering_then a (ordering_then b (ordering_then c d))
four Less b c d = refl
four Equal b c d = three b c d
four Greater b c d = refl

-- sides are in the order of their ranges
pub sides_alike : (a b : Sides) → sides_order a b ≡ range_order (range_with a) (range_with b)
sides_alike a b = four (int_cmp a.0 b.0) (int_cmp a.1 b.1) (int_cmp a.2 b.2) (int_cmp a.3 b.3)

pub exact_sides : CmpEqualImpliesEq sides_order
exact_sides a b e =
    let first = both_equal (int_cmp a.0 b.0) (ordering_then (int_cmp a.1 b.1) (ordering_then (int_cmp a.2 b.2) (int_cmp a.3 b.3)))
    (sym (sides_alike a b) ∙ e) in
    let second = both_equal (int_cmp a.1 b.1) (ordering_then (int_cmp a.2 b.2) (int_cmp a.3 b.3)) first.1 in
    let third = both_equal (int_cmp a.2 b.2) (int_cmp a.3 b.3) second.1 in
    λ i. (exact_signed a.0 b.0 first.0 i, exact_signed a.1 b.1 second.0 i, exact_signed a.2 b.2 third.0 i, exact_signed a.3 b.3 third.1 i)

-- ---- each range under a segment has a tile
least_first : (p q : ℤ) → int_le (int_min p q) (int_max p q) ≡ true
least_first p q = grind (arith, ints)

module _ (floors : TilesAreFloors) where
  rises_by : (a b s t : ℤ) → (s *ℤ pos 65536) ≤ℤ a → b <ℤ ((t +ℤ pos 1) *ℤ pos 65536) → int_le a b ≡ true → int_le s t ≡ true
  rises_by a b s t low high le = grind (arith, ints, nat_tests)

  rises : (a b : ℤ) → int_le a b ≡ true → int_le (tile_of a) (tile_of b) ≡ true
  rises a b le = rises_by a b (tile_of a) (tile_of b) (floors a).0 (floors b).1 le

  some_tile : (s : Segment) → has_some_tile (tiles_under s) ≡ true
  some_tile s =
      and_from (int_le (tile_of (int_min s.0.0 s.1.0)) (tile_of (int_max s.0.0 s.1.0))) (int_le (tile_of (int_min s.0.1 s.1.1)) (tile_of (int_max s.0.1 s.1.1)))
      (rises (int_min s.0.0 s.1.0) (int_max s.0.0 s.1.0) (least_first s.0.0 s.1.0))
      (rises (int_min s.0.1 s.1.1) (int_max s.0.1 s.1.1) (least_first s.0.1 s.1.1))

  all_mapped : (ss : List Segment) → list_all has_some_tile (map tiles_under ss) ≡ true
  all_mapped [] = refl
  all_mapped (s ∷ ss) = and_from (has_some_tile (tiles_under s)) (list_all has_some_tile (map tiles_under ss)) (some_tile s) (all_mapped ss)

  both_parts : (a b c : Bool) → (a && b) ≡ true → (b ≡ true → c ≡ true) → (a && c) ≡ true
  both_parts true b c h more = more h
  both_parts false b c h more = h

  all_put_by : (x y : TileRange) (ys : List TileRange) (o : Ordering) → has_some_tile x ≡ true → (has_some_tile y && list_all has_some_tile ys) ≡ true
      → (list_all has_some_tile ys ≡ true → list_all has_some_tile (put_in_order range_order x ys) ≡ true)
      → list_all has_some_tile (match_ordering o (x ∷ y ∷ ys) (y ∷ ys) (y ∷ put_in_order range_order x ys)) ≡ true
  all_put_by x y ys Less e all more = and_from (has_some_tile x) (has_some_tile y && list_all has_some_tile ys) e all
  all_put_by x y ys Equal e all more = all
  all_put_by x y ys Greater e all more =
      both_parts (has_some_tile y) (list_all has_some_tile ys) (list_all has_some_tile (put_in_order range_order x ys)) all more

  all_put : (x : TileRange) (ys : List TileRange) → has_some_tile x ≡ true → list_all has_some_tile ys ≡ true
      → list_all has_some_tile (put_in_order range_order x ys) ≡ true
  all_put x [] e all = and_from (has_some_tile x) true e refl
  all_put x (y ∷ ys) e all = all_put_by x y ys (range_order x y) e all (λ rest. all_put x ys e rest)

  all_fold : (sorted xs : List TileRange) → list_all has_some_tile sorted ≡ true → list_all has_some_tile xs ≡ true
      → list_all has_some_tile (fold (λ those x. put_in_order range_order x those) sorted xs) ≡ true
  all_fold sorted [] all h = all
  all_fold sorted (x ∷ xs) all h =
      let parts = and_parts (has_some_tile x) (list_all has_some_tile xs) h in
      all_fold (put_in_order range_order x sorted) xs (all_put x sorted parts.0 all) parts.1

  pub all_have_tiles : (ss : List Segment) → list_all has_some_tile (ascending range_order (map tiles_under ss)) ≡ true
  all_have_tiles ss = all_fold [] (map tiles_under ss) refl (all_mapped ss)
