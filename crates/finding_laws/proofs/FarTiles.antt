-- Two names that aren't candidates have no finding together.
use Rattle.std.proofs.Common.{◌≡◌, ◌&&◌, ◌||◌, Bool, true, false, List, [], ◌∷◌, length, refl, sym, ap, ◌∙◌, arith, ℤ}
use Rattle.std.specs.Prelude.{not, nat_lt, int_lt, int_le, pos, ◌*ℤ◌, ◌+ℤ◌, ◌≤ℤ◌, ◌<ℤ◌}
use Rattle.std.specs.List.{list_any}
use Rattle.std.specs.Ordering.{is_eq, is_lt}
use Rattle.std.specs.declared.cmp.Ordering.{Ordering}
use Rattle.std.specs.declared.cmp.Ordering.TheVariants.{Less, Equal, Greater}
use Rattle.std.proofs.Math.Bool.{and_comm}
use Rattle.std.proofs.lemmas.Bool.Decides.{nat_tests}
use Rattle.std.proofs.lemmas.Int.{ints}
use Rattle.s57_types.specs.declared.name.RecName.{RecName}
use Rattle.s57_types.specs.declared.cell.Cell.{Cell}
use Rattle.cell_spec.specs.declared.key.Subject.TheVariants.{Pair}
use Rattle.cell_spec.specs.Names.{same_name, name_order}
use Rattle.cell_spec.proofs.Orders.{names_tie, same_from_either}
use Rattle.geometry_spec.specs.Boxes.{are_disjoint, box_of}
use Rattle.geometry_spec.specs.Laws.{TilesAreFloors}
use Rattle.geometry_spec.specs.Tiles.{tile_of, tiles_of}
use Rattle.geometry_spec.specs.declared.tile.Box4.{Box4}
use Rattle.geometry_spec.specs.declared.tile.TileRange.{TileRange}
use Rattle.rule_spec.specs.Candidates.{has_oversized, have_common_tile, may_touch, segments_named, share_a_tile, tiles_under}
use Rattle.rule_spec.specs.EdgePoints.{Segment}
use Rattle.rule_spec.specs.Findings.{findings_of_subject}
use Rattle.rule_spec.specs.Records.{is_chain_part}
use Rattle.answer_laws.proofs.Tests.{any_same}
use Rattle.finding_laws.specs.Pairs.{FoundPairsAreCandidates}
use Rattle.finding_laws.proofs.FarPairs.{far_is_clean}
use Rattle.finding_laws.proofs.Listed.{no_subject}
use Rattle.finding_laws.proofs.Tests.{any_either, second_fails}

-- two segments have a tile in common
abbrev share : Segment → Segment → Bool
share s t = have_common_tile (tiles_under s) (tiles_under t)

-- ---- where the tile of a is after the tile of b, a is after b
module _ (floors : TilesAreFloors) where
  after_by : (a b s t : ℤ) → (s *ℤ pos 65536) ≤ℤ a → b <ℤ ((t +ℤ pos 1) *ℤ pos 65536) → int_le s t ≡ false → int_lt b a ≡ true
  after_by a b s t low high later = grind (arith, ints, nat_tests)

  after : (a b : ℤ) → int_le (tile_of a) (tile_of b) ≡ false → int_lt b a ≡ true
  after a b later = after_by a b (tile_of a) (tile_of b) (floors a).0 (floors b).1 later

  one_of_four : (p q r s x y z w : Bool) → (p ≡ false → y ≡ true) → (q ≡ false → x ≡ true) → (r ≡ false → w ≡ true) → (s ≡ false → z ≡ true)
      → ((p && q) && (r && s)) ≡ false
      → ((x || y) || (z || w)) ≡ true
  one_of_four p q r s true y z w f g h k e = refl
  one_of_four p q r s false true z w f g h k e = refl
  one_of_four p q r s false false true w f g h k e = refl
  one_of_four p q r s false false false true f g h k e = refl
  one_of_four true true true true false false false false f g h k e = absurd cc
  one_of_four false q r s false false false false f g h k e = f refl
  one_of_four true false r s false false false false f g h k e = g refl
  one_of_four true true false s false false false false f g h k e = h refl
  one_of_four true true true false false false false false f g h k e = k refl

  -- boxes without a common tile are disjoint
  far_boxes : (a b : Box4) → have_common_tile (tiles_of a) (tiles_of b) ≡ false → are_disjoint a b ≡ true
  far_boxes a b none =
      one_of_four (int_le (tile_of a.south) (tile_of b.north)) (int_le (tile_of b.south) (tile_of a.north)) (int_le (tile_of a.west) (tile_of b.east))
      (int_le (tile_of b.west) (tile_of a.east))
      (int_lt a.north b.south) (int_lt b.north a.south) (int_lt a.east b.west) (int_lt b.east a.west)
      (after a.south b.north) (after b.south a.north) (after a.west b.east) (after b.west a.east) none

  disjoint : (s t : Segment) → share s t ≡ false → are_disjoint (box_of s.0 s.1) (box_of t.0 t.1) ≡ true
  disjoint s t none = far_boxes (box_of s.0 s.1) (box_of t.0 t.1) none

-- ---- what doesn't touch shares no tile
no_others : (ss : List Segment) → share_a_tile ss [] ≡ false
no_others [] = refl
no_others (s ∷ ss) = no_others ss

not_sharing : (ss ts : List Segment) → may_touch ss ts ≡ false → share_a_tile ss ts ≡ false
not_sharing [] ts h = refl
not_sharing (s ∷ ss) [] h = no_others (s ∷ ss)
not_sharing (s ∷ ss) (t ∷ ts) h =
    let some_s : nat_lt 0 (length (s ∷ ss)) ≡ true = grind (arith, nat_tests) in
    let some_t : nat_lt 0 (length (t ∷ ts)) ≡ true = grind (arith, nat_tests) in
    second_fails (has_oversized (s ∷ ss) || has_oversized (t ∷ ts)) (share_a_tile (s ∷ ss) (t ∷ ts))
    (sym (λ i. (some_s i && some_t i) && ((has_oversized (s ∷ ss) || has_oversized (t ∷ ts)) || share_a_tile (s ∷ ss) (t ∷ ts))) ∙ h)

-- ---- sharing goes both ways
tiles_flip : (a b : TileRange) → have_common_tile a b ≡ have_common_tile b a
tiles_flip a b =
    λ i. and_comm (int_le a.row_from b.row_to) (int_le b.row_from a.row_to) i && and_comm (int_le a.col_from b.col_to) (int_le b.col_from a.col_to) i

none_in : {X : Type 0} (xs : List X) → list_any (λ x. false) xs ≡ false
none_in [] = refl
none_in (x ∷ xs) = none_in xs

sharing_flip : (ss ts : List Segment) → share_a_tile ss ts ≡ share_a_tile ts ss
sharing_flip [] ts = sym (none_in ts)
sharing_flip (s ∷ ss) ts =
    (λ i. any_same (λ t. share s t) (λ t. share t s) (λ t. tiles_flip (tiles_under s) (tiles_under t)) ts i || sharing_flip ss ts i)
    ∙ sym (any_either (λ t. share t s) (λ t. list_any (λ r. share t r) ss) ts)

not_less : (o : Ordering) → is_eq o ≡ true → is_lt o ≡ false
not_less Less e = cc
not_less Equal e = refl
not_less Greater e = cc

module _ (floors : TilesAreFloors) (c : Cell) where
  -- a name isn't below itself
  alone : (a b : RecName) → same_name a b ≡ true → findings_of_subject c (Pair a b) ≡ []
  alone a b same =
      let not_below = not_less (name_order a b) (names_tie a b ∙ same_from_either b a ∙ same) in
      no_subject c (Pair a b) (ap (λ t. (t && is_chain_part c a) && is_chain_part c b) not_below)

  apart_by : (a b : RecName) (same : Bool) → same_name a b ≡ same → (not same && may_touch (segments_named c a) (segments_named c b)) ≡ false
      → findings_of_subject c (Pair a b) ≡ []
  apart_by a b true is none = alone a b is
  apart_by a b false is none = far_is_clean share (disjoint floors) c a b (not_sharing (segments_named c a) (segments_named c b) none)

  turned_by : (a b : RecName) (same : Bool) → same_name b a ≡ same → (not same && may_touch (segments_named c b) (segments_named c a)) ≡ false
      → findings_of_subject c (Pair a b) ≡ []
  turned_by a b true is none = alone a b (same_from_either a b ∙ is)
  turned_by a b false is none =
      let ss = segments_named c a in
      let ts = segments_named c b in
      far_is_clean share (disjoint floors) c a b (sharing_flip ss ts ∙ not_sharing ts ss none)

pub candidates : TilesAreFloors → FoundPairsAreCandidates
candidates floors = record {
  given = λ c a b none. apart_by floors c a b (same_name a b) refl none;
  turned = λ c a b none. turned_by floors c a b (same_name b a) refl none;
}
