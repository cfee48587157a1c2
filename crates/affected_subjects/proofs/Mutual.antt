-- Of two mates each has the other, and a name isn't its own.
use Rattle.std.proofs.Common.{◌≡◌, ◌&&◌, ◌||◌, Bool, true, false, not, List, length, refl, sym, subst, ◌∙◌}
use Rattle.std.specs.Prelude.{int_le, nat_lt}
use Rattle.std.specs.Cmp.{both_ways}
use Rattle.std.specs.List.{list_any}
use Rattle.std.proofs.lemmas.Bool.{and_parts}
use Rattle.s57_types.specs.declared.name.RecName.{RecName}
use Rattle.s57_types.specs.declared.cell.Cell.{Cell}
use Rattle.cell_spec.specs.Names.{same_name}
use Rattle.cell_spec.proofs.Orders.{same_from_either}
use Rattle.geometry_spec.specs.declared.tile.TileRange.{TileRange}
use Rattle.rule_spec.specs.Candidates.{are_candidates, has_oversized, have_common_tile, may_touch, segments_named, share_a_tile, tiles_under}
use Rattle.rule_spec.specs.EdgePoints.{Segment}
use Rattle.answer_laws.proofs.Among.{Among, any_passes, passing}
use Rattle.finding_laws.specs.Tables.{Covering, IsCoveringsOf, mates_in}
use Rattle.finding_laws.proofs.Listed.{candidate_listed, candidate_unlisted}
use Rattle.finding_laws.proofs.Mates.{mates_are_candidates}

and_turned : (a b : Bool) → (a && b) ≡ (b && a)
and_turned true true = refl
and_turned true false = refl
and_turned false true = refl
and_turned false false = refl

pub or_turned : (a b : Bool) → (a || b) ≡ (b || a)
or_turned true true = refl
or_turned true false = refl
or_turned false true = refl
or_turned false false = refl

turned_tile : (a b : TileRange) → have_common_tile a b ≡ have_common_tile b a
turned_tile a b =
    λ i. and_turned (int_le a.row_from b.row_to) (int_le b.row_from a.row_to) i && and_turned (int_le a.col_from b.col_to) (int_le b.col_from a.col_to) i

share_turned : (ss ts : List Segment) → share_a_tile ss ts ≡ true → share_a_tile ts ss ≡ true
share_turned ss ts e =
    let one = passing (λ s. list_any (λ t. have_common_tile (tiles_under s) (tiles_under t)) ts) ss e in
    let other = passing (λ t. have_common_tile (tiles_under one.item) (tiles_under t)) ts one.passes in
    any_passes (λ t. list_any (λ s. have_common_tile (tiles_under t) (tiles_under s)) ss) other.item ts other.among
    (any_passes (λ s. have_common_tile (tiles_under other.item) (tiles_under s)) one.item ss one.among
    (turned_tile (tiles_under other.item) (tiles_under one.item) ∙ other.passes))

touch_turned : (ss ts : List Segment) → may_touch ss ts ≡ may_touch ts ss
touch_turned ss ts =
    λ i. and_turned (nat_lt 0 (length ss)) (nat_lt 0 (length ts)) i
    && (or_turned (has_oversized ss) (has_oversized ts) i || both_ways (share_a_tile ss ts) (share_a_tile ts ss) (share_turned ss ts) (share_turned ts ss) i)

candidates_turned : (c : Cell) (a b : RecName) → are_candidates c a b ≡ are_candidates c b a
candidates_turned c a b = λ i. not (same_from_either a b i) && touch_turned (segments_named c a) (segments_named c b) i

-- mates by tables that are right for a cell
module _ (c : Cell) (rows : List (RecName × Covering)) (right : IsCoveringsOf c rows) (n m : RecName) (at : Among m (mates_in rows n)) where
  touching : are_candidates c n m ≡ true
  touching = candidate_unlisted c n m (subst (Among m) (mates_are_candidates c rows right n) at)

  pub mutual_mate : Among n (mates_in rows m)
  mutual_mate = subst (Among n) (sym (mates_are_candidates c rows right m)) (candidate_listed c m n (sym (candidates_turned c n m) ∙ touching))

  pub apart : same_name n m ≡ false
  apart = clear (same_name n m) (and_parts (not (same_name n m)) (may_touch (segments_named c n) (segments_named c m)) touching).0
    where
      clear : (b : Bool) → not b ≡ true → b ≡ false
      clear true e = cc
      clear false e = λ i. false
