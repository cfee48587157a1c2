-- Two lists of ranges with tiles, none oversized, have a common tile where a tile of the one is a tile of the other.
use Rattle.std.proofs.Common.{◌≡◌, ◌&&◌, Bool, true, List, sym, ◌∙◌, arith, ℤ}
use Rattle.std.specs.Prelude.{int_le}
use Rattle.std.specs.Cmp.{IsTotalOrder, both_ways}
use Rattle.std.specs.Int.{int_max}
use Rattle.std.specs.List.{list_all, list_any}
use Rattle.std.specs.Ordering.{int_cmp}
use Rattle.std.proofs.lemmas.Bool.{and_from, and_parts}
use Rattle.std.proofs.lemmas.Cmp.{int_cmp_total, on_total, then_total}
use Rattle.std.proofs.lemmas.Int.{ints}
use Rattle.std.proofs.lemmas.Map.Lookups.{CmpEqualImpliesEq, exact_pairs, exact_signed}
use Rattle.geometry_spec.specs.declared.tile.TileRange.{TileRange}
use Rattle.rule_spec.specs.Candidates.{have_common_tile}
use Rattle.answer_laws.proofs.Among.{any_passes, each_passes, passing}
use Rattle.finding_laws.proofs.Lists.{among_held, held_among}
use Rattle.pair_set.specs.Pairs.{is_among}
use Rattle.tile_index.specs.Tilings.{Tile, has_some_tile, has_tile, lies_within, tile_order}

pub total_tiles : IsTotalOrder tile_order
total_tiles = then_total (on_total (λ (t : Tile). t.0) int_cmp_total) (on_total (λ (t : Tile). t.1) int_cmp_total)

pub exact_tiles : CmpEqualImpliesEq tile_order
exact_tiles = exact_pairs int_cmp int_cmp exact_signed exact_signed

-- ---- from one number to another
meet_at : (f t g u x : ℤ) → int_le f x ≡ true → int_le x t ≡ true → int_le g x ≡ true → int_le x u ≡ true → (int_le f u && int_le g t) ≡ true
meet_at f t g u x a b c d = grind (arith, ints)

later_first : (f t g u : ℤ) → int_le f t ≡ true → int_le g t ≡ true → lies_within f t (int_max f g) ≡ true
later_first f t g u a b = grind (arith, ints)

later_second : (f t g u : ℤ) → int_le g u ≡ true → int_le f u ≡ true → lies_within g u (int_max f g) ≡ true
later_second f t g u a b = grind (arith, ints)

-- ---- two ranges
shared_when_both : (r s : TileRange) (t : Tile) → has_tile r t ≡ true → has_tile s t ≡ true → have_common_tile r s ≡ true
shared_when_both r s t h k =
    let hr = and_parts (lies_within r.row_from r.row_to t.0) (lies_within r.col_from r.col_to t.1) h in
    let ks = and_parts (lies_within s.row_from s.row_to t.0) (lies_within s.col_from s.col_to t.1) k in
    let a = and_parts (int_le r.row_from t.0) (int_le t.0 r.row_to) hr.0 in
    let b = and_parts (int_le s.row_from t.0) (int_le t.0 s.row_to) ks.0 in
    let c = and_parts (int_le r.col_from t.1) (int_le t.1 r.col_to) hr.1 in
    let d = and_parts (int_le s.col_from t.1) (int_le t.1 s.col_to) ks.1 in
    and_from (int_le r.row_from s.row_to && int_le s.row_from r.row_to) (int_le r.col_from s.col_to && int_le s.col_from r.col_to)
    (meet_at r.row_from r.row_to s.row_from s.row_to t.0 a.0 a.1 b.0 b.1) (meet_at r.col_from r.col_to s.col_from s.col_to t.1 c.0 c.1 d.0 d.1)

-- a tile of both
abbrev common : TileRange → TileRange → Tile
common r s = (int_max r.row_from s.row_from, int_max r.col_from s.col_from)

both_when_shared : (r s : TileRange) → has_some_tile r ≡ true → has_some_tile s ≡ true → have_common_tile r s ≡ true
    → (has_tile r (common r s) ≡ true) × (has_tile s (common r s) ≡ true)
both_when_shared r s h k e =
    let hr = and_parts (int_le r.row_from r.row_to) (int_le r.col_from r.col_to) h in
    let ks = and_parts (int_le s.row_from s.row_to) (int_le s.col_from s.col_to) k in
    let both = and_parts (int_le r.row_from s.row_to && int_le s.row_from r.row_to) (int_le r.col_from s.col_to && int_le s.col_from r.col_to) e in
    let rows = and_parts (int_le r.row_from s.row_to) (int_le s.row_from r.row_to) both.0 in
    let cols = and_parts (int_le r.col_from s.col_to) (int_le s.col_from r.col_to) both.1 in
    let t = common r s in (
      and_from (lies_within r.row_from r.row_to t.0) (lies_within r.col_from r.col_to t.1)
          (later_first r.row_from r.row_to s.row_from s.row_to hr.0 rows.1) (later_first r.col_from r.col_to s.col_from s.col_to hr.1 cols.1),
      and_from (lies_within s.row_from s.row_to t.0) (lies_within s.col_from s.col_to t.1)
          (later_second r.row_from r.row_to s.row_from s.row_to ks.0 rows.0) (later_second r.col_from r.col_to s.col_from s.col_to ks.1 cols.0),
    )

-- ---- two lists of ranges, of which the tiles of the first are listed
module _ (rs ts : List TileRange) (tiles : List Tile) (listed : (t : Tile) → is_among tile_order tiles t ≡ list_any (λ r. has_tile r t) rs) where
  abbrev some_tile_of_both : Bool
  some_tile_of_both = list_any (λ t. list_any (λ s. has_tile s t) ts) tiles

  abbrev some_meet : Bool
  some_meet = list_any (λ r. list_any (have_common_tile r) ts) rs

  from_tile : some_tile_of_both ≡ true → some_meet ≡ true
  from_tile e =
      let at = passing (λ t. list_any (λ s. has_tile s t) ts) tiles e in
      let second = passing (λ s. has_tile s at.item) ts at.passes in
      let first = passing (λ r. has_tile r at.item) rs (sym (listed at.item) ∙ held_among tile_order total_tiles at.item tiles at.among) in
      any_passes (λ r. list_any (have_common_tile r) ts) first.item rs first.among
      (any_passes (have_common_tile first.item) second.item ts second.among (shared_when_both first.item second.item at.item first.passes second.passes))

  to_tile : list_all has_some_tile rs ≡ true → list_all has_some_tile ts ≡ true → some_meet ≡ true → some_tile_of_both ≡ true
  to_tile all_rs all_ts e =
      let first = passing (λ r. list_any (have_common_tile r) ts) rs e in
      let second = passing (have_common_tile first.item) ts first.passes in
      let t = common first.item second.item in
      let both = both_when_shared first.item second.item (each_passes has_some_tile first.item rs all_rs first.among)
      (each_passes has_some_tile second.item ts all_ts second.among) second.passes in
      any_passes (λ u. list_any (λ s. has_tile s u) ts) t tiles
      (among_held tile_order exact_tiles t tiles (listed t ∙ any_passes (λ r. has_tile r t) first.item rs first.among both.0))
      (any_passes (λ s. has_tile s t) second.item ts second.among both.1)

  pub meet_by_tiles : list_all has_some_tile rs ≡ true → list_all has_some_tile ts ≡ true → some_tile_of_both ≡ some_meet
  meet_by_tiles all_rs all_ts = both_ways some_tile_of_both some_meet from_tile (to_tile all_rs all_ts)
