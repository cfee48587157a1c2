-- The names whose tiles meet those of a name are its candidates.
use Rattle.std.proofs.Common.{◌≡◌, ◌&&◌, ◌||◌, Bool, true, false, List, [], ◌∷◌, Option, None, Some, cond, map, filter, length, is_some, refl, sym, ap, ◌∙◌}
use Rattle.std.specs.Prelude.{nat_lt, not}
use Rattle.std.specs.List.{list_any}
use Rattle.std.specs.Option.{option_map_or}
use Rattle.std.specs.declared.cmp.Ordering.{Ordering}
use Rattle.std.specs.declared.cmp.Ordering.TheVariants.{Less, Equal, Greater}
use Rattle.std.specs.Ordering.{ordering_then, int_cmp}
use Rattle.std.specs.Cmp.{IsTotalOrder, both_ways}
use Rattle.std.proofs.lemmas.List.Elements.{filter_agree}
use Rattle.std.proofs.lemmas.Cmp.{on_total, then_total, int_cmp_total}
use Rattle.std.proofs.lemmas.List.Kept.{IsStrictlySortedBy-filter}
use Rattle.std.proofs.lemmas.Map.Lookups.{CmpEqualImpliesEq, exact_signed}
use Rattle.s57_types.specs.declared.name.RecName.{RecName}
use Rattle.s57_types.specs.declared.record.Rec.{Rec as Record}
use Rattle.s57_types.specs.declared.cell.Cell.{Cell}
use Rattle.cell_spec.specs.Ascending.{ascending}
use Rattle.cell_spec.specs.Lookup.{listed_record}
use Rattle.cell_spec.specs.Names.{name_order, same_name}
use Rattle.cell_spec.proofs.Ascending.{any-ascending, holds, holds-ascending, sorted-ascending, same_when_sorted}
use Rattle.cell_spec.proofs.Orders.{exact_names, total_names}
use Rattle.geometry_spec.specs.declared.tile.TileRange.{TileRange}
use Rattle.rule_spec.specs.Candidates.{are_candidates, candidates_of, has_oversized, have_common_tile, segments_named, share_a_tile, tiles_under}
use Rattle.rule_spec.specs.EdgePoints.{Segment}
use Rattle.rule_spec.specs.Findings.{record_names}
use Rattle.finding_laws.specs.Tables.{Covering, IsCoveringsOf, MatesAreCandidates, covering_in, covering_of, coverings_listed, do_ranges_meet, is_mate}
use Rattle.finding_laws.specs.Tables.{is_oversized_range, range_order}
use Rattle.answer_laws.proofs.Among.{picked}
use Rattle.answer_laws.proofs.Tests.{any_same}
use Rattle.finding_laws.proofs.Listed.{named_in, no_segments}
use Rattle.finding_laws.proofs.Lists.{among_held, among_kept, from_ascending, held_among, into_ascending}
use Rattle.finding_laws.proofs.Rows.{is_made, keys_chosen, made_ascends, value_made, none_left}

-- ---- lists
any_mapped : {X Y : Type 0} (p : Y → Bool) (f : X → Y) (xs : List X) → list_any p (map f xs) ≡ list_any (λ x. p (f x)) xs
any_mapped p f [] = refl
any_mapped p f (x ∷ xs) = ap (λ b. p (f x) || b) (any_mapped p f xs)

filter_none : {X : Type 0} (p : X → Bool) → ((x : X) → p x ≡ false) → (xs : List X) → filter p xs ≡ []
filter_none p none [] = refl
filter_none p none (x ∷ xs) = ap (λ b. cond b (x ∷ filter p xs) (filter p xs)) (none x) ∙ filter_none p none xs

module _ {X : Type 0} (order : X → X → Ordering) (total : IsTotalOrder order) (exact : CmpEqualImpliesEq order) where
  filter_ascending : (p : X → Bool) (xs : List X) → filter p (ascending order xs) ≡ ascending order (filter p xs)
  filter_ascending p xs =
      same_when_sorted order total exact (filter p (ascending order xs)) (ascending order (filter p xs))
      (IsStrictlySortedBy-filter order p (ascending order xs) (sorted-ascending order total xs)) (sorted-ascending order total (filter p xs)) (λ q.
      both_ways (holds order q (filter p (ascending order xs))) (holds order q (ascending order (filter p xs)))
      (λ e. let hit = picked p q (ascending order xs) (among_held order exact q (filter p (ascending order xs)) e) in
      held_among order total q (ascending order (filter p xs))
      (into_ascending order total exact q (filter p xs) (among_kept p q xs (from_ascending order total exact q xs hit.among) hit.passes)))
      (λ e. let hit = picked p q xs (from_ascending order total exact q (filter p xs) (among_held order exact q (ascending order (filter p xs)) e)) in
      held_among order total q (filter p (ascending order xs))
      (among_kept p q (ascending order xs) (into_ascending order total exact q xs hit.among) hit.passes)))

-- ---- ranges of tiles
both_equal : (a b : Ordering) → ordering_then a b ≡ Equal → (a ≡ Equal) × (b ≡ Equal)
both_equal Less b e = cc
both_equal Equal b e = (refl, e)
both_equal Greater b e = cc

exact_ranges : CmpEqualImpliesEq range_order
exact_ranges a b e =
    let first =
    both_equal (int_cmp a.row_from b.row_from) (ordering_then (int_cmp a.row_to b.row_to)
    (ordering_then (int_cmp a.col_from b.col_from) (int_cmp a.col_to b.col_to))) e in
    let second = both_equal (int_cmp a.row_to b.row_to) (ordering_then (int_cmp a.col_from b.col_from) (int_cmp a.col_to b.col_to)) first.1 in
    let third = both_equal (int_cmp a.col_from b.col_from) (int_cmp a.col_to b.col_to) second.1 in
    λ i. record {
      row_from = exact_signed a.row_from b.row_from first.0 i;
      row_to = exact_signed a.row_to b.row_to second.0 i;
      col_from = exact_signed a.col_from b.col_from third.0 i;
      col_to = exact_signed a.col_to b.col_to third.1 i;
    }

total_ranges : IsTotalOrder range_order
total_ranges =
    then_total (on_total (λ (t : TileRange). t.row_from) int_cmp_total)
    (then_total (on_total (λ (t : TileRange). t.row_to) int_cmp_total)
    (then_total (on_total (λ (t : TileRange). t.col_from) int_cmp_total) (on_total (λ (t : TileRange). t.col_to) int_cmp_total)))

any_tiles : (p : TileRange → Bool) (ss : List Segment) → list_any p (ascending range_order (map tiles_under ss)) ≡ list_any (λ s. p (tiles_under s)) ss
any_tiles p ss = any-ascending range_order exact_ranges p (map tiles_under ss) ∙ any_mapped p tiles_under ss

-- ranges meet where the segments do that they are of
meet : (ss ts : List Segment) → do_ranges_meet (ascending range_order (map tiles_under ss)) (ascending range_order (map tiles_under ts))
    ≡ ((has_oversized ss || has_oversized ts) || share_a_tile ss ts)
meet ss ts =
    let others = ascending range_order (map tiles_under ts) in
    let shared : list_any (λ r. list_any (have_common_tile r) others) (ascending range_order (map tiles_under ss)) ≡ share_a_tile ss ts =
    any_tiles (λ r. list_any (have_common_tile r) others) ss
    ∙ any_same (λ s. list_any (have_common_tile (tiles_under s)) others) (λ s. list_any (λ t. have_common_tile (tiles_under s) (tiles_under t)) ts)
    (λ s. any_tiles (have_common_tile (tiles_under s)) ts) ss in
    λ i. (any_tiles is_oversized_range ss i || any_tiles is_oversized_range ts i) || shared i

-- ---- mates
module _ (c : Cell) where
  abbrev names : List RecName
  names = ascending name_order (record_names c)

  abbrev covered : RecName → Covering
  covered m = covering_of (segments_named c m)

  abbrev has_segments : RecName × Covering → Bool
  has_segments row = nat_lt 0 (length (segments_named c row.0))

  covering_by : (m : RecName) (o : Option Record) → listed_record c m ≡ o
      → covering_in c m ≡ cond (holds name_order m names && has_segments (m, covered m)) (Some (covered m)) None
  covering_by m None is =
      let empty : has_segments (m, covered m) ≡ false = ap (λ (ss : List Segment). nat_lt 0 (length ss)) (no_segments c m is) in
      let h = holds name_order m names in
      ap (λ b. cond b (Some (covered m)) None) empty ∙ sym (ap (λ b. cond (h && b) (Some (covered m)) None) empty ∙ none_left (covered m) h)
  covering_by m (Some r) is =
      let held : holds name_order m names ≡ true =
      holds-ascending name_order exact_names m (record_names c) ∙ held_among name_order total_names m (record_names c) (named_in c m (ap is_some is)) in
      sym (ap (λ h. cond (h && has_segments (m, covered m)) (Some (covered m)) None) held)

  pub coverings_are_right : IsCoveringsOf c (coverings_listed c)
  coverings_are_right = record {
    ascending = made_ascends name_order total_names exact_names covered has_segments names (sorted-ascending name_order total_names (record_names c));
    exact = λ m. value_made name_order total_names exact_names covered has_segments m names ∙ sym (covering_by m (listed_record c m) refl);
  }

  module _ (rows : List (RecName × Covering)) (right : IsCoveringsOf c rows) (n : RecName) where
    rows_are : rows ≡ filter has_segments (map (λ m. (m, covered m)) names)
    rows_are =
        is_made name_order total_names exact_names covered has_segments names rows (sorted-ascending name_order total_names (record_names c)) right.ascending
        (λ m. right.exact m ∙ covering_by m (listed_record c m) refl)

    regroup : (y s w : Bool) → (y && (s && w)) ≡ (s && ((true && y) && w))
    regroup true true w = refl
    regroup true false w = refl
    regroup false true w = refl
    regroup false false w = refl

    one_near : (m : RecName) → has_segments (n, covered n) ≡ true → (has_segments (m, covered m) && is_mate n (covered n) (m, covered m)) ≡ are_candidates c n m
    one_near m kept =
        let ss = segments_named c n in
        let ts = segments_named c m in
        let w = (has_oversized ss || has_oversized ts) || share_a_tile ss ts in
        (λ i. has_segments (m, covered m) && (not (same_name n m) && meet ss ts i))
        ∙ regroup (has_segments (m, covered m)) (not (same_name n m)) w
        ∙ sym (ap (λ x. not (same_name n m) && ((x && has_segments (m, covered m)) && w)) kept)

    false_second : (s y w : Bool) → (s && ((false && y) && w)) ≡ false
    false_second true y w = refl
    false_second false y w = refl

    none_near : (m : RecName) → has_segments (n, covered n) ≡ false → are_candidates c n m ≡ false
    none_near m empty =
        let ss = segments_named c n in
        let ts = segments_named c m in
        let w = (has_oversized ss || has_oversized ts) || share_a_tile ss ts in
        ap (λ x. not (same_name n m) && ((x && has_segments (m, covered m)) && w)) empty ∙ false_second (not (same_name n m)) (has_segments (m, covered m)) w

    by : (kept : Bool) → has_segments (n, covered n) ≡ kept
        → option_map_or (λ (own : Covering). map (λ (row : RecName × Covering). row.0) (filter (is_mate n own) rows)) (cond kept (Some (covered n)) None) []
        ≡ candidates_of c n
    unfolding candidates_of
    by true is =
        ap (λ those. map (λ (row : RecName × Covering). row.0) (filter (is_mate n (covered n)) those)) rows_are
        ∙ keys_chosen name_order total_names exact_names covered has_segments (is_mate n (covered n)) names
        ∙ filter_agree (λ m. has_segments (m, covered m) && is_mate n (covered n) (m, covered m)) (are_candidates c n) (λ m. one_near m is) names
        ∙ filter_ascending name_order total_names exact_names (are_candidates c n) (record_names c)
    by false is = sym (ap (ascending name_order) (filter_none (are_candidates c n) (λ m. none_near m is) (record_names c)))

pub mates_are_candidates : MatesAreCandidates
mates_are_candidates c rows right n =
    ap (λ o. option_map_or (λ (own : Covering). map (λ (row : RecName × Covering). row.0) (filter (is_mate n own) rows)) o []) (right.exact n)
    ∙ by c rows right n (nat_lt 0 (length (segments_named c n))) refl
