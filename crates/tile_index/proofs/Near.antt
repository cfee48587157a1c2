-- The names that are gathered for a covering are those whose ranges meet its ranges, and they are its mates.
use Rattle.std.proofs.Common.{◌≡◌, ◌&&◌, ◌||◌, Bool, true, false, not, List, [], ◌∷◌, Option, None, Some, is_some, map, filter, refl, sym, ap, ◌∙◌, is_eq}
use Rattle.std.specs.List.{list_all, list_any}
use Rattle.std.specs.Map.{keys_of}
use Rattle.std.specs.Option.{option_map_or}
use Rattle.s57_types.specs.declared.name.RecName.{RecName}
use Rattle.cell_spec.specs.Ascending.{ascending}
use Rattle.cell_spec.specs.Names.{name_order}
use Rattle.cell_spec.proofs.Ascending.{holds-ascending, same_when_sorted, sorted-ascending}
use Rattle.cell_spec.proofs.Orders.{exact_names, names_tie, total_names}
use Rattle.rule_spec.specs.Candidates.{have_common_tile}
use Rattle.row_spec.specs.Rows.{IsAscending, value_of}
use Rattle.answer_laws.proofs.Tests.{any_same}
use Rattle.finding_laws.specs.Tables.{Covering, do_ranges_meet, is_mate, mates_in}
use Rattle.pair_set.specs.Pairs.{has_pair, is_among}
use Rattle.tile_index.specs.Tilings.{IsTiling, Tile, covers, has_some_tile, has_tile, is_near, is_oversized, tile_order}
use Rattle.tile_index.proofs.Chosen.{among-chosen, among_keys, among_others, sorted-chosen}
use Rattle.tile_index.proofs.Meeting.{meet_by_tiles}

none_pass : {X : Type 0} (xs : List X) → list_any (λ x. false) xs ≡ false
none_pass [] = refl
none_pass (x ∷ xs) = none_pass xs

or_true : (b : Bool) → (b || true) ≡ true
or_true true = refl
or_true false = refl

or_false : (b : Bool) → (b || false) ≡ b
or_false true = refl
or_false false = refl

-- ---- an oversized covering meets all
over_by : (own : Covering) (o : Option Covering) → is_oversized own ≡ true
    → is_some o ≡ option_map_or (λ (other : Covering). do_ranges_meet own.ranges other.ranges) o false
over_by own None is = refl
over_by own (Some other) is =
    sym (ap (λ b. (b || is_oversized other) || list_any (λ r. list_any (have_common_tile r) other.ranges) own.ranges) is)

pub near_oversized : (rows : List (RecName × Covering)) (own : Covering) (n : RecName) → is_oversized own ≡ true
    → is_among name_order (keys_of rows) n ≡ is_near rows own n
near_oversized rows own n is = among_keys name_order total_names rows n ∙ over_by own (value_of name_order rows n) is

-- ---- one that isn't meets those under its tiles, and the oversized ones
module _ (own : Covering) (small : is_oversized own ≡ false) (ranges : list_all has_some_tile own.ranges ≡ true) (tiles : List Tile)
    (listed : (t : Tile) → is_among tile_order tiles t ≡ covers own t) where
  each_listed : (t : Tile) → is_among tile_order tiles t ≡ list_any (λ r. has_tile r t) own.ranges
  each_listed t = listed t ∙ ap (λ b. not b && list_any (λ r. has_tile r t) own.ranges) small

  other_by : (other : Covering) (over : Bool) → is_oversized other ≡ over → list_all has_some_tile other.ranges ≡ true
      → (list_any (λ t. covers other t) tiles || over) ≡ do_ranges_meet own.ranges other.ranges
  other_by other true is all =
      or_true (list_any (λ t. covers other t) tiles)
      ∙ sym ((λ i. (small i || is i) || list_any (λ r. list_any (have_common_tile r) other.ranges) own.ranges))
  other_by other false is all =
      or_false (list_any (λ t. covers other t) tiles)
      ∙ any_same (λ t. covers other t) (λ t. list_any (λ s. has_tile s t) other.ranges)
      (λ t. ap (λ b. not b && list_any (λ s. has_tile s t) other.ranges) is) tiles
      ∙ meet_by_tiles own.ranges other.ranges tiles each_listed ranges all
      ∙ sym ((λ i. (small i || is i) || list_any (λ r. list_any (have_common_tile r) other.ranges) own.ranges))

  small_by : (o : Option Covering) → option_map_or (λ (covering : Covering). list_all has_some_tile covering.ranges) o true ≡ true
      → (list_any (λ t. option_map_or (λ covering. covers covering t) o false) tiles || option_map_or is_oversized o false)
      ≡ option_map_or (λ (other : Covering). do_ranges_meet own.ranges other.ranges) o false
  small_by None all = or_false (list_any (λ t. false) tiles) ∙ none_pass tiles
  small_by (Some other) all = other_by other (is_oversized other) refl all

  pub near_small : {V W : Type 0} (rows : List (RecName × Covering)) (pairs : List ((Tile × RecName) × V)) (oversized : List (RecName × W))
      → IsTiling rows pairs oversized → (n : RecName)
      → (list_any (λ t. has_pair tile_order name_order pairs t n) tiles || is_some (value_of name_order oversized n)) ≡ is_near rows own n
  near_small rows pairs oversized tiling n =
      (λ i. any_same (λ t. has_pair tile_order name_order pairs t n)
      (λ t. option_map_or (λ covering. covers covering t) (value_of name_order rows n) false) (λ t. tiling.under t n) tiles i || tiling.apart n i)
      ∙ small_by (value_of name_order rows n) (tiling.ranges n)

-- ---- mates
module _ (rows : List (RecName × Covering)) (in_order : IsAscending name_order rows) (n : RecName) (own : Covering) where
  mate_by : (q : RecName) (o : Option Covering)
      → (not (is_eq (name_order q n)) && option_map_or (λ (other : Covering). do_ranges_meet own.ranges other.ranges) o false)
      ≡ option_map_or (λ other. is_mate n own (q, other)) o false
  mate_by q None = and_false (not (is_eq (name_order q n)))
    where
      and_false : (b : Bool) → (b && false) ≡ false
      and_false true = refl
      and_false false = refl
  mate_by q (Some other) = ap (λ b. not b && do_ranges_meet own.ranges other.ranges) (names_tie q n)

  pub mates_gathered : (names : List RecName) → ((q : RecName) → is_among name_order names q ≡ is_near rows own q) → value_of name_order rows n ≡ Some own
      → ascending name_order (filter (λ m. not (is_eq (name_order m n))) names) ≡ mates_in rows n
  mates_gathered names near is =
      same_when_sorted name_order total_names exact_names (ascending name_order (filter (λ m. not (is_eq (name_order m n))) names))
      (map (λ (row : RecName × Covering). row.0) (filter (is_mate n own) rows))
      (sorted-ascending name_order total_names (filter (λ m. not (is_eq (name_order m n))) names))
      (sorted-chosen name_order total_names exact_names (is_mate n own) rows in_order)
      (λ q. holds-ascending name_order exact_names q (filter (λ m. not (is_eq (name_order m n))) names)
      ∙ among_others name_order exact_names n q names
      ∙ ap (λ b. not (is_eq (name_order q n)) && b) (near q)
      ∙ mate_by q (value_of name_order rows q)
      ∙ sym (among-chosen name_order total_names exact_names (is_mate n own) rows q in_order))
      ∙ sym (ap (λ o. option_map_or (λ (mine : Covering). map (λ (row : RecName × Covering). row.0) (filter (is_mate n mine) rows)) o []) is)
