-- Changes that leave the ranges of their names leave all mates.
use Rattle.std.proofs.Common.{◌≡◌, ◌&&◌, Bool, true, false, not, List, [], ◌∷◌, Option, None, Some, cond, filter, is_some, map, refl, sym, ap, ◌∙◌}
use Rattle.std.proofs.Common.{Ordering, Less, Equal, Greater, is_eq}
use Rattle.std.specs.Prelude.{option_map}
use Rattle.std.specs.List.{list_all, list_any}
use Rattle.std.specs.Map.{keys_of}
use Rattle.std.specs.Option.{option_map_or}
use Rattle.std.specs.Ordering.{match_ordering}
use Rattle.std.specs.Cmp.{Equal-is}
use Rattle.std.proofs.lemmas.Map.Keys.{sorted_head, sorted_tail}
use Rattle.std.proofs.lemmas.Option.{none-some, same_Some}
use Rattle.s57_types.specs.declared.name.RecName.{RecName}
use Rattle.cell_spec.specs.Names.{name_order, same_name}
use Rattle.cell_spec.proofs.Orders.{exact_names, total_names}
use Rattle.geometry_spec.specs.declared.tile.TileRange.{TileRange}
use Rattle.row_spec.specs.Rows.{IsAscending, value_of, with_row, without_key}
use Rattle.row_spec.proofs.Place.{above_greater, value_of-above}
use Rattle.finding_laws.specs.Tables.{Covering, do_ranges_meet, is_mate, is_oversized_range, mates_in}
use Rattle.pair_set.specs.Pairs.{has_pair}
use Rattle.tile_index.specs.Changes.{ranges_at, ranges_in}
use Rattle.tile_index.specs.Tilings.{IsTiling, Tile, covers, has_some_tile, has_tile, is_oversized, tile_order}
use Rattle.tile_index.proofs.Tilings.{put_covering}

abbrev Ranged : Type 0
Ranged = List (RecName × List TileRange)

-- ---- mates are told by ranges
found_by : (hit : Bool) (covering : Covering) (o : Option Covering)
    → option_map (λ (c : Covering). c.ranges) (cond hit (Some covering) o) ≡ cond hit (Some covering.ranges) (option_map (λ (c : Covering). c.ranges) o)
found_by true covering o = refl
found_by false covering o = refl

ranges_found : (rows : List (RecName × Covering)) (n : RecName) → ranges_at rows n ≡ value_of name_order (ranges_in rows) n
ranges_found [] n = refl
ranges_found (row ∷ rows) n =
    found_by (is_eq (name_order row.0 n)) row.1 (value_of name_order rows n)
    ∙ ap (λ o. cond (is_eq (name_order row.0 n)) (Some row.1.ranges) o) (ranges_found rows n)

-- whether a row is of another name, and its ranges meet these
abbrev meets : RecName → List TileRange → RecName × List TileRange → Bool
meets n own row = not (same_name n row.0) && do_ranges_meet own row.1

abbrev met : Ranged → RecName → List TileRange → List RecName
met rows n own = map (λ (row : RecName × List TileRange). row.0) (filter (meets n own) rows)

met_by : (hit : Bool) (row : RecName × Covering) (rows : List (RecName × Covering)) (those : Ranged)
    → map (λ (r : RecName × Covering). r.0) rows ≡ map (λ (r : RecName × List TileRange). r.0) those
    → map (λ (r : RecName × Covering). r.0) (cond hit (row ∷ rows) rows)
    ≡ map (λ (r : RecName × List TileRange). r.0) (cond hit ((row.0, row.1.ranges) ∷ those) those)
met_by true row rows those same = ap (λ names. row.0 ∷ names) same
met_by false row rows those same = same

met_are : (rows : List (RecName × Covering)) (n : RecName) (own : Covering)
    → map (λ (row : RecName × Covering). row.0) (filter (is_mate n own) rows) ≡ met (ranges_in rows) n own.ranges
met_are [] n own = refl
met_are (row ∷ rows) n own =
    met_by (is_mate n own row) row (filter (is_mate n own) rows) (filter (meets n own.ranges) (ranges_in rows)) (met_are rows n own)

mates_by : (rows : List (RecName × Covering)) (n : RecName) (o : Option Covering)
    → option_map_or (λ (own : Covering). map (λ (row : RecName × Covering). row.0) (filter (is_mate n own) rows)) o []
    ≡ option_map_or (met (ranges_in rows) n) (option_map (λ (c : Covering). c.ranges) o) []
mates_by rows n None = refl
mates_by rows n (Some own) = met_are rows n own

mates_are : (rows : List (RecName × Covering)) (n : RecName)
    → mates_in rows n ≡ option_map_or (met (ranges_in rows) n) (value_of name_order (ranges_in rows) n) []
mates_are rows n = mates_by rows n (value_of name_order rows n) ∙ ap (λ o. option_map_or (met (ranges_in rows) n) o []) (ranges_found rows n)

-- the same names with the same ranges have the same mates
pub same_mates : (rows others : List (RecName × Covering)) → ranges_in rows ≡ ranges_in others → (n : RecName) → mates_in rows n ≡ mates_in others n
same_mates rows others same n =
    mates_are rows n
    ∙ ap (λ (those : Ranged). option_map_or (met those n) (value_of name_order those n) []) same
    ∙ sym (mates_are others n)

-- ---- a covering with the ranges of the one before it
module _ (name : RecName) (covering : Covering) where
  put_by : (row : RecName × Covering) (rows : List (RecName × Covering)) (answer : Ordering) → name_order row.0 name ≡ answer
      → option_map (λ (c : Covering). c.ranges) (cond (is_eq answer) (Some row.1) (value_of name_order rows name)) ≡ Some covering.ranges
      → (ranges_at rows name ≡ Some covering.ranges → ranges_in (with_row name_order rows name covering) ≡ ranges_in rows)
      → (answer ≡ Greater → value_of name_order rows name ≡ None)
      → ranges_in (match_ordering answer (row ∷ with_row name_order rows name covering) ((name, covering) ∷ rows) ((name, covering) ∷ row ∷ rows))
      ≡ ranges_in (row ∷ rows)
  put_by row rows Less is has rest none = ap (λ those. (row.0, row.1.ranges) ∷ those) (rest has)
  put_by row rows Equal is has rest none =
      (λ i. (sym (exact_names row.0 name is) i, sym (same_Some row.1.ranges covering.ranges has) i) ∷ ranges_in rows)
  put_by row rows Greater is has rest none =
      absurd (none-some covering.ranges (sym (ap (option_map (λ (c : Covering). c.ranges)) (none refl)) ∙ has))

  pub keeps_ranges : (rows : List (RecName × Covering)) → IsAscending name_order rows → ranges_at rows name ≡ Some covering.ranges
      → ranges_in (with_row name_order rows name covering) ≡ ranges_in rows
  keeps_ranges [] ascending has = absurd (none-some covering.ranges has)
  keeps_ranges (row ∷ rows) ascending has =
      put_by row rows (name_order row.0 name) refl has (keeps_ranges rows (sorted_tail name_order row.0 (keys_of rows) ascending))
      (λ is. value_of-above name_order rows name
      (above_greater name_order total_names row.0 name rows is (sorted_head name_order row.0 (keys_of rows) ascending)))

  -- what is told by the ranges
  told_by : {X : Type 0} (tell : List TileRange → X) (none : X) (o : Option Covering) → option_map (λ (c : Covering). c.ranges) o ≡ Some covering.ranges
      → option_map_or (λ (c : Covering). tell c.ranges) o none ≡ tell covering.ranges
  told_by tell none None has = absurd (none-some covering.ranges has)
  told_by tell none (Some other) has = ap tell (same_Some other.ranges covering.ranges has)

  -- the tiles stay as they stand
  tie_by : {X : Type 0} (tell : Covering → X) (now : RecName → X) (n : RecName) (tie : Bool) → is_eq (name_order name n) ≡ tie
      → now name ≡ tell covering → now n ≡ cond tie (tell covering) (now n)
  tie_by tell now n true is same = ap now (sym (exact_names name n ((Equal-is (name_order name n)).0 is))) ∙ same
  tie_by tell now n false is same = refl

  pub keeps_tiles : {V W : Type 0} (rows : List (RecName × Covering)) (pairs : List ((Tile × RecName) × V)) (oversized : List (RecName × W))
      → IsTiling rows pairs oversized → ranges_at rows name ≡ Some covering.ranges
      → IsTiling (with_row name_order rows name covering) pairs oversized
  keeps_tiles rows pairs oversized were has =
      let own : Option Covering = value_of name_order rows name in
      put_covering rows pairs pairs oversized oversized name were covering
      (sym (told_by (λ ranges. list_all has_some_tile ranges) true own has) ∙ were.ranges name)
      (λ t n. tie_by (λ (c : Covering). covers c t) (has_pair tile_order name_order pairs t) n (is_eq (name_order name n)) refl
      (were.under t name ∙ told_by (λ ranges. not (list_any is_oversized_range ranges) && list_any (λ r. has_tile r t) ranges) false own has))
      (λ n. tie_by is_oversized (λ m. is_some (value_of name_order oversized m)) n (is_eq (name_order name n)) refl
      (were.apart name ∙ told_by (list_any is_oversized_range) false own has))

-- a name that has no row goes by itself
absent_by : (row : RecName × Covering) (rows : List (RecName × Covering)) (name : RecName) (hit : Bool)
    → is_some (cond hit (Some row.1) (value_of name_order rows name)) ≡ false
    → (is_some (value_of name_order rows name) ≡ false → without_key name_order rows name ≡ rows)
    → cond hit rows (row ∷ without_key name_order rows name) ≡ row ∷ rows
absent_by row rows name true none rest = cc
absent_by row rows name false none rest = ap (λ those. row ∷ those) (rest none)

pub none_taken : (rows : List (RecName × Covering)) (name : RecName) → is_some (value_of name_order rows name) ≡ false → without_key name_order rows name ≡ rows
none_taken [] name none = refl
none_taken (row ∷ rows) name none = absent_by row rows name (is_eq (name_order row.0 name)) none (none_taken rows name)
