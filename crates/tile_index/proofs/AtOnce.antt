-- An index of many names at once.
use Rattle.std.proofs.Common.{◌≡◌, ◌&&◌, ◌||◌, ℕ, ◌+◌, ◌<◌, Bool, true, false, List, [], ◌∷◌, ◌++◌, None, Some, cond, filter, get_or, is_some}
use Rattle.std.proofs.Common.{length, map, refl, sym, ap, ◌∙◌, take, Less, append-nil, append_assoc, is_eq}
use Rattle.std.specs.Prelude.{option_to_list}
use Rattle.std.specs.Cmp.{Equal-is, eq_by_cmp_equiv}
use Rattle.std.specs.List.{AllByRecursion, list_all, list_any}
use Rattle.std.specs.List.Sorted.{IsStrictlySortedBy}
use Rattle.std.specs.Map.{keys_of}
use Rattle.std.specs.Option.{option_map_or}
use Rattle.std.specs.Ordering.{ordering_reverse}
use Rattle.std.proofs.lemmas.Bool.{and_parts}
use Rattle.std.proofs.lemmas.List.Folds.{list_all_more, list_any-append, list_any_more}
use Rattle.s57_types.specs.declared.name.RecName.{RecName}
use Rattle.cell_spec.specs.Names.{name_order}
use Rattle.cell_spec.proofs.EachItem.{each_append}
use Rattle.cell_spec.proofs.Orders.{exact_names, total_names}
use Rattle.row_spec.specs.Rows.{EachKeyIs, IsAscending, value_of, with_row, without_key}
use Rattle.row_spec.proofs.Pairs.{put_some}
use Rattle.row_spec.proofs.Place.{with_row-append_below, without_key-append_below}
use Rattle.finding_laws.specs.Tables.{Covering}
use Rattle.pair_set.specs.Pairs.{has_pair, is_among, same_pair}
use Rattle.tile_index.specs.declared.change.TileChange.{TileChange}
use Rattle.tile_index.specs.Changes.{after_changes, covering_given, coverings_given, oversized_in}
use Rattle.tile_index.specs.Tilings.{IsTiling, Tile, covers, has_ranges, has_some_tile, is_oversized, is_paired, is_row_under, tile_order}
use Rattle.tile_index.proofs.Folded.{all_ascend}
use Rattle.tile_index.proofs.Meeting.{total_tiles}

abbrev CoverRows : Type 0
CoverRows = List (RecName × Covering)

abbrev PairRow : Type 0
PairRow = (Tile × RecName) × Unit {0}

or_false : (b : Bool) → (b || false) ≡ b
or_false true = refl
or_false false = refl

and_true : (b : Bool) → (b && true) ≡ b
and_true true = refl
and_true false = refl

and_false : (b : Bool) → (b && false) ≡ false
and_false true = refl
and_false false = refl

-- ---- pairs of a tile and a name
pair_more : (pairs : List PairRow) (tile : Tile) (name : RecName) (t : Tile) (n : RecName)
    → is_paired (pairs ++ ((tile, name), tt) ∷ []) t n ≡ (is_paired pairs t n || (is_eq (tile_order t tile) && is_eq (name_order name n)))
pair_more pairs tile name t n =
    list_any-append (λ (pair : PairRow). same_pair tile_order name_order pair.0.0 pair.0.1 t n) pairs (((tile, name), tt) ∷ [])
    ∙ ap (λ b. is_paired pairs t n || b) (or_false (same_pair tile_order name_order tile name t n)
    ∙ ap (λ b. b && is_eq (name_order name n)) ((eq_by_cmp_equiv total_tiles).symm tile t))

one_tile : (was tie a e : Bool) → ((was || (tie && a)) || (e && tie)) ≡ (was || (tie && (a || e)))
one_tile true tie a e = refl
one_tile false true true e = refl
one_tile false true false true = refl
one_tile false true false false = refl
one_tile false false a true = refl
one_tile false false a false = refl

-- a tile is put behind the pairs
pub tile_pushed : (tiles : List Tile) (i : ℕ) (d : Tile) → i < length tiles → (pairs : List PairRow) (name : RecName) (t : Tile) (n : RecName) (was : Bool)
    → is_paired pairs t n ≡ (was || (is_eq (name_order name n) && is_among tile_order (take i tiles) t))
    → is_paired (pairs ++ ((get_or tiles i d, name), tt) ∷ []) t n ≡ (was || (is_eq (name_order name n) && is_among tile_order (take (i + 1) tiles) t))
tile_pushed tiles i d lt pairs name t n was known =
    let tile = get_or tiles i d in
    pair_more pairs tile name t n
    ∙ ap (λ b. b || (is_eq (tile_order t tile) && is_eq (name_order name n))) known
    ∙ one_tile was (is_eq (name_order name n)) (is_among tile_order (take i tiles) t) (is_eq (tile_order t tile))
    ∙ ap (λ b. was || (is_eq (name_order name n) && b)) (sym (list_any_more (λ u. is_eq (tile_order t u)) tiles i d lt))

-- the tiles of a row are put behind the pairs
pub row_pushed : (rows : CoverRows) (i : ℕ) (d : RecName × Covering) → i < length rows → (t : Tile) (n : RecName) (before : Bool)
    → before ≡ is_row_under (take i rows) t n
    → (before || (is_eq (name_order (get_or rows i d).0 n) && covers (get_or rows i d).1 t)) ≡ is_row_under (take (i + 1) rows) t n
row_pushed rows i d lt t n before known =
    ap (λ b. b || (is_eq (name_order (get_or rows i d).0 n) && covers (get_or rows i d).1 t)) known
    ∙ sym (list_any_more (λ (row : RecName × Covering). is_eq (name_order row.0 n) && covers row.1 t) rows i d lt)

abbrev has_tiles : Covering → Bool
has_tiles covering = list_all has_some_tile covering.ranges

pub row_ranged : (rows : CoverRows) (i : ℕ) (d : RecName × Covering) → i < length rows
    → list_all (λ (row : RecName × Covering). has_tiles row.1) (take i rows) ≡ true → has_tiles (get_or rows i d).1 ≡ true
    → list_all (λ (row : RecName × Covering). has_tiles row.1) (take (i + 1) rows) ≡ true
row_ranged rows i d lt before here =
    list_all_more (λ (row : RecName × Covering). has_tiles row.1) rows i d lt ∙ (λ k. before k && here k)

-- ---- oversized names
oversized_each : (P : RecName → Type 0) (rows : CoverRows) → AllByRecursion P (keys_of rows) → AllByRecursion P (keys_of (oversized_in rows))
oversized_each P [] all = tt
oversized_each P (row ∷ rows) all =
    elim (is_oversized row.1) as (λ over. AllByRecursion P (keys_of (map (λ (r : RecName × Covering). (r.0, tt))
    (cond over (row ∷ filter (λ (r : RecName × Covering). is_oversized r.1) rows) (filter (λ (r : RecName × Covering). is_oversized r.1) rows))))) [
      | true ↦ (all.0, oversized_each P rows all.1)
      | false ↦ oversized_each P rows all.1
    ]

pub oversized_ascend : (rows : CoverRows) → IsAscending name_order rows → IsAscending name_order (oversized_in rows)
unfolding IsStrictlySortedBy
oversized_ascend [] sorted = tt
oversized_ascend (row ∷ rows) sorted =
    elim (is_oversized row.1) as (λ over. IsAscending name_order (map (λ (r : RecName × Covering). (r.0, tt))
    (cond over (row ∷ filter (λ (r : RecName × Covering). is_oversized r.1) rows) (filter (λ (r : RecName × Covering). is_oversized r.1) rows)))) [
      | true ↦ (oversized_each (λ k. name_order row.0 k ≡ Less) rows sorted.0, oversized_ascend rows sorted.1)
      | false ↦ oversized_ascend rows sorted.1
    ]

-- whether a row of a name has an oversized covering
oversized_any : (rows : CoverRows) (n : RecName)
    → is_some (value_of name_order (oversized_in rows) n) ≡ list_any (λ (row : RecName × Covering). is_eq (name_order row.0 n) && is_oversized row.1) rows
oversized_any [] n = refl
oversized_any (row ∷ rows) n =
    let tie = is_eq (name_order row.0 n) in
    let rest = list_any (λ (r : RecName × Covering). is_eq (name_order r.0 n) && is_oversized r.1) rows in
    elim (is_oversized row.1) as (λ over. is_some (value_of name_order (map (λ (r : RecName × Covering). (r.0, tt))
    (cond over (row ∷ filter (λ (r : RecName × Covering). is_oversized r.1) rows) (filter (λ (r : RecName × Covering). is_oversized r.1) rows))) n)
    ≡ ((tie && over) || rest)) [
      | true ↦ put_some tie tt (value_of name_order (oversized_in rows) n) ∙ (λ i. sym (and_true tie) i || oversized_any rows n i)
      | false ↦ oversized_any rows n ∙ ap (λ b. b || rest) (sym (and_false tie))
    ]

-- ---- what the one row of a name tells
none_tied : (told : Covering → Bool) (q n : RecName) (rows : CoverRows) → q ≡ n → AllByRecursion (λ k. name_order q k ≡ Less) (keys_of rows)
    → list_any (λ (row : RecName × Covering). is_eq (name_order row.0 n) && told row.1) rows ≡ false
none_tied told q n [] one above = refl
none_tied told q n (row ∷ rows) one above =
    let after : name_order n row.0 ≡ Less = ap (λ m. name_order m row.0) (sym one) ∙ above.0 in
    let apart : is_eq (name_order row.0 n) ≡ false = ap is_eq (total_names.antisymm row.0 n ∙ ap ordering_reverse after) in
    λ i. (apart i && told row.1) || none_tied told q n rows one above.1 i

told_by : (told : Covering → Bool) (row : RecName × Covering) (rows : CoverRows) (n : RecName) (tie : Bool) → is_eq (name_order row.0 n) ≡ tie
    → AllByRecursion (λ k. name_order row.0 k ≡ Less) (keys_of rows)
    → option_map_or told (value_of name_order rows n) false ≡ list_any (λ (r : RecName × Covering). is_eq (name_order r.0 n) && told r.1) rows
    → option_map_or told (cond tie (Some row.1) (value_of name_order rows n)) false
    ≡ ((tie && told row.1) || list_any (λ (r : RecName × Covering). is_eq (name_order r.0 n) && told r.1) rows)
told_by told row rows n true is above rest =
    sym (or_false (told row.1))
    ∙ ap (λ b. told row.1 || b) (sym (none_tied told row.0 n rows (exact_names row.0 n ((Equal-is (name_order row.0 n)).0 is)) above))
told_by told row rows n false is above rest = rest

value_told : (told : Covering → Bool) (rows : CoverRows) → IsAscending name_order rows → (n : RecName)
    → option_map_or told (value_of name_order rows n) false ≡ list_any (λ (row : RecName × Covering). is_eq (name_order row.0 n) && told row.1) rows
unfolding IsStrictlySortedBy
value_told told [] sorted n = refl
value_told told (row ∷ rows) sorted n = told_by told row rows n (is_eq (name_order row.0 n)) refl sorted.0 (value_told told rows sorted.1 n)

all_ranged : (rows : CoverRows) → list_all (λ (row : RecName × Covering). has_tiles row.1) rows ≡ true → (n : RecName) → has_ranges rows n ≡ true
all_ranged [] all n = refl
all_ranged (row ∷ rows) all n =
    let both = and_parts (has_tiles row.1) (list_all (λ (r : RecName × Covering). has_tiles r.1) rows) all in
    elim (is_eq (name_order row.0 n)) as (λ tie. option_map_or has_tiles (cond tie (Some row.1) (value_of name_order rows n)) true ≡ true) [
      | true ↦ both.0
      | false ↦ all_ranged rows both.1 n
    ]

-- rows with the pairs of their tiles, and with the oversized names
pub all_tiled : (rows : CoverRows) (pairs : List PairRow) → IsAscending name_order rows
    → list_all (λ (row : RecName × Covering). has_tiles row.1) rows ≡ true
    → ((t : Tile) (n : RecName) → has_pair tile_order name_order pairs t n ≡ is_row_under rows t n)
    → IsTiling rows pairs (oversized_in rows)
all_tiled rows pairs sorted ranged paired = record {
  ranges = all_ranged rows ranged;
  under = λ t n. paired t n ∙ sym (value_told (λ covering. covers covering t) rows sorted n);
  apart = λ n. oversized_any rows n ∙ sym (value_told is_oversized rows sorted n);
}

-- ---- changes of ascending names
abbrev names_of : List TileChange → List RecName
names_of changes = map (λ (change : TileChange). change.name) changes

more_below : (rows : CoverRows) (name : RecName) (covering : Covering) (names : List RecName) → AllByRecursion (λ k. EachKeyIs name_order Less k rows) names
    → AllByRecursion (λ k. name_order name k ≡ Less) names → AllByRecursion (λ k. EachKeyIs name_order Less k (rows ++ (name, covering) ∷ [])) names
more_below rows name covering [] below above = tt
more_below rows name covering (k ∷ names) below above = (
  each_append (λ (row : RecName × Covering). name_order row.0 k ≡ Less) rows ((name, covering) ∷ []) below.0 (above.0, tt),
  more_below rows name covering names below.1 above.1,
)

put_last : (rows : CoverRows) (changes : List TileChange) → AllByRecursion (λ k. EachKeyIs name_order Less k rows) (names_of changes)
    → IsStrictlySortedBy name_order (names_of changes) → after_changes rows changes ≡ rows ++ coverings_given changes
unfolding IsStrictlySortedBy
put_last rows [] below sorted = sym (append-nil rows)
put_last rows (change ∷ changes) below sorted =
    let name = change.name in
    elim (covering_given change) as (λ given. after_changes
    (option_map_or (λ covering. with_row name_order rows name covering) given (without_key name_order rows name)) changes
    ≡ rows ++ (map (λ covering. (name, covering)) (option_to_list given) ++ coverings_given changes)) [
      | None ↦
          ap (λ those. after_changes those changes) (ap (λ those. without_key name_order those name) (sym (append-nil rows))
          ∙ without_key-append_below name_order rows [] name below.0 ∙ append-nil rows)
          ∙ put_last rows changes below.1 sorted.1
      | Some covering ↦
          ap (λ those. after_changes those changes) (ap (λ those. with_row name_order those name covering) (sym (append-nil rows))
          ∙ with_row-append_below name_order rows [] name covering below.0)
          ∙ put_last (rows ++ (name, covering) ∷ []) changes (more_below rows name covering (names_of changes) below.1 sorted.0) sorted.1
          ∙ append_assoc rows ((name, covering) ∷ []) (coverings_given changes)
    ]

none_below : (names : List RecName) → AllByRecursion (λ k. EachKeyIs {V = Covering} name_order Less k []) names
none_below [] = tt
none_below (k ∷ names) = (tt, none_below names)

pub changes_put : (changes : List TileChange) → IsStrictlySortedBy name_order (names_of changes) → coverings_given changes ≡ after_changes [] changes
changes_put changes sorted = sym (put_last [] changes (none_below (names_of changes)) sorted)

pub given_ascend : (changes : List TileChange) → IsStrictlySortedBy name_order (names_of changes) → IsAscending name_order (coverings_given changes)
unfolding IsStrictlySortedBy
given_ascend changes sorted = rw (changes_put changes sorted) (all_ascend [] changes tt)
