-- What a change of a name's covering leaves of the tiles.
use Rattle.std.proofs.Common.{◌≡◌, Bool, true, false, List, Option, None, Some, cond, is_some, refl, sym, ap, ◌∙◌, is_eq}
use Rattle.std.specs.List.{list_all}
use Rattle.std.specs.Option.{option_map_or}
use Rattle.s57_types.specs.declared.name.RecName.{RecName}
use Rattle.cell_spec.specs.Names.{name_order}
use Rattle.cell_spec.proofs.Orders.{total_names}
use Rattle.row_spec.specs.Rows.{IsAscending, value_of, with_row, without_key}
use Rattle.row_spec.proofs.Changes.{value_of-with_row, value_of-without_key}
use Rattle.finding_laws.specs.Tables.{Covering}
use Rattle.pair_set.specs.Pairs.{has_pair}
use Rattle.tile_index.specs.Tilings.{IsTiling, Tile, covers, has_some_tile, is_oversized, tile_order}

put_by : {X : Type 0} (f : X → Bool) (d : Bool) (x : X) (o : Option X) (b : Bool) → cond b (f x) (option_map_or f o d) ≡ option_map_or f (cond b (Some x) o) d
put_by f d x o true = refl
put_by f d x o false = refl

took_by : {X : Type 0} (f : X → Bool) (d : Bool) (o : Option X) (b : Bool) → cond b d (option_map_or f o d) ≡ option_map_or f (cond b None o) d
took_by f d o true = refl
took_by f d o false = refl

same_both : (a b c : Bool) → a ≡ true → c ≡ true → cond b a c ≡ true
same_both a true c e f = e
same_both a false c e f = f

abbrev all_have : Covering → Bool
all_have covering = list_all has_some_tile covering.ranges

module _ {V W : Type 0} (rows : List (RecName × Covering)) (pairs pairs_after : List ((Tile × RecName) × V)) (oversized oversized_after : List (RecName × W))
    (name : RecName) (were : IsTiling rows pairs oversized) where
  pub put_covering : (covering : Covering) → all_have covering ≡ true
      → ((t : Tile) (n : RecName) → has_pair tile_order name_order pairs_after t n
      ≡ cond (is_eq (name_order name n)) (covers covering t) (has_pair tile_order name_order pairs t n))
      → ((n : RecName) → is_some (value_of name_order oversized_after n)
      ≡ cond (is_eq (name_order name n)) (is_oversized covering) (is_some (value_of name_order oversized n)))
      → IsTiling (with_row name_order rows name covering) pairs_after oversized_after
  put_covering covering all under apart =
      let value = λ (n : RecName). sym (value_of-with_row name_order total_names rows name n covering) in
      record {
        ranges = λ n.
            ap (λ o. option_map_or all_have o true) (sym (value n))
            ∙ sym (put_by all_have true covering (value_of name_order rows n) (is_eq (name_order name n)))
            ∙ same_both (all_have covering) (is_eq (name_order name n)) (option_map_or all_have (value_of name_order rows n) true) all (were.ranges n);
        under = λ t n.
            under t n
            ∙ ap (λ b. cond (is_eq (name_order name n)) (covers covering t) b) (were.under t n)
            ∙ put_by (λ other. covers other t) false covering (value_of name_order rows n) (is_eq (name_order name n))
            ∙ ap (λ o. option_map_or (λ other. covers other t) o false) (value n);
        apart = λ n.
            apart n
            ∙ ap (λ b. cond (is_eq (name_order name n)) (is_oversized covering) b) (were.apart n)
            ∙ put_by is_oversized false covering (value_of name_order rows n) (is_eq (name_order name n))
            ∙ ap (λ o. option_map_or is_oversized o false) (value n);
      }

  pub took_covering : IsAscending name_order rows
      → ((t : Tile) (n : RecName) → has_pair tile_order name_order pairs_after t n
      ≡ cond (is_eq (name_order name n)) false (has_pair tile_order name_order pairs t n))
      → ((n : RecName) → is_some (value_of name_order oversized_after n) ≡ cond (is_eq (name_order name n)) false (is_some (value_of name_order oversized n)))
      → IsTiling (without_key name_order rows name) pairs_after oversized_after
  took_covering in_order under apart =
      let value = λ (n : RecName). sym (value_of-without_key name_order total_names rows name n in_order) in
      record {
        ranges = λ n.
            ap (λ o. option_map_or all_have o true) (sym (value n))
            ∙ sym (took_by all_have true (value_of name_order rows n) (is_eq (name_order name n)))
            ∙ same_both true (is_eq (name_order name n)) (option_map_or all_have (value_of name_order rows n) true) refl (were.ranges n);
        under = λ t n.
            under t n
            ∙ ap (λ b. cond (is_eq (name_order name n)) false b) (were.under t n)
            ∙ took_by (λ other. covers other t) false (value_of name_order rows n) (is_eq (name_order name n))
            ∙ ap (λ o. option_map_or (λ other. covers other t) o false) (value n);
        apart = λ n.
            apart n
            ∙ ap (λ b. cond (is_eq (name_order name n)) false b) (were.apart n)
            ∙ took_by is_oversized false (value_of name_order rows n) (is_eq (name_order name n))
            ∙ ap (λ o. option_map_or is_oversized o false) (value n);
      }
