-- Keys of names put one behind the other as long as the names ascend.
use Rattle.std.proofs.Common.{◌≡◌, ◌<◌, ℕ, zero, suc, List, [], ◌∷◌, ◌++◌, length, get_or, map, take, ◌+◌, refl, sym, ap, subst, ◌∙◌, arith, inl, inr}
use Rattle.std.specs.List.Sorted.{IsStrictlySortedBy}
use Rattle.std.specs.Ordering.{match_ordering, ordering_reverse}
use Rattle.std.specs.declared.cmp.Ordering.{Ordering}
use Rattle.std.specs.declared.cmp.Ordering.TheVariants.{Less, Equal, Greater}
use Rattle.std.proofs.lemmas.Bool.{cases_lt}
use Rattle.std.proofs.lemmas.List.{get_or_default, get_or_push, length_push, map_more}
use Rattle.std.proofs.lemmas.List.Sums.{fold-append}
use Rattle.std.proofs.lemmas.Map.Keys.{Less-from_sorted}
use Rattle.s57_types.specs.declared.name.RecName.{RecName}
use Rattle.cell_spec.specs.declared.key.Key.{Key}
use Rattle.cell_spec.specs.declared.key.Key.TheVariants.{Name}
use Rattle.cell_spec.specs.Ascending.{ascending, put_in_order}
use Rattle.cell_spec.specs.Names.{key_order, name_order}
use Rattle.cell_spec.proofs.Ascending.{sorted-ascending}
use Rattle.cell_spec.proofs.Orders.{exact_keys, total_keys}
use Rattle.read_sets.specs.Rising.{IsRising}

-- one more key is put in order last
one_more : (those : List Key) (key : Key) → put_in_order key_order key (ascending key_order those) ≡ ascending key_order (those ++ key ∷ [])
one_more those key = sym (fold-append (λ (sorted : List Key) (x : Key). put_in_order key_order x sorted) [] those (key ∷ []))

turned : (k j : Key) (o : Ordering) → key_order k j ≡ o → key_order j k ≡ ordering_reverse o
turned k j o e = total_keys.antisymm j k ∙ ap ordering_reverse e

-- a key greater than all others stands behind them
put_behind : (key : Key) (keys : List Key) → ((k : ℕ) (d : Key) → k < length keys → key_order (get_or keys k d) key ≡ Less)
    → put_in_order key_order key keys ≡ keys ++ key ∷ []
put_behind key [] low = refl
put_behind key (first ∷ keys) low =
    ap (λ o. match_ordering o (key ∷ first ∷ keys) (first ∷ keys) (first ∷ put_in_order key_order key keys))
    (turned first key Less (low 0 key (omega arith)))
    ∙ ap (λ rest. first ∷ rest) (put_behind key keys (λ k d within. low (suc k) d (omega (arith, within))))

-- a key that is there stays as it is
there_already : (key : Key) (keys : List Key) (place : ℕ) → IsStrictlySortedBy key_order keys → place < length keys
    → key_order (get_or keys place key) key ≡ Equal → put_in_order key_order key keys ≡ keys
unfolding IsStrictlySortedBy
there_already key [] place rises within ties = absurd (omega (arith, within))
there_already key (first ∷ keys) zero rises within ties =
    ap (λ o. match_ordering o (key ∷ first ∷ keys) (first ∷ keys) (first ∷ put_in_order key_order key keys)) (turned first key Equal ties)
there_already key (first ∷ keys) (suc place) rises within ties =
    let is : get_or keys place key ≡ key = exact_keys (get_or keys place key) key ties in
    let below : key_order first (get_or keys place key) ≡ Less =
    Less-from_sorted key_order (first ∷ keys) 0 (suc place) key rises (omega arith) (omega (arith, within)) in
    ap (λ o. match_ordering o (key ∷ first ∷ keys) (first ∷ keys) (first ∷ put_in_order key_order key keys))
    (turned first key Less (ap (key_order first) (sym is) ∙ below))
    ∙ ap (λ rest. first ∷ rest) (there_already key keys place rises.1 (omega (arith, within)) ties)

module _ (those keys : List Key) (key : Key) (held : keys ≡ ascending key_order those) where
  rises : IsStrictlySortedBy key_order keys
  rises = subst (IsStrictlySortedBy key_order) (sym held) (sorted-ascending key_order total_keys those)

  with_key : put_in_order key_order key keys ≡ ascending key_order (those ++ key ∷ [])
  with_key = ap (put_in_order key_order key) held ∙ one_more those key

  before_last : (place : ℕ) → length keys ≡ suc place → key_order (get_or keys place key) key ≡ Less
      → (k : ℕ) (d : Key) → k < length keys → key_order (get_or keys k d) key ≡ Less
  before_last place count less k d within = elim (cases_lt k place) [
    | inl under ↦ total_keys.trans (get_or keys k d) (get_or keys place key) key
        (ap (λ x. key_order x (get_or keys place key)) (get_or_default keys k d key within)
        ∙ Less-from_sorted key_order keys k place key rises under (omega (arith, count))) less
    | inr over ↦ let here : k ≡ place = omega (arith, over, within, count) in
        ap (λ x. key_order x key) (get_or_default keys k d key within ∙ ap (λ i. get_or keys i key) here) ∙ less
  ]

  -- a key behind the last one
  behind_last : (place : ℕ) → length keys ≡ suc place → key_order (get_or keys place key) key ≡ Less → put_in_order key_order key keys ≡ keys ++ key ∷ []
  behind_last place count less = put_behind key keys (before_last place count less)

  -- the last key again
  last_again : (place : ℕ) → length keys ≡ suc place → key_order (get_or keys place key) key ≡ Equal → put_in_order key_order key keys ≡ keys
  last_again place count ties = there_already key keys place rises (omega (arith, count)) ties

module _ (those : List Key) (before name : RecName) (keys : List Key) (rising : IsRising those before keys) where
  at_last : get_or keys (length rising.front) (Name name) ≡ Name before
  at_last = ap (λ (ks : List Key). get_or ks (length rising.front) (Name name)) rising.ends
      ∙ get_or_push rising.front (Name before) (Name name) (length rising.front) refl

  count : length keys ≡ suc (length rising.front)
  count = ap length rising.ends ∙ omega (arith, length_push rising.front (Name before))

  -- a greater name is put behind
  pub rises_on : name_order before name ≡ Less → IsRising (those ++ Name name ∷ []) name (keys ++ Name name ∷ [])
  rises_on less = record {
    front = keys;
    ends = refl;
    ascends = sym (behind_last those keys (Name name) rising.ascends (length rising.front) count (ap (λ k. key_order k (Name name)) at_last ∙ less))
        ∙ with_key those keys (Name name) rising.ascends;
  }

  -- the same name is there
  pub stays : name_order before name ≡ Equal → IsRising (those ++ Name name ∷ []) name keys
  stays ties = record {
    front = rising.front;
    ends = rising.ends ∙ ap (λ k. rising.front ++ k ∷ []) (exact_keys (Name before) (Name name) ties);
    ascends = sym (last_again those keys (Name name) rising.ascends (length rising.front) count (ap (λ k. key_order k (Name name)) at_last ∙ ties))
        ∙ with_key those keys (Name name) rising.ascends;
  }

-- a name further
pub one_further : (first : RecName) (rest : List RecName) (k : ℕ) (d : RecName) (keys : List Key) → k < length rest
    → IsRising (map Name (first ∷ take k rest) ++ Name (get_or rest k d) ∷ []) (get_or rest k d) keys
    → IsRising (map Name (first ∷ take (k + 1) rest)) (get_or rest k d) keys
one_further first rest k d keys within rising =
    subst (λ (those : List Key). IsRising those (get_or rest k d) keys) (ap (λ (those : List Key). Name first ∷ those) (sym (map_more Name rest k d within))) rising
