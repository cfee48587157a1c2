-- The keys that the read set of a feature has: the head's, and those of its places, of the ends of its boundary's edges, and of its partners.
-- The read set of an edge has those of its ends, and that of a side those of the edge and of the records that point to it.
use Rattle.std.proofs.Common.{◌≡◌, ℕ, ◌<◌, Bool, true, false, ◌||◌, List, [], ◌∷◌, ◌++◌, length, map, flat_map, get_or, None, Some, cond, refl, ap, ◌∙◌}
use Rattle.std.specs.Prelude.{◌==◌, option_and_then}
use Rattle.std.specs.List.{list_any, All}
use Rattle.std.specs.Option.{option_map_or}
use Rattle.std.specs.Ordering.{is_eq, ordering_reverse}
use Rattle.std.specs.declared.cmp.Ordering.{Ordering}
use Rattle.std.specs.declared.cmp.Ordering.TheVariants.{Less, Equal, Greater}
use Rattle.std.proofs.lemmas.List.Concat.{flat_map-cons}
use Rattle.std.proofs.lemmas.List.Folds.{list_any-append, list_any_at}
use Rattle.s57_types.specs.declared.cell.Cell.{Cell}
use Rattle.s57_types.specs.declared.name.RecName.{RecName}
use Rattle.s57_types.specs.declared.record.End.{End}
use Rattle.s57_types.specs.declared.record.Feature.{Feature}
use Rattle.s57_types.specs.declared.record.Partner.{Partner}
use Rattle.s57_types.specs.declared.record.Rec.TheVariants.{F, V}
use Rattle.s57_types.specs.declared.record.Spot.{Spot}
use Rattle.s57_types.specs.declared.record.Vector.{Vector}
use Rattle.s57_types.specs.Heads.{head_name}
use Rattle.cell_spec.specs.declared.key.Key.{Key}
use Rattle.cell_spec.specs.declared.key.Key.TheVariants.{Name, Refs, Foid}
use Rattle.cell_spec.specs.declared.key.Ref.{Ref}
use Rattle.cell_spec.specs.declared.key.Subject.TheVariants.{Rec, Side}
use Rattle.cell_spec.specs.Ascending.{ascending}
use Rattle.cell_spec.specs.Lookup.{lookup_pointers, lookup_record}
use Rattle.cell_spec.specs.Names.{key_order}
use Rattle.rule_spec.specs.Reads.{end_keys, end_keys_at, feature_keys, keys_read, read_set}
use Rattle.rule_spec.specs.Records.{edge_named, feature_of, is_edge_name, vector_of}
use Rattle.cell_spec.proofs.Ascending.{holds-ascending}
use Rattle.cell_spec.proofs.Orders.{exact_keys, total_keys}
use Rattle.near_records.specs.Near.{has_key}

earlier : (a b : Bool) → a ≡ true → (a || b) ≡ true
earlier a b h = ap (λ z. z || b) h

later : (a b : Bool) → b ≡ true → (a || b) ≡ true
later true b h = refl
later false b h = h

ties_itself : (o : Ordering) → o ≡ ordering_reverse o → is_eq o ≡ true
ties_itself Less e = absurd cc
ties_itself Equal e = refl
ties_itself Greater e = absurd cc

any-map : {X : Type 0} (t : Key → Bool) (f : X → Key) (xs : List X) → list_any t (map f xs) ≡ list_any (λ x. t (f x)) xs
any-map t f [] = refl
any-map t f (x ∷ xs) = ap (λ b. t (f x) || b) (any-map t f xs)

any-flat_map : {X : Type 0} (t : Key → Bool) (f : X → List Key) (xs : List X) → list_any t (flat_map f xs) ≡ list_any (λ x. list_any t (f x)) xs
any-flat_map t f [] = refl
any-flat_map t f (x ∷ xs) =
    ap (list_any t) (flat_map-cons f x xs) ∙ list_any-append t (f x) (flat_map f xs) ∙ ap (λ b. list_any t (f x) || b) (any-flat_map t f xs)

-- the key of an item among the keys of all items
has_mapped : {X : Type 0} (f : X → Key) (xs : List X) (k : ℕ) (d : X) → k < length xs → has_key (map f xs) (f (get_or xs k d)) ≡ true
has_mapped f xs k d within =
    let key = f (get_or xs k d) in
    let test : Key → Bool = λ other. is_eq (key_order key other) in
    any-map test f xs ∙ list_any_at (λ x. test (f x)) xs k d within (ties_itself (key_order key key) (total_keys.antisymm key key))

-- a key of an item's keys is among the keys of all items
has_gathered : {X : Type 0} (f : X → List Key) (xs : List X) (k : ℕ) (d : X) (key : Key) → k < length xs → has_key (f (get_or xs k d)) key ≡ true
    → has_key (flat_map f xs) key ≡ true
has_gathered f xs k d key within h =
    let test : Key → Bool = λ other. is_eq (key_order key other) in
    any-flat_map test f xs ∙ list_any_at (λ x. list_any test (f x)) xs k d within h

has-append : (key : Key) (xs ys : List Key) → has_key (xs ++ ys) key ≡ (has_key xs key || has_key ys key)
has-append key xs ys = list_any-append (λ other. is_eq (key_order key other)) xs ys

module _ (c : Cell) (n : RecName) (f : Feature) (keys : List Key) (is_set : keys ≡ read_set c (Rec n)) (found : lookup_record c n ≡ Some (F f)) where
  -- what a feature's keys have, its read set has
  by_feature : (key : Key) → has_key (feature_keys c f) key ≡ true → has_key keys key ≡ true
  unfolding read_set
  by_feature key h =
      let own = λ (rest : List Key). Name n ∷ (end_keys_at c n ++ rest) in
      ap (λ ks. has_key ks key) is_set
      ∙ holds-ascending key_order exact_keys key (keys_read c (Rec n))
      ∙ ap (λ record_found. has_key (own (option_map_or (feature_keys c) (option_and_then feature_of record_found) [])) key) found
      ∙ later (is_eq (key_order key (Name n))) (has_key (end_keys_at c n ++ feature_keys c f) key)
      (has-append key (end_keys_at c n) (feature_keys c f) ∙ later (has_key (end_keys_at c n) key) (has_key (feature_keys c f) key) h)

  place_keys : List Key
  place_keys = map (λ (s : Spot). Name s.to) f.places

  boundary_keys : List Key
  boundary_keys = cond (f.prim == 3) (flat_map (λ (s : Spot). end_keys_at c s.to) f.places) []

  partner_keys : List Key
  partner_keys = map (λ (p : Partner). Foid p.to) f.partners

  -- the keys of its pointers
  pointer_keys : List Key
  pointer_keys = place_keys ++ boundary_keys ++ partner_keys

  by_pointers : (key : Key) → has_key pointer_keys key ≡ true → has_key keys key ≡ true
  unfolding place_keys boundary_keys partner_keys pointer_keys
  by_pointers key h = by_feature key (later (is_eq (key_order key (Name head_name))) (has_key pointer_keys key) h)

  by_parts : (key : Key) → has_key pointer_keys key ≡ ((has_key place_keys key || has_key boundary_keys key) || has_key partner_keys key)
  unfolding pointer_keys
  by_parts key = has-append key (place_keys ++ boundary_keys) partner_keys ∙ ap (λ b. b || has_key partner_keys key) (has-append key place_keys boundary_keys)

  -- the head
  pub head_is_read : has_key keys (Name head_name) ≡ true
  unfolding place_keys boundary_keys partner_keys pointer_keys
  head_is_read =
      let key = Name head_name in
      by_feature key (earlier (is_eq (key_order key key)) (has_key pointer_keys key) (ties_itself (key_order key key) (total_keys.antisymm key key)))

  -- the records that a feature's spatial pointers name
  pub places_are_read : All (λ (s : Spot). has_key keys (Name s.to) ≡ true) f.places
  unfolding place_keys
  places_are_read = λ k d within.
      let key = Name (get_or f.places k d).to in
      by_pointers key (by_parts key ∙ earlier (has_key place_keys key || has_key boundary_keys key) (has_key partner_keys key)
      (earlier (has_key place_keys key) (has_key boundary_keys key) (has_mapped (λ (s : Spot). Name s.to) f.places k d within)))

  -- the identifiers that a feature's pointers to other features name
  pub partners_are_read : All (λ (p : Partner). has_key keys (Foid p.to) ≡ true) f.partners
  unfolding partner_keys
  partners_are_read = λ k d within.
      let key = Foid (get_or f.partners k d).to in
      by_pointers key (by_parts key ∙ later (has_key place_keys key || has_key boundary_keys key) (has_key partner_keys key)
      (has_mapped (λ (p : Partner). Foid p.to) f.partners k d within))

  -- the records that the ends of an area's edges name
  pub ends_are_read : (f.prim == 3) ≡ true → (k : ℕ) (d : Spot) (edge : Vector) → k < length f.places → edge_named c (get_or f.places k d).to ≡ Some edge
      → All (λ (e : End). has_key keys (Name e.to) ≡ true) edge.ends
  unfolding boundary_keys
  ends_are_read area k d edge within is_edge = λ j end inside.
      let key = Name (get_or edge.ends j end).to in
      let gathered = flat_map (λ (s : Spot). end_keys_at c s.to) f.places in
      let here : has_key (end_keys_at c (get_or f.places k d).to) key ≡ true =
      ap (λ edge_found. has_key (option_map_or end_keys edge_found []) key) is_edge ∙ has_mapped (λ (e : End). Name e.to) edge.ends j end inside in
      let among : has_key boundary_keys key ≡ true =
      ap (λ b. has_key (cond b gathered []) key) area ∙ has_gathered (λ (s : Spot). end_keys_at c s.to) f.places k d key within here in
      by_pointers key (by_parts key ∙ earlier (has_key place_keys key || has_key boundary_keys key) (has_key partner_keys key)
      (later (has_key place_keys key) (has_key boundary_keys key) among))

-- ---- an edge
edge_keys : (c : Cell) (n : RecName) (v : Vector) → lookup_record c n ≡ Some (V v) → is_edge_name v.name ≡ true
    → keys_read c (Rec n) ≡ Name n ∷ (end_keys v ++ [])
edge_keys c n v found kind =
    (λ i. Name n ∷ (option_map_or end_keys (option_and_then (vector_of is_edge_name) (found i)) [] ++ option_map_or (feature_keys c)
    (option_and_then feature_of (found i)) []))
    ∙ ap (λ b. Name n ∷ (option_map_or end_keys (cond b (Some v) None) [] ++ [])) kind

-- the records that the ends of an edge name
pub own_ends_are_read : (c : Cell) (n : RecName) (v : Vector) (keys : List Key) → keys ≡ read_set c (Rec n) → lookup_record c n ≡ Some (V v)
    → is_edge_name v.name ≡ true → All (λ (e : End). has_key keys (Name e.to) ≡ true) v.ends
unfolding read_set
own_ends_are_read c n v keys is_set found kind = λ k d within.
    let key = Name (get_or v.ends k d).to in
    ap (λ ks. has_key ks key) (is_set ∙ ap (ascending key_order) (edge_keys c n v found kind))
    ∙ holds-ascending key_order exact_keys key (Name n ∷ (end_keys v ++ []))
    ∙ later (is_eq (key_order key (Name n))) (has_key (end_keys v ++ []) key)
    (has-append key (end_keys v) [] ∙ earlier (has_key (end_keys v) key) false (has_mapped (λ (e : End). Name e.to) v.ends k d within))

-- ---- a side
module _ (c : Cell) (n : RecName) (keys : List Key) (is_set : keys ≡ read_set c (Side n)) where
  -- the edge
  pub edge_is_read : has_key keys (Name n) ≡ true
  unfolding read_set
  edge_is_read =
      let key = Name n in
      ap (λ ks. has_key ks key) is_set
      ∙ holds-ascending key_order exact_keys key (keys_read c (Side n))
      ∙ earlier (is_eq (key_order key key)) _ (ties_itself (key_order key key) (total_keys.antisymm key key))

  -- the records that point to it
  pub referrers_are_read : All (λ (r : Ref). has_key keys (Name r.from) ≡ true) (lookup_pointers c n)
  unfolding read_set
  referrers_are_read = λ k d within.
      let pointers = lookup_pointers c n in
      let key = Name (get_or pointers k d).from in
      let froms = map (λ (r : Ref). Name r.from) pointers in
      ap (λ ks. has_key ks key) is_set
      ∙ holds-ascending key_order exact_keys key (keys_read c (Side n))
      ∙ later (is_eq (key_order key (Name n))) (has_key (Refs n ∷ froms) key)
      (later (is_eq (key_order key (Refs n))) (has_key froms key) (has_mapped (λ (r : Ref). Name r.from) pointers k d within))
