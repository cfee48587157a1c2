-- The read set of a record, by what the cell has under its name.
use Rattle.std.proofs.Common.{◌≡◌, ◌≤◌, Bool, true, false, ◌||◌, is_some, List, [], ◌∷◌, ◌++◌, length, map, flat_map, None, Some, cond}
use Rattle.std.proofs.Common.{refl, sym, ap, ◌∙◌, append_assoc, arith}
use Rattle.std.specs.Prelude.{◌==◌, option_and_then}
use Rattle.std.specs.List.{list_any}
use Rattle.std.specs.Option.{option_map_or}
use Rattle.std.specs.Ordering.{is_eq}
use Rattle.std.proofs.lemmas.List.Concat.{flat_map-cons}
use Rattle.std.proofs.lemmas.List.Folds.{list_any-append}
use Rattle.s57_types.specs.declared.name.RecName.{RecName}
use Rattle.s57_types.specs.declared.record.Feature.{Feature}
use Rattle.s57_types.specs.declared.record.Rec.TheVariants.{V, F, H}
use Rattle.s57_types.specs.declared.record.Spot.{Spot}
use Rattle.s57_types.specs.declared.record.Vector.{Vector}
use Rattle.s57_types.specs.declared.cell.Cell.{Cell}
use Rattle.s57_types.specs.declared.head.Head.{Head as CellHead}
use Rattle.s57_types.specs.Heads.{head_name}
use Rattle.cell_spec.specs.declared.key.Key.{Key}
use Rattle.cell_spec.specs.declared.key.Key.TheVariants.{Name, Refs, Foid}
use Rattle.cell_spec.specs.declared.key.Subject.TheVariants.{Rec}
use Rattle.cell_spec.specs.Ascending.{ascending}
use Rattle.cell_spec.specs.declared.finding.Finding.{Finding}
use Rattle.cell_spec.specs.Lookup.{listed_record, lookup_record}
use Rattle.cell_spec.specs.Names.{key_order}
use Rattle.rule_spec.specs.Findings.{findings_of_record, findings_of_subject}
use Rattle.rule_spec.specs.Reads.{end_keys, end_keys_at, feature_keys, keys_read, read_set}
use Rattle.rule_spec.specs.Records.{feature_of, is_edge_name, vector_of}
use Rattle.cell_spec.proofs.Ascending.{holds-ascending, same_when_sorted, sorted-ascending}
use Rattle.cell_spec.proofs.Orders.{exact_keys, total_keys}
use Rattle.near_records.specs.Near.{answer_held, answer_to}
use Rattle.near_records.specs.declared.near.Answer.{Answer}
use Rattle.check_record.specs.EndKeys.{ends_found, ends_of_answer, ends_of_key, named_by, partner_keys}
use Rattle.cell_spec.proofs.Ascending.{any-ascending, longer_ascending}
use Rattle.check_record.proofs.FoundRecords.{listed_feature, listed_vector}

-- a read set has the record's own key
pub some_keys : (c : Cell) (n : RecName) → 1 ≤ length (read_set c (Rec n))
unfolding read_set
some_keys c n = longer_ascending key_order (Name n ∷ []) (end_keys_at c n ++ option_map_or (feature_keys c) (option_and_then feature_of (lookup_record c n)) [])

place_keys : Feature → List Key
place_keys f = map (λ (s : Spot). Name s.to) f.places

boundary_keys : Cell → Feature → List Key
boundary_keys c f = cond (f.prim == 3) (flat_map (λ (s : Spot). end_keys_at c s.to) f.places) []

no_ends : (c : Cell) (n : RecName) (f : Feature) → lookup_record c n ≡ Some (F f) → end_keys_at c n ≡ []
no_ends c n f h = ap (λ found. option_map_or end_keys (option_and_then (vector_of is_edge_name) found) []) h

-- the keys of a feature
feature_reads : (c : Cell) (n : RecName) (f : Feature) → lookup_record c n ≡ Some (F f)
    → keys_read c (Rec n) ≡ Name n ∷ (Name head_name ∷ ((place_keys f ++ boundary_keys c f) ++ partner_keys f))
unfolding place_keys boundary_keys
feature_reads c n f h = λ i. Name n ∷ (no_ends c n f h i ++ option_map_or (feature_keys c) (option_and_then feature_of (h i)) [])

-- the records that a feature names are among its read set
pub feature_places : (c : Cell) (n : RecName) (f : Feature) → lookup_record c n ≡ Some (F f)
    → length (ascending key_order (Name n ∷ (Name head_name ∷ map (λ (s : Spot). Name s.to) f.places))) ≤ length (read_set c (Rec n))
unfolding read_set place_keys
feature_places c n f h =
    let same : keys_read c (Rec n) ≡ (Name n ∷ (Name head_name ∷ place_keys f)) ++ (boundary_keys c f ++ partner_keys f) =
    feature_reads c n f h ∙ ap (λ xs. Name n ∷ (Name head_name ∷ xs)) (append_assoc (place_keys f) (boundary_keys c f) (partner_keys f)) in
    omega (
      arith,
      longer_ascending key_order (Name n ∷ (Name head_name ∷ place_keys f)) (boundary_keys c f ++ partner_keys f),
      ap (λ xs. length (ascending key_order xs)) same,
    )

any-flat_map : {X : Type 0} (t : Key → Bool) (f : X → List Key) (xs : List X) → list_any t (flat_map f xs) ≡ list_any (λ x. list_any t (f x)) xs
any-flat_map t f [] = refl
any-flat_map t f (x ∷ xs) =
    ap (list_any t) (flat_map-cons f x xs) ∙ list_any-append t (f x) (flat_map f xs) ∙ ap (λ b. list_any t (f x) || b) (any-flat_map t f xs)

any-map : {X : Type 0} (t : Key → Bool) (f : X → Key) (xs : List X) → list_any t (map f xs) ≡ list_any (λ x. t (f x)) xs
any-map t f [] = refl
any-map t f (x ∷ xs) = ap (λ b. t (f x) || b) (any-map t f xs)

module _ (c : Cell) (n : RecName) (f : Feature) (found : lookup_record c n ≡ Some (F f)) (t : Key → Bool) where
  named : List Key
  named = ascending key_order (Name n ∷ (Name head_name ∷ place_keys f))

  any_named : list_any t named ≡ (t (Name n) || (t (Name head_name) || list_any t (place_keys f)))
  unfolding named
  any_named = any-ascending key_order exact_keys t (Name n ∷ (Name head_name ∷ place_keys f))

  any_boundary_by : (area : Bool) → list_any t (cond area (flat_map (ends_of_key c) named) []) ≡ list_any t
      (cond area (flat_map (λ (s : Spot). end_keys_at c s.to) f.places) [])
  unfolding named place_keys
  any_boundary_by false = refl
  any_boundary_by true =
      any-flat_map t (ends_of_key c) named
      ∙ any-ascending key_order exact_keys (λ k. list_any t (ends_of_key c k)) (Name n ∷ (Name head_name ∷ place_keys f))
      ∙ ap (λ b. b || list_any (λ k. list_any t (ends_of_key c k)) (place_keys f)) (ap (list_any t) (no_ends c n f found))
      ∙ any-map (λ k. list_any t (ends_of_key c k)) (λ (s : Spot). Name s.to) f.places
      ∙ sym (any-flat_map t (λ (s : Spot). end_keys_at c s.to) f.places)

  or_regroup : (a b c d e : Bool) → ((d || (a || (b || c))) || e) ≡ (a || (b || ((c || d) || e)))
  or_regroup true b c true e = refl
  or_regroup true b c false e = refl
  or_regroup false true c true e = refl
  or_regroup false true c false e = refl
  or_regroup false false true true e = refl
  or_regroup false false true false e = refl
  or_regroup false false false true e = refl
  or_regroup false false false false e = refl

  -- the names of the ends, each once
  bounds : List Key
  bounds = ascending key_order (cond (f.prim == 3) (flat_map (ends_of_key c) named) [])

  any_bounds : list_any t bounds ≡ list_any t (boundary_keys c f)
  unfolding bounds boundary_keys
  any_bounds = any-ascending key_order exact_keys t (cond (f.prim == 3) (flat_map (ends_of_key c) named) []) ∙ any_boundary_by (f.prim == 3)

  -- the keys that are gathered pass a test where the keys that are read do
  any_read : list_any t ((bounds ++ named) ++ partner_keys f) ≡ list_any t (keys_read c (Rec n))
  any_read =
      list_any-append t (bounds ++ named) (partner_keys f)
      ∙ ap (λ b. b || list_any t (partner_keys f)) (list_any-append t bounds named)
      ∙ (λ i. (any_bounds i || any_named i) || list_any t (partner_keys f))
      ∙ or_regroup (t (Name n)) (t (Name head_name)) (list_any t (place_keys f)) (list_any t (boundary_keys c f)) (list_any t (partner_keys f))
      ∙ ap (λ b. t (Name n) || (t (Name head_name) || (b || list_any t (partner_keys f)))) (sym (list_any-append t (place_keys f) (boundary_keys c f)))
      ∙ ap (λ b. t (Name n) || (t (Name head_name) || b)) (sym (list_any-append t (place_keys f ++ boundary_keys c f) (partner_keys f)))
      ∙ ap (list_any t) (sym (feature_reads c n f found))

-- the read set of a feature from the ends of the records that it names, these with its own name, and its partners
pub feature_set : (c : Cell) (n : RecName) (f : Feature) → lookup_record c n ≡ Some (F f) → (named : List Key)
    → named ≡ ascending key_order (Name n ∷ (Name head_name ∷ map (λ (s : Spot). Name s.to) f.places))
    → ascending key_order ((ascending key_order (cond (f.prim == 3) (flat_map (ends_of_key c) named) []) ++ named)
    ++ partner_keys f) ≡ read_set c (Rec n)
unfolding read_set named bounds place_keys
feature_set c n f found held is =
    let all = λ (named : List Key). (ascending key_order (cond (f.prim == 3) (flat_map (ends_of_key c) named) []) ++ named)
    ++ partner_keys f in
    let own = ascending key_order (Name n ∷ (Name head_name ∷ map (λ (s : Spot). Name s.to) f.places)) in
    ap (λ named. ascending key_order (all named)) is
    ∙ same_when_sorted key_order total_keys exact_keys (ascending key_order (all own)) (ascending key_order (keys_read c (Rec n)))
    (sorted-ascending key_order total_keys (all own)) (sorted-ascending key_order total_keys (keys_read c (Rec n)))
    (λ q. holds-ascending key_order exact_keys q (all own) ∙ any_read c n f found (λ y. is_eq (key_order q y))
    ∙ sym (holds-ascending key_order exact_keys q (keys_read c (Rec n))))

flat_map-through : {X Y : Type 0} (f : Y → List Key) (g : X → Y) (xs : List X) → flat_map (λ x. f (g x)) xs ≡ flat_map f (map g xs)
flat_map-through f g [] = refl
flat_map-through f g (x ∷ xs) =
    flat_map-cons (λ y. f (g y)) x xs ∙ ap (λ ys. f (g x) ++ ys) (flat_map-through f g xs) ∙ sym (flat_map-cons f (g x) (map g xs))

ends_asked : (c : Cell) (key : Key) → ends_found (answer_to c key) ≡ ends_of_key c key
ends_asked c (Name n) = refl
ends_asked c (Refs n) = refl
ends_asked c (Foid l) = refl

ascending_twice : (keys : List Key) → ascending key_order (ascending key_order keys) ≡ ascending key_order keys
ascending_twice keys =
    let held = ascending key_order keys in
    same_when_sorted key_order total_keys exact_keys (ascending key_order held) held (sorted-ascending key_order total_keys held)
    (sorted-ascending key_order total_keys keys) (λ q. holds-ascending key_order exact_keys q held)

-- the ends of the edges that are answers are those of the edges that were asked for
pub ends_by_answers : (c : Cell) (n : RecName) (f : Feature) (named : List Key) (answers : List Answer) → named ≡ named_by n f
    → map answer_held answers ≡ map (answer_to c) (ascending key_order named) → flat_map ends_of_answer answers ≡ flat_map (ends_of_key c) named
ends_by_answers c n f named answers is all =
    let own = Name n ∷ (Name head_name ∷ map (λ (s : Spot). Name s.to) f.places) in
    let once : ascending key_order named ≡ named = ap (ascending key_order) is ∙ ascending_twice own ∙ sym is in
    flat_map-through ends_found answer_held answers
    ∙ ap (flat_map ends_found) (all ∙ ap (map (answer_to c)) once)
    ∙ sym (flat_map-through ends_found (answer_to c) named)
    ∙ (λ i. flat_map (λ key. ends_asked c key i) named)

-- the read set of a name that no record has
pub absent_set : (c : Cell) (n : RecName) → lookup_record c n ≡ None → read_set c (Rec n) ≡ ascending key_order (Name n ∷ [])
unfolding read_set
absent_set c n h =
    λ i. ascending key_order (Name n ∷ (option_map_or end_keys (option_and_then (vector_of is_edge_name) (h i)) []
    ++ option_map_or (feature_keys c) (option_and_then feature_of (h i)) []))

-- and that of the head
pub head_set : (c : Cell) (n : RecName) (head : CellHead) → lookup_record c n ≡ Some (H head) → read_set c (Rec n) ≡ ascending key_order (Name n ∷ [])
unfolding read_set
head_set c n head h =
    λ i. ascending key_order (Name n ∷ (option_map_or end_keys (option_and_then (vector_of is_edge_name) (h i)) []
    ++ option_map_or (feature_keys c) (option_and_then feature_of (h i)) []))

-- the findings about a name by what the cell has under it
pub vector_found : (c : Cell) (n : RecName) (v : Vector) → lookup_record c n ≡ Some (V v) → findings_of_subject c (Rec n) ≡ findings_of_record c (V v)
unfolding findings_of_subject
vector_found c n v h = λ i. cond (is_some (listed_vector c n v h i)) (option_map_or (findings_of_record c) (h i) []) []

pub feature_found : (c : Cell) (n : RecName) (f : Feature) → lookup_record c n ≡ Some (F f) → findings_of_subject c (Rec n) ≡ findings_of_record c (F f)
unfolding findings_of_subject
feature_found c n f h = λ i. cond (is_some (listed_feature c n f h i)) (option_map_or (findings_of_record c) (h i) []) []

same_either : (b : Bool) (found : List Finding) → cond b found found ≡ found
same_either true found = refl
same_either false found = refl

pub findings_absent : (c : Cell) (n : RecName) → lookup_record c n ≡ None → findings_of_subject c (Rec n) ≡ []
unfolding findings_of_subject
findings_absent c n h = (λ i. cond (is_some (listed_record c n)) (option_map_or (findings_of_record c) (h i) []) [])
    ∙ same_either (is_some (listed_record c n)) []

pub findings_at_head : (c : Cell) (n : RecName) (head : CellHead) → lookup_record c n ≡ Some (H head) → findings_of_subject c (Rec n) ≡ []
unfolding findings_of_subject
findings_at_head c n head h = (λ i. cond (is_some (listed_record c n)) (option_map_or (findings_of_record c) (h i) []) [])
    ∙ same_either (is_some (listed_record c n)) []
