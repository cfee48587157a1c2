-- The uses of an edge, summed: what the rows of features that name it add up to.
use Rattle.std.proofs.Common.{◌≡◌, ℕ, ◌+◌, ◌-◌, ◌<◌, Bool, true, false, List, [], ◌∷◌, ◌++◌, Option, None, Some, cond, map, filter, length}
use Rattle.std.proofs.Common.{length-append, append_assoc, refl, sym, ap, ◌∙◌, ℤ, pos, ◌+ℤ◌, arith}
use Rattle.std.specs.Prelude.{slice_get, option_map, option_and_then, filter_map, flat_map}
use Rattle.std.specs.Option.{option_map_or}
use Rattle.std.specs.Ordering.{is_eq}
use Rattle.std.specs.Cmp.{Equal-is}
use Rattle.std.specs.List.{AllByRecursion, IsDistinct, enumerate_from}
use Rattle.s57_types.specs.declared.name.RecName.{RecName}
use Rattle.s57_types.specs.declared.record.Feature.{Feature}
use Rattle.s57_types.specs.declared.record.Rec.{Rec}
use Rattle.s57_types.specs.declared.record.Rec.TheVariants.{V, F, H}
use Rattle.s57_types.specs.declared.record.Spot.{Spot}
use Rattle.s57_types.specs.declared.cell.Cell.{Cell}
use Rattle.cell_spec.specs.declared.key.Ref.{Ref}
use Rattle.cell_spec.specs.Lookup.{all_records, lookup_pointers, name_of, pointers_at, pointers_in, targets_of}
use Rattle.cell_spec.specs.Names.{ref_order, same_name}
use Rattle.cell_spec.specs.Writable.{IsWritable}
use Rattle.cell_spec.proofs.Orders.{exact_refs, total_refs}
use Rattle.rule_spec.specs.declared.side.EdgeUse.{EdgeUse}
use Rattle.rule_spec.specs.Features.{target}
use Rattle.rule_spec.specs.Records.{feature_named, feature_of}
use Rattle.rule_spec.specs.Sides.{use_by, use_of_row, uses_of}
use Rattle.answer_laws.proofs.Among.{Among, mapped, no_tie}
use Rattle.answer_laws.proofs.Distinct.{distinct_both}
use Rattle.finding_laws.proofs.Lists.{flattened}
use Rattle.skin_probe.specs.Winding.{sum_of}
use Rattle.skin_probe.proofs.Named.{named_same, no_feature_before, own_feature}
use Rattle.skin_probe.proofs.Sums.{sum_appended, sum_ascending, sum_filtered, sum_flat, sum_mapped, sum_none, sum_picked, sum_same, zero_plus}

-- ---- no two pointers to a name are one
abbrev tie : Ref → Ref → Bool
tie a b = is_eq (ref_order a b)

apart_by : (a b : Ref) (found : Bool) → tie a b ≡ found → (a ≡ b → ⊥) → found ≡ false
apart_by a b true e apart = absurd (apart (exact_refs a b ((Equal-is (ref_order a b)).0 e)))
apart_by a b false e apart = refl

apart_refs : (a b : Ref) → (a ≡ b → ⊥) → tie a b ≡ false
apart_refs a b apart = apart_by a b (tie a b) refl apart

apart_names : (a b : Ref) → same_name a.from b.from ≡ false → a ≡ b → ⊥
apart_names a b apart e = let same = ap (λ (r : Ref). same_name r.from b.from) e in let own = named_same b.from in cc

module _ (n : RecName) (r : Rec) where
  abbrev at_place : ℕ × RecName → Ref
  at_place p = record { from = name_of r; place = p.0 }

  abbrev is_to : ℕ × RecName → Bool
  is_to p = same_name n p.1

  above_by : (low first : ℕ) (t : RecName) (rest : List (ℕ × RecName)) (named : Bool) → low < first
      → AllByRecursion (λ q. tie (at_place (low, n)) q ≡ false) (map at_place rest)
      → AllByRecursion (λ q. tie (at_place (low, n)) q ≡ false) (map at_place (cond named ((first, t) ∷ rest) rest))
  above_by low first t rest true below later =
      (apart_refs (at_place (low, n)) (at_place (first, t)) (λ e. omega (arith, below, ap (λ (q : Ref). q.place) e)), later)
  above_by low first t rest false below later = later

  -- the pointers from a place on are none at a place before
  places_above : (low first : ℕ) (targets : List RecName) → low < first
      → AllByRecursion (λ q. tie (at_place (low, n)) q ≡ false) (pointers_at n r first targets)
  places_above low first [] below = tt
  places_above low first (t ∷ targets) below =
      above_by low first t (filter is_to (enumerate_from (first + 1) targets)) (is_to (first, t)) below
      (places_above low (first + 1) targets (omega (arith, below)))

  distinct_by : (first : ℕ) (t : RecName) (rest : List (ℕ × RecName)) (named : Bool)
      → AllByRecursion (λ q. tie (at_place (first, t)) q ≡ false) (map at_place rest) → IsDistinct tie (map at_place rest)
      → IsDistinct tie (map at_place (cond named ((first, t) ∷ rest) rest))
  unfolding IsDistinct
  distinct_by first t rest true above later = (above, later)
  distinct_by first t rest false above later = later

  distinct_places : (first : ℕ) (targets : List RecName) → IsDistinct tie (pointers_at n r first targets)
  unfolding IsDistinct
  distinct_places first [] = tt
  distinct_places first (t ∷ targets) =
      distinct_by first t (filter is_to (enumerate_from (first + 1) targets)) (is_to (first, t))
      (places_above first (first + 1) targets (omega arith)) (distinct_places (first + 1) targets)

  -- a pointer is of its record
  from_is : (q : Ref) → Among q (pointers_in n r) → q.from ≡ name_of r
  from_is q at = let made = mapped at_place q (filter is_to (enumerate_from 1 (targets_of r))) at in sym (ap (λ (z : Ref). z.from) made.gives)

distinct_pointers : (n : RecName) (rs : List Rec) → IsDistinct same_name (map name_of rs) → IsDistinct tie (flat_map (pointers_in n) rs)
unfolding IsDistinct
distinct_pointers n [] all = tt
distinct_pointers n (r ∷ rs) all =
    distinct_both tie (pointers_in n r) (flat_map (pointers_in n) rs) (distinct_places n r 1 (targets_of r)) (distinct_pointers n rs all.1)
    (λ a b at there.
    let other = flattened (pointers_in n) b rs there in
    let names = (λ i. same_name (from_is n r a at i) (from_is n other.item b other.gives i)) ∙
    no_tie same_name name_of (name_of r) other.item rs all.0 other.among in
    apart_refs a b (apart_names a b names))

-- ---- a place of a list
got_behind : (before : List Spot) (s : Spot) (rest : List Spot) → slice_get (before ++ s ∷ rest) (length before) ≡ Some s
got_behind [] s rest = refl
got_behind (x ∷ before) s rest = got_behind before s rest

module _ (c : Cell) (w : IsWritable c) (n : RecName) (part : EdgeUse → ℤ) (share : Feature → Spot → ℤ)
    (is_share : (r : Ref) (f : Feature) (s : Spot) → part (use_of_row r f s) ≡ share f s) where
  -- what a pointer adds, by the feature that has it
  abbrev by_feature : Ref → Option Feature → ℤ
  by_feature r f = option_map_or part (option_and_then (λ (g : Feature). option_map (use_of_row r g) (slice_get g.places (r.place - 1))) f) (pos 0)

  abbrev pointer_part : Ref → ℤ
  pointer_part r = by_feature r (feature_named c r.from)

  -- what a row adds, if it names the edge
  abbrev row_share : Feature → Spot → ℤ
  row_share f s = cond (same_name n s.to) (share f s) (pos 0)

  abbrev pub feature_share : Feature → ℤ
  feature_share f = sum_of (row_share f) f.places

  abbrev record_share : Rec → ℤ
  record_share r = option_map_or feature_share (feature_of r) (pos 0)

  -- what the rows of a feature from a place on add
  abbrev row_part : Feature → List Spot → ℕ → ℤ
  row_part f places place =
      option_map_or part (option_map (use_of_row (record { from = f.name; place = place }) f) (slice_get places (place - 1))) (pos 0)

  rows_by : (f : Feature) (before rest : List Spot) (first : ℕ) → first ≡ length before + 1
      → sum_of (λ (p : ℕ × RecName). cond (same_name n p.1) (row_part f (before ++ rest) p.0) (pos 0)) (enumerate_from first (map target rest))
      ≡ sum_of (row_share f) rest
  rows_by f before [] first e = refl
  rows_by f before (s ∷ rest) first e =
      let here : first - 1 ≡ length before = omega (arith, e) in
      let got = ap (slice_get (before ++ s ∷ rest)) here ∙ got_behind before s rest in
      let own = ap (λ o. option_map_or part (option_map (use_of_row (record { from = f.name; place = first }) f) o) (pos 0)) got
      ∙ is_share (record { from = f.name; place = first }) f s in
      let later = rows_by f (before ++ s ∷ []) rest (first + 1) (omega (arith, e, length-append before (s ∷ []))) in
      let moved = ap (λ (all : List Spot).
      sum_of (λ (p : ℕ × RecName). cond (same_name n p.1) (row_part f all p.0) (pos 0)) (enumerate_from (first + 1) (map target rest)))
      (append_assoc before (s ∷ []) rest) in
      λ i. cond (same_name n s.to) (own i) (pos 0) +ℤ (sym moved ∙ later) i

  -- what the pointers of a record add
  feature_rows : (f : Feature) → Among (F f) (all_records c) → sum_of pointer_part (pointers_in n (F f)) ≡ feature_share f
  feature_rows f at =
      let named : feature_named c f.name ≡ Some f = own_feature c w (F f) at in
      sum_mapped pointer_part (at_place n (F f)) (filter (is_to n (F f)) (enumerate_from 1 (map target f.places)))
      ∙ sum_filtered (λ p. pointer_part (at_place n (F f) p)) (is_to n (F f)) (enumerate_from 1 (map target f.places))
      ∙ ap (λ o. sum_of (λ (p : ℕ × RecName). cond (same_name n p.1) (by_feature (record { from = f.name; place = p.0 }) o) (pos 0))
      (enumerate_from 1 (map target f.places))) named
      ∙ rows_by f [] f.places 1 refl

  no_rows : (r : Rec) → feature_named c (name_of r) ≡ None → sum_of pointer_part (pointers_in n r) ≡ pos 0
  no_rows r none = sum_none pointer_part (pointers_in n r) (λ q at. ap (by_feature q) (ap (feature_named c) (from_is n r q at) ∙ none))

  record_rows : (r : Rec) → Among r (all_records c) → sum_of pointer_part (pointers_in n r) ≡ record_share r
  record_rows (V v) at = no_rows (V v) (own_feature c w (V v) at)
  record_rows (F f) at = feature_rows f at
  record_rows (H h) at = refl

  features_alone : sum_of record_share (all_records c) ≡ sum_of feature_share (filter_map feature_of c.fe)
  features_alone =
      let vectors = c.vi ++ c.vc ++ c.ve in
      let none = sum_none record_share vectors (λ r at. ap (λ o. option_map_or feature_share o (pos 0)) (no_feature_before c w r at)) in
      sum_appended record_share vectors c.fe ∙ ap (λ s. s +ℤ sum_of record_share c.fe) none ∙ zero_plus (sum_of record_share c.fe)
      ∙ sym (sum_picked feature_share feature_of c.fe)

  -- the uses of an edge add up to what the rows of all features add
  pub uses_sum : sum_of part (uses_of c n) ≡ sum_of feature_share (filter_map feature_of c.fe)
  unfolding uses_of
  uses_sum =
      sum_picked part (use_by c) (lookup_pointers c n)
      ∙ sum_ascending ref_order total_refs exact_refs pointer_part (flat_map (pointers_in n) (all_records c))
      (distinct_pointers n (all_records c) w.names_distinct)
      ∙ sum_flat pointer_part (pointers_in n) (all_records c)
      ∙ sum_same (λ r. sum_of pointer_part (pointers_in n r)) record_share (all_records c) record_rows
      ∙ features_alone
