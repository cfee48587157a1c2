-- How often areas use an edge, as a sum over the records of a cell.
use Rattle.std.proofs.Common.{◌≡◌, ℕ, ◌+◌, ◌-◌, Bool, true, false, ◌&&◌, List, [], ◌∷◌, None, Some, cond, drop, filter, map, refl, sym, ap, ◌∙◌, arith}
use Rattle.std.specs.Prelude.{◌==◌, flat_map, option_and_then, option_map, slice_get, sum_by}
use Rattle.std.specs.List.{IsDistinct, enumerate_from}
use Rattle.std.proofs.lemmas.List.{drop-drop}
use Rattle.std.proofs.lemmas.List.Sums.{sum_by-cons}
use Rattle.s57_types.specs.declared.name.RecName.{RecName}
use Rattle.s57_types.specs.declared.record.Feature.{Feature}
use Rattle.s57_types.specs.declared.record.Spot.{Spot}
use Rattle.s57_types.specs.declared.record.Rec.{Rec}
use Rattle.s57_types.specs.declared.record.Rec.TheVariants.{V, F, H}
use Rattle.s57_types.specs.declared.cell.Cell.{Cell}
use Rattle.cell_spec.specs.declared.key.Ref.{Ref}
use Rattle.cell_spec.specs.Lookup.{all_records, head_and_records, lookup_pointers, pointers_at, pointers_in, targets_of}
use Rattle.cell_spec.specs.Names.{ref_order, same_name}
use Rattle.cell_spec.specs.Writable.{HaveDistinctNames}
use Rattle.cell_spec.proofs.Orders.{exact_refs, total_refs}
use Rattle.rule_spec.specs.declared.side.EdgeUse.{EdgeUse}
use Rattle.rule_spec.specs.Records.{feature_named, feature_of}
use Rattle.rule_spec.specs.Sides.{side_count, use_by, use_of_row, uses_of}
use Rattle.answer_laws.proofs.Among.{Among}
use Rattle.topo_ops.specs.Features.{feature_with}
use Rattle.topo_ops.proofs.AscendingSums.{counted_in, sum_ascending, sum_filter_map, sum_flat, sum_same}
use Rattle.topo_ops.proofs.PlaceCounts.{counted, is_counted}
use Rattle.topo_ops.proofs.Pointers.{distinct_pointers, got, pointer_at, with_first}
use Rattle.topo_ops.proofs.Records.{finds_own, named_feature}

-- a class of areas, as uses of edges and as features
pub record AreaClass (of_use : EdgeUse → Bool) (of_feature : Feature → Bool) : Type 0 where
  pub agree : (r : Ref) (f : Feature) (s : Spot) → of_use (use_of_row r f s) ≡ of_feature f
  pub keeps : (places : List Spot) (f : Feature) → of_feature (feature_with places f) ≡ of_feature f

-- whether its places change or not, a feature stays what it is
pub class_kept : (of_use : EdgeUse → Bool) (of_feature : Feature → Bool) → AreaClass of_use of_feature → (places : List Spot) (f : Feature) (b : Bool)
    → of_feature (cond b (feature_with places f) f) ≡ of_feature f
class_kept of_use of_feature class places f true = class.keeps places f
class_kept of_use of_feature class places f false = refl

-- how often a record uses an edge with an orientation, where it is an area of the class
abbrev pub uses_in : (Feature → Bool) → ℕ → RecName → Rec → ℕ
uses_in of_feature ornt n (V v) = 0
uses_in of_feature ornt n (F f) = counted n (λ k. of_feature f && (k == ornt)) f.places
uses_in of_feature ornt n (H h) = 0

module _ (of_use : EdgeUse → Bool) (of_feature : Feature → Bool) (class : AreaClass of_use of_feature) (ornt : ℕ) (n : RecName) where
  abbrev is_used : EdgeUse → Bool
  is_used u = of_use u && (u.ornt == ornt)

  abbrev used : EdgeUse → ℕ
  used u = cond (is_used u) 1 0

  module _ (c : Cell) where
    weight : Ref → ℕ
    weight r = counted_in used (use_by c r)

    -- no feature has a vector record's name
    no_use : (r : Ref) → feature_named c r.from ≡ None → weight r ≡ 0
    unfolding weight
    no_use r none = ap (λ o. counted_in used (option_and_then (λ (f : Feature). option_map (use_of_row r f) (slice_get f.places (r.place - 1))) o)) none

    no_uses : (from : RecName) → feature_named c from ≡ None → (ps : List (ℕ × RecName))
        → sum_by weight (map (pointer_at from) ps) ≡ 0
    no_uses from none [] = refl
    no_uses from none (p ∷ ps) =
        let here = no_use (pointer_at from p) none in
        let rest = no_uses from none ps in
        let all = sum_by-cons weight (pointer_at from p) (map (pointer_at from) ps) in
        omega (arith, here, rest, all)

    module _ (f : Feature) (found : feature_named c f.name ≡ Some f) where
      abbrev turns : ℕ → Bool
      turns k = of_feature f && (k == ornt)

      use_at : (k : ℕ) (s : Spot) (ps : List Spot) → drop k f.places ≡ s ∷ ps → weight (record { from = f.name; place = k + 1 }) ≡ cond (turns s.ornt) 1 0
      unfolding weight
      use_at k s ps at =
          let r : Ref = record { from = f.name; place = k + 1 } in
          let before : k + 1 - 1 ≡ k = omega arith in
          let there : slice_get f.places (k + 1 - 1) ≡ Some s = ap (slice_get f.places) before ∙ sym (got f.places k) ∙ ap (λ xs. slice_get xs 0) at in
          ap (λ o. counted_in used (option_and_then (λ (g : Feature). option_map (use_of_row r g) (slice_get g.places (k + 1 - 1))) o)) found
          ∙ ap (λ o. counted_in used (option_map (use_of_row r f) o)) there
          ∙ ap (λ b. cond (b && (s.ornt == ornt)) 1 0) (class.agree r f s)

      uses_by : (k : ℕ) (s : Spot) (ps : List Spot) (named : Bool) → drop k f.places ≡ s ∷ ps
          → sum_by weight (pointers_at n (F f) (k + 1 + 1) (map (λ (t : Spot). t.to) ps)) ≡ counted n turns ps
          → sum_by weight (with_first n (F f) named (k + 1) s.to (map (λ (t : Spot). t.to) ps)) ≡ cond (named && turns s.ornt) 1 0 + counted n turns ps
      uses_by k s ps true at rest =
          sum_by-cons weight (pointer_at f.name (k + 1, s.to)) (pointers_at n (F f) (k + 1 + 1) (map (λ (t : Spot). t.to) ps))
          ∙ (λ i. use_at k s ps at i + rest i)
      uses_by k s ps false at rest = omega (arith, rest)

      uses_from : (k : ℕ) (ps : List Spot) → drop k f.places ≡ ps
          → sum_by weight (pointers_at n (F f) (k + 1) (map (λ (t : Spot). t.to) ps)) ≡ counted n turns ps
      uses_from k [] at = refl
      uses_from k (s ∷ ps) at =
          uses_by k s ps (same_name n s.to) at (uses_from (k + 1) ps (sym (drop-drop 1 k f.places) ∙ ap (drop 1) at))
          ∙ sym (sum_by-cons (λ (t : Spot). cond (is_counted n turns t) 1 0) s ps)

    uses_of_record : HaveDistinctNames (head_and_records c) → (r : Rec) → Among r (all_records c)
        → sum_by weight (pointers_in n r) ≡ uses_in of_feature ornt n r
    uses_of_record names (V v) at =
        no_uses v.name (ap (option_and_then feature_of) (finds_own c names (V v) at))
        (filter (λ (p : ℕ × RecName). same_name n p.1) (enumerate_from 1 (targets_of (V v))))
    uses_of_record names (F f) at = uses_from f (named_feature c names f at) 0 f.places refl
    uses_of_record names (H h) at = refl

    -- the uses of an edge are those of the cell's records
    pub side_sum : HaveDistinctNames (head_and_records c) → side_count of_use ornt (uses_of c n) ≡ sum_by (uses_in of_feature ornt n) (all_records c)
    unfolding uses_of weight IsDistinct
    side_sum names =
        sum_filter_map used (use_by c) (lookup_pointers c n)
        ∙ sum_ascending ref_order total_refs exact_refs weight (flat_map (pointers_in n) (all_records c)) (distinct_pointers n (all_records c) names.1)
        ∙ sum_flat weight (pointers_in n) (all_records c)
        ∙ sum_same (λ r. sum_by weight (pointers_in n r)) (uses_in of_feature ornt n) (all_records c) (uses_of_record names)
