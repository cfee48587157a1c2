-- A cell after edits of vector records and of the features that point to some names.
use Rattle.std.proofs.Common.{◌≡◌, ℕ, ◌+◌, Bool, true, false, List, [], ◌∷◌, ◌++◌, Option, None, Some, cond, map, refl, sym, ap, ◌∙◌, arith}
use Rattle.std.specs.Prelude.{filter_map, not, option_and_then, option_map, sum_by}
use Rattle.std.specs.List.{cons_option, list_all}
use Rattle.std.specs.Option.{option_or}
use Rattle.std.proofs.lemmas.Bool.{and_parts, both_ways as contradiction, false_from_ne_true, not-true}
use Rattle.std.proofs.lemmas.List.{append-nil}
use Rattle.std.proofs.lemmas.List.Elements.{filter_map-append, recursion_from_All}
use Rattle.std.proofs.lemmas.List.Folds.{find-append}
use Rattle.std.proofs.lemmas.List.Sorted.{sum_by-IsPermutation}
use Rattle.std.proofs.lemmas.List.Sums.{sum_by-append, sum_by-cons}
use Rattle.s57_types.specs.Fitness.{unfitness}
use Rattle.s57_types.specs.declared.name.Kind.TheVariants.{Fe}
use Rattle.s57_types.specs.declared.name.RecName.{RecName}
use Rattle.s57_types.specs.declared.head.Head.{Head as CellHead}
use Rattle.s57_types.specs.declared.record.Feature.{Feature}
use Rattle.s57_types.specs.declared.record.Spot.{Spot}
use Rattle.s57_types.specs.declared.record.Vector.{Vector}
use Rattle.s57_types.specs.declared.record.Rec.{Rec}
use Rattle.s57_types.specs.declared.record.Rec.TheVariants.{V, F, H}
use Rattle.s57_types.specs.declared.cell.Cell.{Cell}
use Rattle.cell_spec.specs.declared.edit.Edit.{Edit}
use Rattle.cell_spec.specs.declared.edit.Edit.TheVariants.{Add, Set, Del, Head}
use Rattle.cell_spec.specs.Edits.{added_by, apply_edits, changed_by, edit_of, edited_record, name_of_edit}
use Rattle.cell_spec.specs.Lookup.{all_records, lookup_record}
use Rattle.cell_spec.specs.Names.{is_of_kind, same_name}
use Rattle.cell_spec.specs.Readable.{IsReadable}
use Rattle.cell_spec.proofs.Orders.{one_when_same}
use Rattle.edit_answers.specs.Named.{answered_by}
use Rattle.edit_answers.proofs.NamesAfter.{answer_named}
use Rattle.rule_spec.specs.declared.side.EdgeUse.{EdgeUse}
use Rattle.rule_spec.specs.Records.{feature_named, feature_of}
use Rattle.rule_spec.specs.Sides.{side_count, uses_of}
use Rattle.answer_laws.specs.EditedAnswers.{FindTheirRecords}
use Rattle.answer_laws.proofs.Among.{Among, known_of}
use Rattle.answer_laws.proofs.EditedNames.{names_after}
use Rattle.answer_laws.proofs.EditedRecords.{changed_in, records_moved}
use Rattle.topo_ops.specs.Features.{feature_edit, feature_with, features_at, names_pointing}
use Rattle.topo_ops.specs.FeatureTrace.{feature_trace, trace_named}
use Rattle.topo_ops.proofs.AscendingSums.{counted_in, sum_filter_map, sum_same}
use Rattle.topo_ops.proofs.FeatureEdits.{feature_edited, is_among, none_added}
use Rattle.topo_ops.proofs.Records.{feature_kind, is_feature, named_feature, no_head, vector_kind}
use Rattle.topo_ops.proofs.UseSums.{AreaClass, side_sum, uses_in}

-- an edit of a vector record: of no feature, and not of the head
abbrev pub is_of_vector : Edit → Bool
is_of_vector (Add (V v)) = not (is_of_kind Fe v.name)
is_of_vector (Add (F f)) = false
is_of_vector (Add (H h)) = false
is_of_vector (Set (V v)) = not (is_of_kind Fe v.name)
is_of_vector (Set (F f)) = false
is_of_vector (Set (H h)) = false
is_of_vector (Del n) = not (is_of_kind Fe n)
is_of_vector (Head e) = false

name_is_no_feature : (e : Edit) → is_of_vector e ≡ true → is_of_kind Fe (name_of_edit e) ≡ false
name_is_no_feature (Add (V v)) h = not-true (is_of_kind Fe v.name) h
name_is_no_feature (Add (F f)) h = cc
name_is_no_feature (Add (H x)) h = cc
name_is_no_feature (Set (V v)) h = not-true (is_of_kind Fe v.name) h
name_is_no_feature (Set (F f)) h = cc
name_is_no_feature (Set (H x)) h = cc
name_is_no_feature (Del n) h = not-true (is_of_kind Fe n) h
name_is_no_feature (Head e) h = cc

-- what such an edit, if there is one, leaves where there was no feature is no feature
no_feature_left : (h : CellHead) (o : Option Rec) (e : Option Edit) → option_and_then feature_of o ≡ None → counted_in (λ x. cond (is_of_vector x) 0 1) e ≡ 0
    → option_and_then feature_of (answered_by h o e) ≡ None
no_feature_left h o None none ok = none
no_feature_left h o (Some (Add (V v))) none ok = refl
no_feature_left h o (Some (Add (F f))) none ok = absurd (omega (arith, ok))
no_feature_left h o (Some (Add (H x))) none ok = refl
no_feature_left h o (Some (Set (V v))) none ok = refl
no_feature_left h o (Some (Set (F f))) none ok = absurd (omega (arith, ok))
no_feature_left h o (Some (Set (H x))) none ok = refl
no_feature_left h o (Some (Del n)) none ok = refl
no_feature_left h o (Some (Head e)) none ok = refl

-- the edit of a name among such edits is one
found_is_of_vector : (n : RecName) (lead : List Edit) → list_all is_of_vector lead ≡ true → counted_in (λ x. cond (is_of_vector x) 0 1) (edit_of n lead) ≡ 0
found_is_of_vector n [] all = refl
found_is_of_vector n (e ∷ lead) all =
    let parts = and_parts (is_of_vector e) (list_all is_of_vector lead) all in
    by (same_name (name_of_edit e) n) parts.0 (found_is_of_vector n lead parts.1)
  where
    by : (named : Bool) → is_of_vector e ≡ true → counted_in (λ x. cond (is_of_vector x) 0 1) (edit_of n lead) ≡ 0
        → counted_in (λ x. cond (is_of_vector x) 0 1) (cond named (Some e) (edit_of n lead)) ≡ 0
    by true ok later = ap (λ b. cond b 0 1) ok
    by false ok later = later

-- none of them is of a feature's name
none_of_feature : (n : RecName) (lead : List Edit) → list_all is_of_vector lead ≡ true → is_of_kind Fe n ≡ true → edit_of n lead ≡ None
none_of_feature n [] all kind = refl
none_of_feature n (e ∷ lead) all kind =
    let parts = and_parts (is_of_vector e) (list_all is_of_vector lead) all in
    let other : same_name (name_of_edit e) n ≡ false =
    false_from_ne_true (same_name (name_of_edit e) n) (λ same.
    contradiction (is_of_kind Fe (name_of_edit e)) (name_is_no_feature e parts.0) (ap (is_of_kind Fe) (one_when_same (name_of_edit e) n same) ∙ kind)) in
    ap (λ b. cond b (Some e) (edit_of n lead)) other ∙ none_of_feature n lead parts.1 kind

or_none : {X : Type 0} (o : Option X) → option_or o None ≡ o
or_none None = refl
or_none (Some x) = refl

no_change : {X : Type 0} {Y : Type 0} (g : X → Y) (b : Bool) → option_map g (cond b None None) ≡ None
no_change g true = refl
no_change g false = refl

-- ---- the cell after the edits
module _ (c : Cell) (readable : IsReadable c) (lead : List Edit) (vectors : list_all is_of_vector lead ≡ true) (change : List Spot → List Spot)
    (targets : List RecName) where
  abbrev pub edits : List Edit
  edits = lead ++ map (feature_edit change) (features_at c targets)

  abbrev points : RecName → Bool
  points n = is_among (names_pointing c targets) n

  -- what becomes of a feature
  abbrev pub reworked : Feature → Feature
  reworked f = cond (points f.name) (feature_with (change f.places) f) f

  edit_is : (n : RecName) → edit_of n edits ≡ option_or (edit_of n lead) (option_map (feature_edit change) (cond (points n) (feature_named c n) None))
  edit_is n =
      find-append (λ edit. same_name (name_of_edit edit) n) lead (map (feature_edit change) (features_at c targets))
      ∙ ap (option_or (edit_of n lead)) (feature_edited change c n targets)

  edit_of_no_feature : (n : RecName) → feature_named c n ≡ None → edit_of n edits ≡ edit_of n lead
  edit_of_no_feature n none =
      edit_is n ∙ ap (λ o. option_or (edit_of n lead) (option_map (feature_edit change) (cond (points n) o None))) none
      ∙ ap (option_or (edit_of n lead)) (no_change (feature_edit change) (points n)) ∙ or_none (edit_of n lead)

  fits : (r : Rec) → Among r (all_records c) → unfitness c.head.nall r ≡ None
  fits r at = known_of (λ s. unfitness c.head.nall s ≡ None) r (all_records c)
      (recursion_from_All (λ s. unfitness c.head.nall s ≡ None) (all_records c) readable.fit) at

  edit_of_feature : (f : Feature) → Among (F f) (all_records c) → feature_named c f.name ≡ Some f
      → edit_of f.name edits ≡ cond (points f.name) (Some (feature_edit change f)) None
  edit_of_feature f at named =
      edit_is f.name
      ∙ ap (λ o. option_or o (option_map (feature_edit change) (cond (points f.name) (feature_named c f.name) None)))
      (none_of_feature f.name lead vectors (feature_kind c.head.nall f (fits (F f) at)))
      ∙ ap (λ o. option_map (feature_edit change) (cond (points f.name) o None)) named
      ∙ mapped (points f.name)
    where
      mapped : (b : Bool) → option_map (feature_edit change) (cond b (Some f) None) ≡ cond b (Some (feature_edit change f)) None
      mapped true = refl
      mapped false = refl

  module _ (fit : FindTheirRecords edits c) where
    abbrev d : Cell
    d = apply_edits edits c

    -- ---- what a name has
    feature_by : (f : Feature) (b : Bool)
        → option_and_then feature_of (answered_by c.head (Some (F f)) (cond b (Some (feature_edit change f)) None)) ≡ Some (cond b (feature_with
        (change f.places) f) f)
    feature_by f true = refl
    feature_by f false = refl

    after_by : (n : RecName) (o : Option Feature) → feature_named c n ≡ o → feature_named d n ≡ option_map reworked o
    after_by n None none =
        ap (option_and_then feature_of) (answer_named edits c fit n ∙ ap (answered_by c.head (lookup_record c n)) (edit_of_no_feature n none))
        ∙ no_feature_left c.head (lookup_record c n) (edit_of n lead) none (found_is_of_vector n lead vectors)
    after_by n (Some f) named =
        let there = is_feature c n f named in
        let own : feature_named c f.name ≡ Some f = ap (feature_named c) there.name_is ∙ named in
        let edit : edit_of n edits ≡ cond (points f.name) (Some (feature_edit change f)) None =
        ap (λ m. edit_of m edits) (sym there.name_is) ∙ edit_of_feature f there.among own in
        ap (option_and_then feature_of)
        (answer_named edits c fit n ∙ (λ i. answered_by c.head (there.found_is i) (edit i)))
        ∙ feature_by f (points f.name)

    -- the features of the edited cell
    pub feature_after : (n : RecName) → feature_named d n ≡ option_map reworked (feature_named c n)
    feature_after n = after_by n (feature_named c n) refl

    trace_by : ((f : Feature) → feature_named c f.name ≡ Some f → Among (F f) (all_records c) → feature_trace d (reworked f) ≡ feature_trace c f)
        → (n : RecName) (o : Option Feature) → feature_named c n ≡ o
        → option_map (feature_trace d) (option_map reworked o) ≡ option_map (feature_trace c) o
    trace_by each n None named = refl
    trace_by each n (Some f) named =
        let there = is_feature c n f named in
        ap (λ trace. Some trace) (each f (ap (feature_named c) there.name_is ∙ named) there.among)

    -- each name's trace is kept where each feature keeps its own
    pub traces_kept : ((f : Feature) → feature_named c f.name ≡ Some f → Among (F f) (all_records c) → feature_trace d (reworked f) ≡ feature_trace c f)
        → (n : RecName) → trace_named d n ≡ trace_named c n
    traces_kept each n = ap (option_map (feature_trace d)) (feature_after n) ∙ trace_by each n (feature_named c n) refl

    no_feature_by : (n : RecName) (o : Option Feature) → is_of_kind Fe n ≡ false → feature_named c n ≡ o → o ≡ None
    no_feature_by n None kind is = refl
    no_feature_by n (Some f) kind is =
        let there = is_feature c n f is in
        absurd (contradiction (is_of_kind Fe n) kind (ap (is_of_kind Fe) (sym there.name_is) ∙ feature_kind c.head.nall f (fits (F f) there.among)))

    -- the record of any name that isn't a feature's
    pub vector_after : (n : RecName) → is_of_kind Fe n ≡ false → lookup_record d n ≡ answered_by c.head (lookup_record c n) (edit_of n lead)
    vector_after n kind =
        answer_named edits c fit n
        ∙ ap (answered_by c.head (lookup_record c n)) (edit_of_no_feature n (no_feature_by n (feature_named c n) kind refl))

    -- ---- sums
    module _ (of_use : EdgeUse → Bool) (of_feature : Feature → Bool) (class : AreaClass of_use of_feature) (ornt : ℕ) (n m : RecName)
        (same : (f : Feature) → Among (F f) (all_records c) → uses_in of_feature ornt n (F (reworked f)) ≡ uses_in of_feature ornt m (F f)) where
      abbrev w : Rec → ℕ
      w = uses_in of_feature ornt n

      vector_counts : (v : Vector) (e : Option Edit) → counted_in (λ x. cond (is_of_vector x) 0 1) e ≡ 0 → counted_in w (changed_by (V v) e) ≡ 0
      vector_counts v None ok = refl
      vector_counts v (Some (Add (V x))) ok = refl
      vector_counts v (Some (Add (F x))) ok = refl
      vector_counts v (Some (Add (H x))) ok = refl
      vector_counts v (Some (Set (V x))) ok = refl
      vector_counts v (Some (Set (F x))) ok = absurd (omega (arith, ok))
      vector_counts v (Some (Set (H x))) ok = refl
      vector_counts v (Some (Del x)) ok = refl
      vector_counts v (Some (Head x)) ok = refl

      feature_counts : (f : Feature) (b : Bool)
          → counted_in w (changed_by (F f) (cond b (Some (feature_edit change f)) None)) ≡ w (F (cond b (feature_with (change f.places) f) f))
      feature_counts f true = refl
      feature_counts f false = refl

      each : (r : Rec) → Among r (all_records c) → counted_in w (edited_record edits r) ≡ uses_in of_feature ornt m r
      each (V v) at =
          let none = no_feature_by v.name (feature_named c v.name) (vector_kind c.head.nall v (fits (V v) at)) refl in
          ap (λ e. counted_in w (changed_by (V v) e)) (edit_of_no_feature v.name none)
          ∙ vector_counts v (edit_of v.name lead) (found_is_of_vector v.name lead vectors)
      each (F f) at =
          let named = named_feature c fit.names f at in
          ap (λ e. counted_in w (changed_by (F f) e)) (edit_of_feature f at named) ∙ feature_counts f (points f.name) ∙ same f at
      each (H h) at = absurd (no_head c.head.nall (H h) (fits (H h) at) (record c { head = h }) refl)

      added_by_one : (e : Edit) (rs : List Rec) → is_of_vector e ≡ true → sum_by w rs ≡ 0 → sum_by w (cons_option (added_by e) rs) ≡ 0
      added_by_one (Add (V v)) rs ok none = let sum = sum_by-cons w (V v) rs in omega (arith, sum, none)
      added_by_one (Add (F f)) rs ok none = cc
      added_by_one (Add (H h)) rs ok none = cc
      added_by_one (Set r) rs ok none = none
      added_by_one (Del k) rs ok none = none
      added_by_one (Head e) rs ok none = none

      added_none : (es : List Edit) → list_all is_of_vector es ≡ true → sum_by w (filter_map added_by es) ≡ 0
      added_none [] all = refl
      added_none (e ∷ es) all =
          let parts = and_parts (is_of_vector e) (list_all is_of_vector es) all in added_by_one e (filter_map added_by es) parts.0 (added_none es parts.1)

      added_counts : sum_by w (filter_map added_by edits) ≡ 0
      added_counts =
          ap (sum_by w) (filter_map-append added_by lead (map (feature_edit change) (features_at c targets))
          ∙ ap (λ rs. filter_map added_by lead ++ rs) (none_added change c (features_at c targets)) ∙ append-nil (filter_map added_by lead))
          ∙ added_none lead vectors

      -- how often such areas use the one edge in the edited cell is how often they used the other
      pub side_after : side_count of_use ornt (uses_of d n) ≡ side_count of_use ornt (uses_of c m)
      side_after =
          let after = all_records d in
          let parts = changed_in edits (all_records c) ++ filter_map added_by edits in
          side_sum of_use of_feature class ornt n d (names_after edits c fit)
          ∙ sym (sum_by-IsPermutation w after parts (records_moved edits c fit.placed))
          ∙ sum_by-append w (changed_in edits (all_records c)) (filter_map added_by edits)
          ∙ (λ i. (sum_filter_map w (edited_record edits) (all_records c)
          ∙ sum_same (λ r. counted_in w (edited_record edits r)) (uses_in of_feature ornt m) (all_records c) each) i + added_counts i)
          ∙ (let total : sum_by (uses_in of_feature ornt m) (all_records c) + 0 ≡ sum_by (uses_in of_feature ornt m) (all_records c) = omega arith in total)
          ∙ sym (side_sum of_use of_feature class ornt m c fit.names)
