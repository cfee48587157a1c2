-- What a writable cell has under the names of its records.
use Rattle.std.proofs.Common.{◌≡◌, ◌⊎◌, subst, ◌==◌, ◌&&◌, Bool, true, false, List, ◌++◌, Option, None, Some, cond, map, true≢false, refl, sym, ap}
use Rattle.std.proofs.Common.{◌∙◌, inl, inr}
use Rattle.std.specs.Prelude.{option_and_then}
use Rattle.std.specs.Cmp.{eq_by_cmp_equiv}
use Rattle.std.specs.List.{IsDistinct}
use Rattle.std.proofs.lemmas.List.{map-append}
use Rattle.std.proofs.lemmas.List.Elements.{recursion_from_All}
use Rattle.s57_types.specs.Fitness.{is_feature_kind, is_vector_kind}
use Rattle.s57_types.specs.Heads.{head_name}
use Rattle.s57_types.specs.declared.name.Kind.{Kind}
use Rattle.s57_types.specs.declared.name.Kind.TheVariants.{Vi, Vc, Ve, Fe, Head}
use Rattle.s57_types.specs.declared.name.RecName.{RecName}
use Rattle.s57_types.specs.declared.record.Vector.{Vector}
use Rattle.s57_types.specs.declared.record.Rec.{Rec}
use Rattle.s57_types.specs.declared.record.Rec.TheVariants.{V, F, H}
use Rattle.s57_types.specs.declared.cell.Cell.{Cell}
use Rattle.cell_spec.specs.Lookup.{all_records, head_and_records, is_named, lookup_record, name_of}
use Rattle.cell_spec.specs.Names.{kind_rank, same_name}
use Rattle.cell_spec.specs.Writable.{AreOfKind, IsWritable}
use Rattle.cell_spec.proofs.Orders.{names_tie, one_when_same, same_from_either, total_names}
use Rattle.rule_spec.specs.Records.{edge_named, feature_named, feature_of, is_edge_name, vector_of}
use Rattle.answer_laws.proofs.Among.{Among, among_append, among_map, found, found_only, in_front, known_of, one_of_name}
use Rattle.answer_laws.proofs.Distinct.{distinct_back, distinct_front}
use Rattle.cell_findings.proofs.WritableLists.{all_well_named, is_well_named}

pub named_same : (n : RecName) → same_name n n ≡ true
named_same n = sym (names_tie n n) ∙ (eq_by_cmp_equiv total_names).refl n

-- ---- no record has the head's name
apart : (passes : Kind → Bool) → passes Head ≡ false → (k : Kind) → passes k ≡ true → (kind_rank Head == kind_rank k) ≡ false
apart passes fails Vi e = refl
apart passes fails Vc e = refl
apart passes fails Ve e = refl
apart passes fails Fe e = refl
apart passes fails Head e = cc

no_head : (r : Rec) → is_well_named r ≡ true → same_name head_name (name_of r) ≡ false
no_head (V v) e = ap (λ b. b && (head_name.id == v.name.id)) (apart is_vector_kind refl v.name.kind e)
no_head (F f) e = ap (λ b. b && (head_name.id == f.name.id)) (apart is_feature_kind refl f.name.kind e)
no_head (H h) e = cc

-- ---- a list of one kind that isn't that of features has no feature
no_feature : (k : Kind) → is_feature_kind k ≡ false → (r : Rec) → is_well_named r ≡ true → (name_of r).kind ≡ k → feature_of r ≡ None
no_feature k other (V v) well is = refl
no_feature k other (F f) well is = absurd (true≢false (sym well ∙ ap is_feature_kind is ∙ other))
no_feature k other (H h) well is = refl

-- a list of one kind that isn't that of edges has no edge
no_edge_kind : (k : Kind) → (kind_rank k == kind_rank Ve) ≡ false → (r : Rec) → (name_of r).kind ≡ k → is_edge_name (name_of r) ≡ true → ⊥
no_edge_kind k other r is edge = true≢false (sym edge ∙ ap (λ z. kind_rank z == kind_rank Ve) is ∙ other)

module _ (c : Cell) (w : IsWritable c) where
  only_of_name : (r : Rec) → Among r (all_records c) → (y : Rec) → Among y (head_and_records c) → is_named (name_of r) y ≡ true → y ≡ r
  only_of_name r at y (inl is) e =
      let well = known_of (λ z. is_well_named z ≡ true) r (all_records c) (all_well_named c w) at in
      absurd (true≢false (sym e ∙ same_from_either (name_of r) (name_of y) ∙ ap (λ z. same_name (name_of z) (name_of r)) (sym is) ∙ no_head r well))
  only_of_name r at y (inr there) e = sym (one_of_name same_name same_from_either name_of (all_records c) w.names_distinct r y at there e)

  -- each record is found by its name
  looked_up : (r : Rec) → Among r (all_records c) → lookup_record c (name_of r) ≡ Some r
  looked_up r at = found_only (is_named (name_of r)) (head_and_records c) r (inr at) (named_same (name_of r)) (only_of_name r at)

  pub own_feature : (r : Rec) → Among r (all_records c) → feature_named c (name_of r) ≡ feature_of r
  own_feature r at = ap (option_and_then feature_of) (looked_up r at)

  -- ---- the lists
  of_kind : (k : Kind) (rs : List Rec) → AreOfKind k rs → (r : Rec) → Among r rs → (name_of r).kind ≡ k
  of_kind k rs all r at = known_of (λ z. (name_of z).kind ≡ k) r rs (recursion_from_All (λ z. (name_of z).kind ≡ k) rs all) at

  abbrev vectors : List Rec
  vectors = c.vi ++ c.vc ++ c.ve

  kind_in : (r : Rec) → Among r vectors → ((name_of r).kind ≡ Vi) ⊎ ((name_of r).kind ≡ Vc) ⊎ ((name_of r).kind ≡ Ve)
  kind_in r at = elim (among_append r (c.vi ++ c.vc) c.ve at) [
    | inl nodes ↦ elim (among_append r c.vi c.vc nodes) [
      | inl here ↦ inl (of_kind Vi c.vi w.isolated_nodes r here)
      | inr here ↦ inr (inl (of_kind Vc c.vc w.connected_nodes r here))
    ]
    | inr here ↦ inr (inr (of_kind Ve c.ve w.edges r here))
  ]

  -- no feature stands before the list of features
  pub no_feature_before : (r : Rec) → Among r vectors → feature_of r ≡ None
  no_feature_before r at =
      let well = known_of (λ z. is_well_named z ≡ true) r (all_records c) (all_well_named c w) (in_front r vectors c.fe at) in
      elim (kind_in r at) [
        | inl is ↦ no_feature Vi refl r well is
        | inr more ↦ elim more [ inl is ↦ no_feature Vc refl r well is | inr is ↦ no_feature Ve refl r well is ]
      ]

  -- a record with an edge's name is in the list of edges
  edge_listed : (r : Rec) → Among r (all_records c) → is_edge_name (name_of r) ≡ true → Among r c.ve
  edge_listed r at edge = elim (among_append r vectors c.fe at) [
    | inl before ↦ elim (among_append r (c.vi ++ c.vc) c.ve before) [
      | inl nodes ↦ elim (among_append r c.vi c.vc nodes) [
        | inl here ↦ absurd (no_edge_kind Vi refl r (of_kind Vi c.vi w.isolated_nodes r here) edge)
        | inr here ↦ absurd (no_edge_kind Vc refl r (of_kind Vc c.vc w.connected_nodes r here) edge)
      ]
      | inr here ↦ here
    ]
    | inr here ↦ absurd (no_edge_kind Fe refl r (of_kind Fe c.fe w.features r here) edge)
  ]

  abbrev edges : List RecName
  edges = map name_of c.ve

  edge_by : (n : RecName) (v : Vector) (o : Option Rec) → lookup_record c n ≡ o → option_and_then (vector_of is_edge_name) o ≡ Some v → Among n edges
  edge_by n v None is e = cc
  edge_by n v (Some (V u)) is e =
      let hit = found (is_named n) (head_and_records c) (V u) is in
      elim hit.among [ inl head ↦ cc | inr at ↦ named_edge n u at hit.passes (is_edge_name u.name) refl e ]
    where
      named_edge : (n : RecName) (u : Vector) → Among (V u) (all_records c) → same_name n u.name ≡ true → (edge : Bool) → is_edge_name u.name ≡ edge
          → cond edge (Some u) None ≡ Some v → Among n edges
      named_edge n u at same true edge e =
          subst (λ m. Among m edges) (sym (one_when_same n u.name same)) (among_map name_of (V u) c.ve (edge_listed (V u) at edge))
      named_edge n u at same false edge e = cc
  edge_by n v (Some (F f)) is e = cc
  edge_by n v (Some (H h)) is e = cc

  -- the name of an edge of the cell is among those of the list of edges
  pub among_edges : (n : RecName) (v : Vector) → edge_named c n ≡ Some v → Among n edges
  among_edges n v e = edge_by n v (lookup_record c n) refl e

  -- no two of these are one
  pub edges_distinct : IsDistinct same_name edges
  edges_distinct =
      let names = subst (IsDistinct same_name) (map-append name_of vectors c.fe ∙ ap (λ z. z ++ map name_of c.fe) (map-append name_of (c.vi ++ c.vc) c.ve))
      w.names_distinct in
      distinct_back same_name (map name_of (c.vi ++ c.vc)) edges (distinct_front same_name (map name_of (c.vi ++ c.vc) ++ edges) (map name_of c.fe) names)
