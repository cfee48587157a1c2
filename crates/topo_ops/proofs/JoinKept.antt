-- What a join keeps.
use Rattle.std.proofs.Common.{◌≡◌, inl, inr, ℕ, ◌+◌, ◌-◌, Bool, true, false, ◌&&◌, ◌||◌, List, [], ◌∷◌, ◌++◌, Option, None, Some, cond, drop, find, is_some}
use Rattle.std.proofs.Common.{map, refl, sym, ap, ◌∙◌, arith, append_assoc}
use Rattle.std.specs.Prelude.{◌==◌, not, option_and_then, option_map, slice_get}
use Rattle.std.specs.List.{AllByRecursion, list_all, list_any}
use Rattle.std.specs.Option.{option_map_or}
use Rattle.std.proofs.lemmas.Bool.{both_ways as contradiction, eqb-true, false_from_ne_true, not-false, or_parts}
use Rattle.s57_types.specs.declared.name.Kind.TheVariants.{Vc, Fe}
use Rattle.s57_types.specs.declared.name.RecName.{RecName}
use Rattle.s57_types.specs.declared.record.End.{End}
use Rattle.s57_types.specs.declared.record.Feature.{Feature}
use Rattle.s57_types.specs.declared.record.Spot.{Spot}
use Rattle.s57_types.specs.declared.record.Vector.{Vector}
use Rattle.s57_types.specs.declared.record.Rec.TheVariants.{V}
use Rattle.s57_types.specs.declared.cell.Cell.{Cell}
use Rattle.cell_spec.specs.declared.edit.Edit.{Edit}
use Rattle.cell_spec.specs.declared.edit.Edit.TheVariants.{Set, Del}
use Rattle.cell_spec.specs.declared.key.Ref.{Ref}
use Rattle.cell_spec.specs.Edits.{apply_edits, edit_of, find_their_records, has_its_record}
use Rattle.cell_spec.specs.Lookup.{listed_record, lookup_pointers, lookup_record, targets_of}
use Rattle.cell_spec.specs.Names.{is_of_kind, same_name}
use Rattle.cell_spec.specs.Readable.{IsReadable}
use Rattle.cell_spec.proofs.Orders.{one_when_same, same_from_either}
use Rattle.edit_answers.specs.Named.{answered_by}
use Rattle.edit_sets.specs.FormFault.{IsFormed}
use Rattle.geometry_spec.specs.Points.{Point}
use Rattle.rule_spec.specs.EdgePoints.{edge_line_of, node_at, node_position}
use Rattle.rule_spec.specs.Records.{edge_named, feature_named, is_edge_name, node_named, the_only, vector_of}
use Rattle.answer_laws.specs.EditedAnswers.{FindTheirRecords}
use Rattle.answer_laws.proofs.Among.{Among, among_map, known_of, none_found}
use Rattle.topo_ops.specs.Causes.{form_refused, version_end}
use Rattle.topo_ops.specs.Chains.{Chain, chain_named, edge_name}
use Rattle.topo_ops.specs.Features.{feature_with, names_pointing}
use Rattle.topo_ops.specs.FeatureTrace.{trace_along, trace_named}
use Rattle.topo_ops.specs.Join.{attrs_differ, chains_fault, edits_of_join, feature_unpaired, features_fault, features_of_join, is_end_of, is_other_pointer}
use Rattle.topo_ops.specs.Join.{join_by, join_fault, joined_edge, joined_places, node_used, not_a_chain, unpaired_from}
use Rattle.topo_ops.specs.Kept.{JoinKeeps, counts_of}
use Rattle.topo_ops.specs.Refusals.{first_of}
use Rattle.topo_ops.specs.Split.{split_places}
use Rattle.topo_ops.specs.declared.operation.EdgeJoin.{EdgeJoin}
use Rattle.topo_ops.specs.declared.refusal.OpRefusal.{OpRefusal}
use Rattle.topo_ops.specs.declared.refusal.OpRefusal.TheVariants.{NodeUsed, NotAChain, NotPaired}
use Rattle.topo_ops.proofs.Counts.{same_counts}
use Rattle.topo_ops.proofs.FeatureEdits.{feature_there, is_among, names_none}
use Rattle.topo_ops.proofs.Found.{all_found, finds_theirs}
use Rattle.topo_ops.proofs.Lines.{ChainParts, LineParts, begins_kept, chain_parts, end_at, ends_moved, line_found, line_made, line_parts, line_through}
use Rattle.topo_ops.proofs.Pairs.{joined_names_none, none_names, paired_again, split_nothing}
use Rattle.topo_ops.proofs.PlaceCounts.{counted, first_counted, other_counted, same_self, second_counted}
use Rattle.topo_ops.proofs.Pointers.{any_pointing, none_of_record, told}
use Rattle.topo_ops.proofs.Records.{IsVector, is_vector, named_feature}
use Rattle.topo_ops.proofs.Reworked.{is_of_vector, reworked, side_after, traces_kept, vector_after}
use Rattle.topo_ops.proofs.Rows.{all_none}
use Rattle.topo_ops.proofs.SameLines.{line_same, node_no_feature, position_same}
use Rattle.topo_ops.proofs.SplitKept.{free_by}
use Rattle.topo_ops.proofs.Traces.{Halved, same_trace}
use Rattle.topo_ops.proofs.UseSums.{class_kept}

none_mapped : {X Y : Type 0} (g : X → Y) (o : Option X) → option_map g o ≡ None → o ≡ None
none_mapped g None e = refl
none_mapped g (Some x) e = cc

-- a connected node that has a position
some_node : (c : Cell) (n : RecName) (p : Point) (o : Option Vector) → node_named c n ≡ o → option_and_then (λ (v : Vector). the_only v.plane) o ≡ Some p
    → (v : Vector) × (node_named c n ≡ Some v)
some_node c n p None is e = cc
some_node c n p (Some v) is e = (v, is)

place_before : (k : ℕ) → k + 1 - 1 ≡ k
place_before k = omega arith

-- a feature before the join is what a split makes of it behind the join
record Rejoined (e f : RecName) (g h : Feature) : Type 0 where
  again : split_places e f h.places ≡ g.places
  none : AllByRecursion (λ (x : Spot). same_name x.to f ≡ false) h.places

module _ (nall : ℕ) (c : Cell) (readable : IsReadable c) (edge other : ℕ) (p q : Chain) (p_found : chain_named c (edge_name edge) ≡ Some p)
    (q_found : chain_named c (edge_name other) ≡ Some q) (fault : join_fault nall c (join_by edge other) p q ≡ None)
    (form : IsFormed nall (edits_of_join c (join_by edge other) p q) []) where
  abbrev j : EdgeJoin
  j = join_by edge other

  abbrev e : RecName
  e = edge_name edge

  abbrev f : RecName
  f = edge_name other

  abbrev n : RecName
  n = p.line.ends

  abbrev row_list : List (Option OpRefusal)
  row_list = chains_fault c p q ∷ features_fault j p.edge (features_of_join c j) ∷ form_refused nall (edits_of_join c j p q) ∷ []

  rows : AllByRecursion (λ (o : Option OpRefusal). o ≡ None) row_list
  rows = all_none row_list fault

  abbrev feature_list : List (Option OpRefusal)
  feature_list = first_of (map (feature_unpaired j) (features_of_join c j)) ∷ version_end p.edge (features_of_join c j) ∷ []

  feature_rows : AllByRecursion (λ (o : Option OpRefusal). o ≡ None) feature_list
  feature_rows = all_none feature_list rows.1.0

  abbrev chain_list : List (Option OpRefusal)
  chain_list = not_a_chain p q ∷ node_used c p q ∷ attrs_differ c p q ∷ []

  chain_rows : AllByRecursion (λ (o : Option OpRefusal). o ≡ None) chain_list
  chain_rows = all_none chain_list rows.0

  p_parts : ChainParts c e p
  p_parts = chain_parts c e p p_found

  q_parts : ChainParts c f q
  q_parts = chain_parts c f q q_found

  p_line : LineParts c p.edge p.line
  p_line = line_parts c p.edge p.line p_parts.line_is

  q_line : LineParts c q.edge q.line
  q_line = line_parts c q.edge q.line q_parts.line_is

  p_old : IsVector is_edge_name c e p.edge
  p_old = is_vector is_edge_name c e p.edge p_parts.edge_is

  q_old : IsVector is_edge_name c f q.edge
  q_old = is_vector is_edge_name c f q.edge q_parts.edge_is

  in_order : (same_name p.edge.name q.edge.name ≡ false) × (not (same_name n q.line.begins) ≡ false)
  in_order = or_parts (same_name p.edge.name q.edge.name) (not (same_name n q.line.begins)) (free_by (same_name p.edge.name q.edge.name || not
      (same_name n q.line.begins)) NotAChain chain_rows.0)

  edges_apart : same_name p.edge.name q.edge.name ≡ false
  edges_apart = in_order.0

  apart : same_name e f ≡ false
  apart = (λ i. same_name (sym p_old.name_is i) (sym q_old.name_is i)) ∙ edges_apart

  meets : n ≡ q.line.begins
  meets = one_when_same n q.line.begins (not-false (same_name n q.line.begins) in_order.1)

  node : (v : Vector) × (node_named c n ≡ Some v)
  node = some_node c n p_line.last (node_named c n) refl p_line.last_is

  node_old : IsVector (is_of_kind Vc) c n node.0
  node_old = is_vector (is_of_kind Vc) c n node.0 node.1

  -- ---- the pointers to the node
  none_other : list_any (is_other_pointer p q) (lookup_pointers c n) ≡ false
  none_other = none_found (is_other_pointer p q) (lookup_pointers c n)
      (none_mapped (λ (r : Ref). NodeUsed r.from r.place) (find (is_other_pointer p q) (lookup_pointers c n)) chain_rows.1.0)

  is_other : (m : RecName) → same_name m p.edge.name ≡ false → same_name m q.edge.name ≡ false → (place : ℕ)
      → is_other_pointer p q (record { from = m; place = place }) ≡ true
  is_other m first second place =
      λ i. not ((first i && option_map_or (λ (x : End). x.topi == 2) (slice_get p.edge.ends (place - 1)) false)
      || (second i && option_map_or (λ (x : End). x.topi == 1) (slice_get q.edge.ends (place - 1)) false))

  -- no other edge names it
  unnamed_node : (m : RecName) → same_name m e ≡ false → same_name m f ≡ false → (w : Vector) → edge_named c m ≡ Some w
      → list_any (same_name n) (map (λ (x : End). x.to) w.ends) ≡ false
  unnamed_node m first second w is =
      let there = is_vector is_edge_name c m w is in
      let from_first : same_name w.name p.edge.name ≡ false = (λ i. same_name (there.name_is i) (p_old.name_is i)) ∙ first in
      let from_second : same_name w.name q.edge.name ≡ false = (λ i. same_name (there.name_is i) (q_old.name_is i)) ∙ second in
      false_from_ne_true (list_any (same_name n) (targets_of (V w))) (λ some.
      contradiction (list_any (is_other_pointer p q) (lookup_pointers c n)) none_other
      (any_pointing (is_other_pointer p q) c n (V w) there.among (is_other w.name from_first from_second) some))

  -- the first edge ends there, and the second begins there
  end_tells : (k : ℕ) (x : End) → slice_get p.edge.ends k ≡ Some x → is_other_pointer p q (record { from = p.edge.name; place = k + 1 }) ≡ false
      → (x.topi == 2) ≡ true
  end_tells k x at none =
      let here : slice_get p.edge.ends (k + 1 - 1) ≡ Some x = ap (slice_get p.edge.ends) (place_before k) ∙ at in
      let test : (is_end_of 2 p.edge (record { from = p.edge.name; place = k + 1 }) || is_end_of 1 q.edge (record { from = p.edge.name; place = k + 1 }))
      ≡ ((x.topi == 2) || false) =
      λ i. (same_self p.edge.name i && option_map_or (λ (y : End). y.topi == 2) (here i) false)
      || (edges_apart i && option_map_or (λ (y : End). y.topi == 1) (slice_get q.edge.ends (k + 1 - 1)) false) in
      or_none (x.topi == 2) (sym test ∙ not-false _ none)
    where
      or_none : (b : Bool) → (b || false) ≡ true → b ≡ true
      or_none true h = refl
      or_none false h = cc

  begin_tells : (k : ℕ) (x : End) → slice_get q.edge.ends k ≡ Some x → is_other_pointer p q (record { from = q.edge.name; place = k + 1 }) ≡ false
      → (x.topi == 1) ≡ true
  begin_tells k x at none =
      let here : slice_get q.edge.ends (k + 1 - 1) ≡ Some x = ap (slice_get q.edge.ends) (place_before k) ∙ at in
      let test : (is_end_of 2 p.edge (record { from = q.edge.name; place = k + 1 }) || is_end_of 1 q.edge (record { from = q.edge.name; place = k + 1 }))
      ≡ (x.topi == 1) =
      λ i. ((same_from_either q.edge.name p.edge.name ∙ edges_apart) i && option_map_or (λ (y : End). y.topi == 2) (slice_get p.edge.ends (k + 1 - 1)) false)
      || (same_self q.edge.name i && option_map_or (λ (y : End). y.topi == 1) (here i) false) in
      sym test ∙ not-false _ none

  -- where the ends that name the node have one indicator, an end with another one is of another node
  other_end : (v : Vector) (m : RecName) (topi other : ℕ) → node_at topi v ≡ Some m
      → AllByRecursion (λ (x : End). same_name n x.to ≡ true → (x.topi == other) ≡ true) v.ends → (topi ≡ other → ⊥) → same_name n m ≡ false
  other_end v m topi other at all differ = false_from_ne_true (same_name n m) (λ same.
      let there = end_at topi v m at in
      let tested = known_of (λ (x : End). same_name n x.to ≡ true → (x.topi == other) ≡ true) there.end v.ends all there.among
      (ap (same_name n) there.to_is ∙ same) in
      differ (sym (eqb-true there.end.topi topi there.topi_is) ∙ eqb-true there.end.topi other tested))

  begins_apart : same_name n p.line.begins ≡ false
  begins_apart = other_end p.edge p.line.begins 1 2 p_line.begins_at (told (is_other_pointer p q) n p.edge (λ x. x.topi == 2) end_tells
      (none_of_record (is_other_pointer p q) c n (V p.edge) none_other p_old.among)) (λ same. omega (arith, same))

  ends_apart : same_name n q.line.ends ≡ false
  ends_apart = other_end q.edge q.line.ends 2 1 q_line.ends_at (told (is_other_pointer p q) n q.edge (λ x. x.topi == 1) begin_tells
      (none_of_record (is_other_pointer p q) c n (V q.edge) none_other q_old.among)) (λ same. omega (arith, same))

  -- ---- the edits
  abbrev lead : List Edit
  lead = Set (V (joined_edge p q)) ∷ Del f ∷ Del n ∷ []

  vectors : list_all is_of_vector lead ≡ true
  vectors = λ i. not (is_of_kind Fe (p_old.name_is i)) && (not (node_no_feature n node_old.passes i) && true)

  abbrev targets : List RecName
  targets = e ∷ f ∷ []

  abbrev change : List Spot → List Spot
  change = joined_places f

  lead_found : list_all (has_its_record c) lead ≡ true
  lead_found =
      (λ i. is_some (listed_record c (p_old.name_is i)) && (q_old.listed i && (node_old.listed i && true))) ∙ ap (λ b. b && true) p_old.listed

  fit : FindTheirRecords (edits_of_join c j p q) c
  fit = finds_theirs nall c readable lead change targets form lead_found refl

  pub join_found : find_their_records (edits_of_join c j p q) c ≡ true
  join_found = all_found nall c readable lead change targets form lead_found refl

  abbrev d : Cell
  d = apply_edits (edits_of_join c j p q) c

  after : (m : RecName) → is_of_kind Fe m ≡ false → lookup_record d m ≡ answered_by c.head (lookup_record c m) (edit_of m lead)
  after = vector_after c readable lead vectors change targets fit

  edge_edit : edit_of e lead ≡ Some (Set (V (joined_edge p q)))
  edge_edit = ap (λ b. cond b (Some (Set (V (joined_edge p q)))) (edit_of e (Del f ∷ Del n ∷ []))) (ap (λ m. same_name m e) p_old.name_is ∙ same_self e)

  edge_there : edge_named d e ≡ Some (joined_edge p q)
  edge_there =
      ap (option_and_then (vector_of is_edge_name)) (after e refl ∙ ap (answered_by c.head (lookup_record c e)) edge_edit)
      ∙ ap (λ b. cond b (Some (joined_edge p q)) None) (ap is_edge_name p_old.name_is)

  same : (m : RecName) → is_of_kind Fe m ≡ false → same_name e m ≡ false → same_name f m ≡ false → same_name n m ≡ false → lookup_record d m ≡ lookup_record c m
  same m kind one second third =
      after m kind
      ∙ (λ i. answered_by c.head (lookup_record c m) (cond ((ap (λ x. same_name x m) p_old.name_is ∙ one) i) (Some (Set (V (joined_edge p q))))
      (cond (second i) (Some (Del f)) (cond (third i) (Some (Del n)) None))))

  -- ---- lines
  position : (m : RecName) → same_name n m ≡ false → node_position d m ≡ node_position c m
  position = position_same c d e f n refl refl node_old.passes same

  whole_line : edge_line_of d e ≡ Some (line_through (joined_edge p q) p.line.begins q.line.ends p_line.first q_line.last)
  whole_line =
      line_found d e (joined_edge p q) _ edge_there
      (line_made d (joined_edge p q) p.line.begins q.line.ends p_line.first q_line.last
      (begins_kept q.line.ends p.edge (joined_edge p q) refl ∙ p_line.begins_at) (ends_moved q.line.ends p.edge
      (joined_edge p q) refl p.line.ends p_line.ends_at)
      (position p.line.begins begins_apart ∙ p_line.first_is) (position q.line.ends ends_apart ∙ q_line.last_is))

  abbrev cut : Point
  cut = p_line.last

  meets_at : q_line.first ≡ cut
  meets_at = let there = sym q_line.first_is ∙ ap (node_position c) (sym meets) ∙ p_line.last_is in cc

  plane_is : drop 1 p.line.points ++ q.edge.plane ++ q_line.last ∷ [] ≡ p.edge.plane ++ cut ∷ (q.edge.plane ++ q_line.last ∷ [])
  plane_is =
      ap (λ l. l ++ q.edge.plane ++ q_line.last ∷ []) (ap (drop 1) p_line.points_are)
      ∙ append_assoc (p.edge.plane ++ cut ∷ []) q.edge.plane (q_line.last ∷ [])
      ∙ append_assoc p.edge.plane (cut ∷ []) (q.edge.plane ++ q_line.last ∷ [])

  halved : Halved (edge_line_of d) (edge_line_of c) e f
  halved = record {
    rest = λ m one second. sym (line_same c d e f n refl refl node_old.passes same m one second (unnamed_node m one second));
    line = line_through (joined_edge p q) p.line.begins q.line.ends p_line.first q_line.last;
    first = p.line;
    second = q.line;
    line_is = whole_line;
    first_is = line_found c e p.edge p.line p_parts.edge_is p_parts.line_is;
    second_is = line_found c f q.edge q.line q_parts.edge_is q_parts.line_is;
    start = p_line.first ∷ p.edge.plane;
    cut = cut;
    tail = q.edge.plane ++ q_line.last ∷ [];
    line_points = ap (λ l. p_line.first ∷ l) plane_is;
    first_points = p_line.points_are;
    second_points = q_line.points_are ∙ ap (λ x. x ∷ (q.edge.plane ++ q_line.last ∷ [])) meets_at;
  }

  -- ---- features
  none_unpaired : (g : Feature) → Among g (features_of_join c j) → unpaired_from j 1 None g.places ≡ None
  none_unpaired g there =
      none_mapped (λ place. NotPaired g.name.id place) (unpaired_from j 1 None g.places)
      (known_of (λ (o : Option OpRefusal). o ≡ None) (feature_unpaired j g) (map (feature_unpaired j) (features_of_join c j))
      (all_none (map (feature_unpaired j) (features_of_join c j)) feature_rows.0) (among_map (feature_unpaired j) g (features_of_join c j) there))

  rejoined_by : (g : Feature) (b : Bool) → feature_named c g.name ≡ Some g → is_among (names_pointing c targets) g.name ≡ b
      → Rejoined e f g (cond b (feature_with (change g.places) g) g)
  rejoined_by g true named is = record {
    again = sym (paired_again j apart g.places (none_unpaired g (feature_there c targets g.name g named is)));
    none = joined_names_none f g.places;
  }
  rejoined_by g false named is = record {
    again = split_nothing e f g.places (none_names e g.places (names_none c targets e g.name g (inl refl) named is));
    none = none_names f g.places (names_none c targets f g.name g (inr (inl refl)) named is);
  }

  rejoined : (g : Feature) → feature_named c g.name ≡ Some g → Rejoined e f g (reworked c readable lead vectors change targets g)
  rejoined g named = rejoined_by g (is_among (names_pointing c targets) g.name) named refl

  traces : (m : RecName) → trace_named d m ≡ trace_named c m
  traces = traces_kept c readable lead vectors change targets fit (λ g named among.
      let back = rejoined g named in
      sym (same_trace (edge_line_of d) (edge_line_of c) e f halved _ back.none) ∙ ap (trace_along (edge_line_of c)) back.again)

  -- ---- sides
  sides : (m k : RecName)
      → ((turn : ℕ → Bool) (ps : List Spot) → AllByRecursion (λ (x : Spot). same_name x.to f ≡ false) ps
      → counted k turn (split_places e f ps) ≡ counted m turn ps) → counts_of d m ≡ counts_of c k
  sides m k count = same_counts c d m k (λ of_use of_feature class ornt.
      side_after c readable lead vectors change targets fit of_use of_feature class ornt m k (λ g there.
      let back = rejoined g (named_feature c fit.names g there) in
      let h : Feature = reworked c readable lead vectors change targets g in
      let kept = class_kept of_use of_feature class (change g.places) g (is_among (names_pointing c targets) g.name) in
      (λ i. counted m (λ t. kept i && (t == ornt)) h.places)
      ∙ sym (count (λ t. of_feature g && (t == ornt)) h.places back.none)
      ∙ ap (counted k (λ t. of_feature g && (t == ornt))) back.again))

  pub join_keeps : JoinKeeps c d j
  join_keeps = record {
    keeps = record { traces = traces; others = λ m one second. sides m m (λ turn ps none. other_counted e f apart turn m one second ps none) };
    first = sides e e (λ turn ps none. first_counted e f apart turn ps none);
    second = sides e f (λ turn ps none. second_counted e f apart turn ps none);
  }
