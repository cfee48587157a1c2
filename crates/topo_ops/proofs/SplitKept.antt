-- What a split keeps.
use Rattle.std.proofs.Common.{◌≡◌, inl, ℕ, ◌+◌, ◌-◌, ◌<◌, ◌≤◌, Bool, true, false, ◌&&◌, ◌||◌, List, [], ◌∷◌, ◌++◌, Option, None, Some, cond, drop, get_or}
use Rattle.std.proofs.Common.{is_some, length, map, take, refl, sym, ap, ◌∙◌, arith, append_assoc, length-append}
use Rattle.std.specs.Prelude.{◌==◌, nat_le, nat_lt, not, option_and_then, option_to_list, slice_get}
use Rattle.std.specs.List.{AllByRecursion, list_all, list_any}
use Rattle.std.proofs.lemmas.Bool.{and_parts, false_from_ne_true, leb-true, ltb-false, or_parts}
use Rattle.std.proofs.lemmas.List.{drop_more, nil_from_length, take-append-drop}
use Rattle.std.proofs.lemmas.Option.{slice_get-get_or}
use Rattle.s57_types.specs.declared.name.Kind.TheVariants.{Vc, Fe}
use Rattle.s57_types.specs.declared.name.RecName.{RecName}
use Rattle.s57_types.specs.declared.record.End.{End}
use Rattle.s57_types.specs.declared.record.Feature.{Feature}
use Rattle.s57_types.specs.declared.record.Spot.{Spot}
use Rattle.s57_types.specs.declared.record.Vector.{Vector}
use Rattle.s57_types.specs.declared.record.Rec.{Rec}
use Rattle.s57_types.specs.declared.record.Rec.TheVariants.{V, F}
use Rattle.s57_types.specs.declared.cell.Cell.{Cell}
use Rattle.cell_spec.specs.declared.edit.Edit.{Edit}
use Rattle.cell_spec.specs.declared.edit.Edit.TheVariants.{Add, Set}
use Rattle.cell_spec.specs.Edits.{apply_edits, edit_of, find_their_records, has_its_record}
use Rattle.cell_spec.specs.Lookup.{all_records, listed_record, lookup_pointers, lookup_record}
use Rattle.cell_spec.specs.Names.{is_of_kind, same_name}
use Rattle.cell_spec.specs.Readable.{IsReadable}
use Rattle.cell_spec.proofs.Orders.{one_when_same}
use Rattle.edit_answers.specs.Named.{answered_by}
use Rattle.edit_sets.specs.FormFault.{IsFormed}
use Rattle.geometry_spec.specs.Points.{Point}
use Rattle.rule_spec.specs.EdgePoints.{edge_line_of, node_at, node_position}
use Rattle.rule_spec.specs.Records.{edge_named, feature_named, is_edge_name, the_only, vector_of}
use Rattle.answer_laws.specs.EditedAnswers.{FindTheirRecords}
use Rattle.answer_laws.proofs.Among.{Among}
use Rattle.topo_ops.specs.Causes.{form_refused, name_taken, version_end}
use Rattle.topo_ops.specs.Chains.{Chain, chain_named, edge_name, node_name}
use Rattle.topo_ops.specs.Features.{feature_with, features_at, names_pointing}
use Rattle.topo_ops.specs.FeatureTrace.{trace_along, trace_named}
use Rattle.topo_ops.specs.Kept.{SplitKeeps, counts_of}
use Rattle.topo_ops.specs.Split.{bad_place, cut_fault, edits_of_split, first_part, new_node, points_before, second_part, split_by, split_fault, split_places}
use Rattle.topo_ops.specs.declared.operation.EdgeSplit.{EdgeSplit}
use Rattle.topo_ops.specs.declared.refusal.OpRefusal.{OpRefusal}
use Rattle.topo_ops.specs.declared.refusal.OpRefusal.TheVariants.{BadPlace, NameTaken}
use Rattle.topo_ops.proofs.Counts.{same_counts}
use Rattle.topo_ops.proofs.FeatureEdits.{is_among, names_none}
use Rattle.topo_ops.proofs.Found.{all_found, finds_theirs}
use Rattle.topo_ops.proofs.Lines.{ChainParts, LineParts, begins_kept, chain_parts, ends_moved, line_found, line_made, line_parts, line_through}
use Rattle.topo_ops.proofs.Pairs.{none_names, split_nothing}
use Rattle.topo_ops.proofs.PlaceCounts.{counted, first_counted, other_counted, same_self, second_counted}
use Rattle.topo_ops.proofs.Pointers.{unnamed}
use Rattle.topo_ops.proofs.Records.{IsVector, is_vector, named_feature}
use Rattle.topo_ops.proofs.Reworked.{is_of_vector, reworked, side_after, traces_kept, vector_after}
use Rattle.topo_ops.proofs.Rows.{all_none}
use Rattle.topo_ops.proofs.SameLines.{line_same, other_node, position_same}
use Rattle.topo_ops.proofs.Traces.{Halved, same_trace}
use Rattle.topo_ops.proofs.UseSums.{class_kept}

-- ---- a name that isn't in use
pub record IsFree (c : Cell) (n : RecName) : Type 0 where
  pub no_record : lookup_record c n ≡ None
  pub no_pointers : lookup_pointers c n ≡ []

pub free_by : (t : Bool) (x : OpRefusal) → cond t (Some x) None ≡ None → t ≡ false
free_by true x e = cc
free_by false x e = refl

nothing : (o : Option Rec) → is_some o ≡ false → o ≡ None
nothing None e = refl
nothing (Some r) e = cc

pub is_free : (c : Cell) (n : RecName) → name_taken c n ≡ None → IsFree c n
is_free c n e =
    let parts = or_parts (is_some (lookup_record c n)) (nat_lt 0 (length (lookup_pointers c n))) (free_by (is_some (lookup_record c n) || nat_lt 0 (length
    (lookup_pointers c n))) (NameTaken n) e) in
    let none = ltb-false 0 (length (lookup_pointers c n)) parts.1 in
    record { no_record = nothing (lookup_record c n) parts.0; no_pointers = nil_from_length (lookup_pointers c n) (omega (arith, none)) }

-- ---- a point between an edge's ends
inside_by : (b : Bool) (x : OpRefusal) → cond b None (Some x) ≡ None → b ≡ true
inside_by true x e = refl
inside_by false x e = cc

pub inside : (c : Cell) (s : EdgeSplit) (chain : Chain) → chain_named c s.edge ≡ Some chain → bad_place s chain ≡ None
    → (2 ≤ s.at) × (points_before s < length chain.edge.plane)
inside c s chain found e =
    let parts = line_parts c chain.edge chain.line (chain_parts c s.edge chain found).line_is in
    let segments = length chain.line.points - 1 in
    let both = and_parts (nat_le 2 s.at) (nat_le s.at segments) (inside_by (nat_le 2 s.at && nat_le s.at segments) (BadPlace segments) e) in
    let low = leb-true 2 s.at both.0 in
    let high = leb-true s.at segments both.1 in
    let many : length chain.line.points ≡ length (parts.first ∷ (chain.edge.plane ++ parts.last ∷ [])) = ap length parts.points_are in
    let more = length-append chain.edge.plane (parts.last ∷ []) in
    (low, omega (arith, low, high, many, more))

-- the same where nothing refuses the cut
pub can_cut : (c : Cell) (s : EdgeSplit) (chain : Chain) → chain_named c s.edge ≡ Some chain → cut_fault c s chain ≡ None
    → points_before s < length chain.edge.plane
can_cut c s chain found e = (inside c s chain found (all_none (bad_place s chain ∷ name_taken c s.node ∷ name_taken c s.fresh ∷ []) e).0).1

only_of : {X : Type 0} (o : Option X) → the_only (option_to_list o) ≡ o
only_of None = refl
only_of (Some x) = refl

module _ (nall : ℕ) (c : Cell) (readable : IsReadable c) (edge at node fresh : ℕ) (chain : Chain) (found : chain_named c (edge_name edge) ≡ Some chain)
    (fault : split_fault nall c (split_by edge at node fresh) chain ≡ None) (form : IsFormed nall (edits_of_split c
    (split_by edge at node fresh) chain) []) where
  abbrev s : EdgeSplit
  s = split_by edge at node fresh

  abbrev e : RecName
  e = edge_name edge

  abbrev f : RecName
  f = edge_name fresh

  abbrev n : RecName
  n = node_name node

  abbrev v : Vector
  v = chain.edge

  abbrev k : ℕ
  k = points_before s

  abbrev row_list : List (Option OpRefusal)
  row_list = cut_fault c s chain ∷ version_end v (features_at c (e ∷ [])) ∷ form_refused nall (edits_of_split c s chain) ∷ []

  abbrev cut_list : List (Option OpRefusal)
  cut_list = bad_place s chain ∷ name_taken c n ∷ name_taken c f ∷ []

  rows : AllByRecursion (λ (o : Option OpRefusal). o ≡ None) cut_list
  rows = all_none cut_list (all_none row_list fault).0

  free_node : IsFree c n
  free_node = is_free c n rows.1.0

  free_edge : IsFree c f
  free_edge = is_free c f rows.1.1.0

  within : k < length v.plane
  within = (inside c s chain found rows.0).1

  parts : ChainParts c e chain
  parts = chain_parts c e chain found

  line : LineParts c v chain.line
  line = line_parts c v chain.line parts.line_is

  old : IsVector is_edge_name c e v
  old = is_vector is_edge_name c e v parts.edge_is

  apart : same_name e f ≡ false
  apart = false_from_ne_true (same_name e f) (λ same.
      let both : lookup_record c e ≡ lookup_record c f = ap (lookup_record c) (one_when_same e f same) in
      let none = free_edge.no_record in
      let some = old.found_is in
      cc)

  -- ---- the edits
  abbrev lead : List Edit
  lead = Set (V (first_part s v)) ∷ Add (V (second_part s chain)) ∷ Add (V (new_node s v)) ∷ []

  vectors : list_all is_of_vector lead ≡ true
  vectors = ap (λ m. not (is_of_kind Fe m) && true) old.name_is

  abbrev targets : List RecName
  targets = e ∷ []

  abbrev change : List Spot → List Spot
  change = split_places e f

  lead_found : list_all (has_its_record c) lead ≡ true
  lead_found =
      (λ i. is_some (listed_record c (old.name_is i)) && (not (is_some (free_edge.no_record i)) && (not (is_some (free_node.no_record i)) && true)))
      ∙ ap (λ b. b && true) old.listed

  fit : FindTheirRecords (edits_of_split c s chain) c
  fit = finds_theirs nall c readable lead change targets form lead_found refl

  pub split_found : find_their_records (edits_of_split c s chain) c ≡ true
  split_found = all_found nall c readable lead change targets form lead_found refl

  abbrev d : Cell
  d = apply_edits (edits_of_split c s chain) c

  -- ---- the records of the edited cell
  after : (m : RecName) → is_of_kind Fe m ≡ false → lookup_record d m ≡ answered_by c.head (lookup_record c m) (edit_of m lead)
  after = vector_after c readable lead vectors change targets fit

  edge_edit : edit_of e lead ≡ Some (Set (V (first_part s v)))
  edge_edit = ap (λ b. cond b (Some (Set (V (first_part s v)))) (edit_of e (Add (V (second_part s chain)) ∷ Add (V (new_node s v)) ∷ [])))
      (ap (λ m. same_name m e) old.name_is ∙ same_self e)

  edge_there : edge_named d e ≡ Some (first_part s v)
  edge_there =
      ap (option_and_then (vector_of is_edge_name)) (after e refl ∙ ap (answered_by c.head (lookup_record c e)) edge_edit)
      ∙ ap (λ b. cond b (Some (first_part s v)) None) (ap is_edge_name old.name_is)

  fresh_edit : edit_of f lead ≡ Some (Add (V (second_part s chain)))
  fresh_edit =
      (λ i. cond ((ap (λ m. same_name m f) old.name_is ∙ apart) i) (Some (Set (V (first_part s v))))
      (cond (same_self f i) (Some (Add (V (second_part s chain)))) (edit_of f (Add (V (new_node s v)) ∷ []))))

  fresh_there : edge_named d f ≡ Some (second_part s chain)
  fresh_there = ap (option_and_then (vector_of is_edge_name)) (after f refl ∙ ap (answered_by c.head (lookup_record c f)) fresh_edit)

  node_edit : edit_of n lead ≡ Some (Add (V (new_node s v)))
  node_edit =
      (λ i. cond (same_name (old.name_is i) n) (Some (Set (V (first_part s v)))) (cond (same_self n i) (Some (Add (V (new_node s v)))) None))

  abbrev cut : Point
  cut = get_or v.plane k line.first

  cut_is : node_position d n ≡ Some cut
  cut_is =
      ap (λ o. option_and_then (λ (x : Vector). the_only x.plane) (option_and_then (vector_of (is_of_kind Vc)) o))
      (after n refl ∙ ap (answered_by c.head (lookup_record c n)) node_edit)
      ∙ only_of (slice_get v.plane k) ∙ slice_get-get_or v.plane k line.first within

  same : (m : RecName) → is_of_kind Fe m ≡ false → same_name e m ≡ false → same_name f m ≡ false → same_name n m ≡ false → lookup_record d m ≡ lookup_record c m
  same m kind one other third =
      after m kind
      ∙ (λ i. answered_by c.head (lookup_record c m) (cond ((ap (λ x. same_name x m) old.name_is ∙ one) i) (Some (Set (V (first_part s v))))
      (cond (other i) (Some (Add (V (second_part s chain)))) (cond (third i) (Some (Add (V (new_node s v)))) None))))

  -- ---- lines
  unnamed_node : (m : RecName) (w : Vector) → edge_named c m ≡ Some w → list_any (same_name n) (map (λ (x : End). x.to) w.ends) ≡ false
  unnamed_node m w is = unnamed c n (V w) free_node.no_pointers (is_vector is_edge_name c m w is).among

  old_position : (topi : ℕ) (m : RecName) → node_at topi v ≡ Some m → node_position d m ≡ node_position c m
  old_position topi m is = position_same c d e f n refl refl refl same m (other_node n topi v m (unnamed_node e v parts.edge_is) is)

  first_line : edge_line_of d e ≡ Some (line_through (first_part s v) chain.line.begins n line.first cut)
  first_line =
      line_found d e (first_part s v) _ edge_there
      (line_made d (first_part s v) chain.line.begins n line.first cut (begins_kept n v (first_part s v) refl ∙ line.begins_at)
      (ends_moved n v (first_part s v) refl chain.line.ends line.ends_at) (old_position 1 chain.line.begins line.begins_at ∙ line.first_is) cut_is)

  second_line : edge_line_of d f ≡ Some (line_through (second_part s chain) n chain.line.ends cut line.last)
  second_line =
      line_found d f (second_part s chain) _ fresh_there
      (line_made d (second_part s chain) n chain.line.ends cut line.last refl refl cut_is (old_position 2 chain.line.ends line.ends_at ∙ line.last_is))

  plane_cut : v.plane ≡ take k v.plane ++ cut ∷ drop (k + 1) v.plane
  plane_cut = sym (take-append-drop k v.plane) ∙ ap (λ l. take k v.plane ++ l) (drop_more v.plane k line.first within)

  halved : Halved (edge_line_of c) (edge_line_of d) e f
  halved = record {
    rest = λ m one other. line_same c d e f n refl refl refl same m one other (unnamed_node m);
    line = chain.line;
    first = line_through (first_part s v) chain.line.begins n line.first cut;
    second = line_through (second_part s chain) n chain.line.ends cut line.last;
    line_is = line_found c e v chain.line parts.edge_is parts.line_is;
    first_is = first_line;
    second_is = second_line;
    start = line.first ∷ take k v.plane;
    cut = cut;
    tail = drop (k + 1) v.plane ++ line.last ∷ [];
    line_points = line.points_are ∙ ap (λ l. line.first ∷ (l ++ line.last ∷ [])) plane_cut
        ∙ ap (λ l. line.first ∷ l) (append_assoc (take k v.plane) (cut ∷ drop (k + 1) v.plane) (line.last ∷ []));
    first_points = refl;
    second_points = refl;
  }

  -- ---- features
  none_of_fresh : (g : Feature) → Among (F g) (all_records c) → AllByRecursion (λ (x : Spot). same_name x.to f ≡ false) g.places
  none_of_fresh g there = none_names f g.places (unnamed c f (F g) free_edge.no_pointers there)

  places_by : (g : Feature) (b : Bool) → feature_named c g.name ≡ Some g → is_among (names_pointing c targets) g.name ≡ b
      → (let h : Feature = cond b (feature_with (change g.places) g) g in h.places) ≡ split_places e f g.places
  places_by g true named is = refl
  places_by g false named is = sym (split_nothing e f g.places (none_names e g.places (names_none c targets e g.name g (inl refl) named is)))

  places_split : (g : Feature) → feature_named c g.name ≡ Some g → (let h : Feature = reworked c readable lead vectors change targets g in h.places)
      ≡ split_places e f g.places
  places_split g named = places_by g (is_among (names_pointing c targets) g.name) named refl

  traces : (m : RecName) → trace_named d m ≡ trace_named c m
  traces = traces_kept c readable lead vectors change targets fit (λ g named among.
      ap (trace_along (edge_line_of d)) (places_split g named)
      ∙ same_trace (edge_line_of c) (edge_line_of d) e f halved g.places (none_of_fresh g among))

  -- ---- sides
  sides : (m p : RecName)
      → ((turn : ℕ → Bool) (ps : List Spot) → AllByRecursion (λ (x : Spot). same_name x.to f ≡ false) ps
      → counted m turn (split_places e f ps) ≡ counted p turn ps) → counts_of d m ≡ counts_of c p
  sides m p count = same_counts c d m p (λ of_use of_feature class ornt.
      side_after c readable lead vectors change targets fit of_use of_feature class ornt m p (λ g there.
      let named = named_feature c fit.names g there in
      let kept = class_kept of_use of_feature class (change g.places) g (is_among (names_pointing c targets) g.name) in
      (λ i. counted m (λ t. kept i && (t == ornt)) (places_split g named i))
      ∙ count (λ t. of_feature g && (t == ornt)) g.places (none_of_fresh g there)))

  pub split_keeps : SplitKeeps c d s
  split_keeps = record {
    keeps = record { traces = traces; others = λ m one other. sides m m (λ turn ps none. other_counted e f apart turn m one other ps none) };
    first = sides e e (λ turn ps none. first_counted e f apart turn ps none);
    second = sides f e (λ turn ps none. second_counted e f apart turn ps none);
  }
