-- The subjects of a cell, and the candidates for a name, are listed, and nothing else is.
use Rattle.std.proofs.Common.{◌≡◌, ℕ, ◌&&◌, ◌||◌, Bool, true, false, [], ◌++◌, Option, None, Some, cond, map, filter, length, is_some, refl, sym, ap, ◌∙◌}
use Rattle.std.proofs.Common.{subst}
use Rattle.std.specs.Prelude.{not, nat_lt, flat_map, option_and_then, option_map, option_to_list}
use Rattle.std.specs.Option.{option_map_or}
use Rattle.std.specs.List.Sorted.{IsStrictlySortedBy}
use Rattle.std.specs.Cmp.{both_ways}
use Rattle.std.proofs.lemmas.Bool.{and_parts, both_ways as contradiction, true_from_ne_false}
use Rattle.s57_types.specs.declared.name.RecName.{RecName}
use Rattle.s57_types.specs.declared.name.Kind.TheVariants.{Vc}
use Rattle.s57_types.specs.declared.record.Vector.{Vector}
use Rattle.s57_types.specs.declared.record.Rec.{Rec as Record}
use Rattle.s57_types.specs.declared.record.Rec.TheVariants.{H}
use Rattle.s57_types.specs.declared.cell.Cell.{Cell}
use Rattle.s57_types.specs.Heads.{head_name}
use Rattle.cell_spec.specs.declared.key.Subject.{Subject}
use Rattle.cell_spec.specs.declared.key.Subject.TheVariants.{Rec, Side, Pair, Ident}
use Rattle.cell_spec.specs.Lookup.{all_records, identities_of, is_named, listed_record, lookup_record, name_of}
use Rattle.cell_spec.specs.Names.{identity_order, is_of_kind, name_order, same_name, subject_order}
use Rattle.cell_spec.proofs.Ascending.{holds, sorted-ascending}
use Rattle.cell_spec.proofs.Orders.{exact_identities, exact_names, one_when_same, total_names}
use Rattle.cell_spec.proofs.SubjectOrder.{exact_subjects, total_subjects}
use Rattle.rule_spec.specs.Candidates.{are_candidates, candidates_of, has_oversized, may_touch, segments_named, share_a_tile}
use Rattle.rule_spec.specs.declared.line.EdgeLine.{EdgeLine}
use Rattle.rule_spec.specs.EdgePoints.{edge_line_of, line_of, segments_of}
use Rattle.geometry_spec.specs.Points.{Point}
use Rattle.rule_spec.specs.Findings.{findings_of_subject, is_below, is_subject, possible_subjects, record_names, subjects}
use Rattle.rule_spec.specs.Records.{edge_named, is_chain_part, is_edge_name, node_named, the_only, vector_of}
use Rattle.answer_laws.proofs.Among.{Among, among_map, found, in_back, in_front, picked}
use Rattle.finding_laws.specs.Unaffected.{SubjectsAreListed}
use Rattle.finding_laws.proofs.Identities.{borne_is}
use Rattle.finding_laws.proofs.Lists.{among_flat, among_held, among_kept, from_ascending, held_among, into_ascending}

-- ---- what is no subject has no finding
pub no_subject : (c : Cell) (s : Subject) → is_subject c s ≡ false → findings_of_subject c s ≡ []
unfolding findings_of_subject
no_subject c s none = rw none refl

-- ---- names of records
there : (o : Option Record) → is_some o ≡ true → (r : Record) × (o ≡ Some r)
there None e = cc
there (Some r) e = (r, refl)

pub named_in : (c : Cell) (n : RecName) → is_some (listed_record c n) ≡ true → Among n (record_names c)
named_in c n e =
    let is = there (listed_record c n) e in
    let hit = found (is_named n) (all_records c) is.0 is.1 in
    subst (λ m. Among m (record_names c)) (sym (one_when_same n (name_of is.0) hit.passes)) (among_map name_of is.0 (all_records c) hit.among)

-- what has a name is the head, or a record of the lists
head_or : (c : Cell) (n : RecName) (P : Option Record → Type 0) → P (Some (H c.head)) → P (listed_record c n) → P (lookup_record c n)
head_or c n P head listed = by (same_name n head_name)
  where
    by : (b : Bool) → P (cond b (Some (H c.head)) (listed_record c n))
    by true = head
    by false = listed

-- a name that no record of the lists has is that of no node and no edge
pub no_node : (c : Cell) (n : RecName) → listed_record c n ≡ None → node_named c n ≡ None
no_node c n none = head_or c n (λ found. node_of found ≡ None) refl (ap node_of none)
  where
    node_of : Option Record → Option Vector
    node_of found = option_and_then (vector_of (is_of_kind Vc)) found

pub no_edge : (c : Cell) (n : RecName) → listed_record c n ≡ None → edge_named c n ≡ None
no_edge c n none = head_or c n (λ found. edge_of found ≡ None) refl (ap edge_of none)
  where
    edge_of : Option Record → Option Vector
    edge_of found = option_and_then (vector_of is_edge_name) found

pub none_or_some : (o : Option Record) → is_some o ≡ false → o ≡ None
none_or_some None e = refl
none_or_some (Some r) e = cc

edge_there : (c : Cell) (n : RecName) → is_some (edge_named c n) ≡ true → is_some (listed_record c n) ≡ true
edge_there c n e = true_from_ne_false (is_some (listed_record c n)) (λ none.
    contradiction (is_some (edge_named c n)) (ap is_some (no_edge c n (none_or_some (listed_record c n) none))) e)

pub no_part : (c : Cell) (n : RecName) → is_subject c (Rec n) ≡ false → is_chain_part c n ≡ false
no_part c n none = let absent = none_or_some (listed_record c n) none in λ i. is_some (no_node c n absent i) || is_some (no_edge c n absent i)

pub part_there : (c : Cell) (n : RecName) → is_chain_part c n ≡ true → is_some (listed_record c n) ≡ true
part_there c n e = true_from_ne_false (is_some (listed_record c n)) (λ none. contradiction (is_chain_part c n) (no_part c n none) e)

-- ---- the parts of a pair
pub record PairParts (c : Cell) (a b : RecName) : Type 0 where
  pub below : is_below a b ≡ true
  pub first : is_some (listed_record c a) ≡ true
  pub second : is_some (listed_record c b) ≡ true

pub pair_parts : (c : Cell) (a b : RecName) → is_subject c (Pair a b) ≡ true → PairParts c a b
pair_parts c a b e =
    let outer = and_parts (is_below a b && is_chain_part c a) (is_chain_part c b) e in
    let inner = and_parts (is_below a b) (is_chain_part c a) outer.0 in
    record { below = inner.0; first = part_there c a inner.1; second = part_there c b outer.1 }

-- ---- the subjects of a cell are listed
possible : (c : Cell) (s : Subject) → is_subject c s ≡ true → Among s (possible_subjects (record_names c) (flat_map identities_of (all_records c)))
possible c (Rec n) e =
    let names = record_names c in
    in_front (Rec n) (map Rec names ++ map Side names ++ flat_map (λ a. map (Pair a) names) names) _
    (in_front (Rec n) (map Rec names ++ map Side names) _
    (in_front (Rec n) (map Rec names) _ (among_map Rec n names (named_in c n e))))
possible c (Side n) e =
    let names = record_names c in
    in_front (Side n) (map Rec names ++ map Side names ++ flat_map (λ a. map (Pair a) names) names) _
    (in_front (Side n) (map Rec names ++ map Side names) _
    (in_back (Side n) (map Rec names) (map Side names) (among_map Side n names (named_in c n (edge_there c n e)))))
possible c (Pair a b) e =
    let names = record_names c in
    let parts = pair_parts c a b e in
    in_front (Pair a b) (map Rec names ++ map Side names ++ flat_map (λ x. map (Pair x) names) names) _ (in_back (Pair a b) (map Rec names ++ map Side names) _
    (among_flat (λ x. map (Pair x) names) a (Pair a b) names (named_in c a parts.first) (among_map (Pair a) b names (named_in c b parts.second))))
possible c (Ident l) e =
    let names = record_names c in
    in_back (Ident l) (map Rec names ++ map Side names ++ flat_map (λ a. map (Pair a) names) names) _
    (among_map Ident l (flat_map identities_of (all_records c))
    (among_held identity_order exact_identities l (flat_map identities_of (all_records c)) (borne_is c l ∙ e)))

pub listed : (c : Cell) (s : Subject) → is_subject c s ≡ true → Among s (subjects c)
unfolding subjects
listed c s e =
    let all = possible_subjects (record_names c) (flat_map identities_of (all_records c)) in
    into_ascending subject_order total_subjects exact_subjects s (filter (is_subject c) all) (among_kept (is_subject c) s all (possible c s e) e)

-- what is listed is a subject
pub unlisted : (c : Cell) (s : Subject) → Among s (subjects c) → is_subject c s ≡ true
unfolding subjects
unlisted c s at =
    let all = possible_subjects (record_names c) (flat_map identities_of (all_records c)) in
    (picked (is_subject c) s all (from_ascending subject_order total_subjects exact_subjects s (filter (is_subject c) all) at)).passes

pub sorted_subjects : (c : Cell) → IsStrictlySortedBy subject_order (subjects c)
unfolding subjects
sorted_subjects c =
    sorted-ascending subject_order total_subjects (filter (is_subject c) (possible_subjects (record_names c) (flat_map identities_of (all_records c))))

-- the list of subjects holds just these
pub holds_subject : SubjectsAreListed
holds_subject c s =
    both_ways (holds subject_order s (subjects c)) (is_subject c s)
    (λ e. unlisted c s (among_held subject_order exact_subjects s (subjects c) e))
    (λ e. held_among subject_order total_subjects s (subjects c) (listed c s e))

-- ---- candidates
-- nothing touches what has no segments
no_room : (some : Bool) (n : ℕ) (rest : Bool) → n ≡ 0 → ((some && nat_lt 0 n) && rest) ≡ false
no_room true n rest none = ap (λ k. nat_lt 0 k && rest) none
no_room false n rest none = refl

-- a name that no record of the lists has has no segments
pub no_segments : (c : Cell) (n : RecName) → listed_record c n ≡ None → segments_named c n ≡ []
unfolding segments_named edge_line_of
no_segments c n none =
    let node = no_node c n none in
    let edge = no_edge c n none in
    λ i. map (λ (p : Point). (p, p)) (option_to_list (option_and_then (λ (node : Vector). the_only node.plane) (node i)))
    ++ option_map_or segments_of (option_map (λ (line : EdgeLine). line.points) (option_and_then (line_of c) (edge i))) []

segments_by : (c : Cell) (a b : RecName) (o : Option Record) → listed_record c b ≡ o → are_candidates c a b ≡ true → is_some (listed_record c b) ≡ true
segments_by c a b (Some r) is e = ap is_some is
segments_by c a b None is e =
    let ss = segments_named c a in
    let ts = segments_named c b in
    let near = (has_oversized ss || has_oversized ts) || share_a_tile ss ts in
    let touch : may_touch ss ts ≡ true = (and_parts (not (same_name a b)) (may_touch ss ts) e).1 in
    absurd (contradiction (may_touch ss ts) (no_room (nat_lt 0 (length ss)) (length ts) near (ap length (no_segments c b is))) touch)

pub candidate_listed : (c : Cell) (a b : RecName) → are_candidates c a b ≡ true → Among b (candidates_of c a)
unfolding candidates_of
candidate_listed c a b e =
    into_ascending name_order total_names exact_names b (filter (are_candidates c a) (record_names c))
    (among_kept (are_candidates c a) b (record_names c) (named_in c b (segments_by c a b (listed_record c b) refl e)) e)

pub candidate_unlisted : (c : Cell) (a b : RecName) → Among b (candidates_of c a) → are_candidates c a b ≡ true
unfolding candidates_of
candidate_unlisted c a b at =
    (picked (are_candidates c a) b (record_names c)
    (from_ascending name_order total_names exact_names b (filter (are_candidates c a) (record_names c)) at)).passes
