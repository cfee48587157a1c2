-- The judged subjects of a writable cell are its subjects.
use Rattle.std.proofs.Common.{◌≡◌, ◌<◌, ◌≤◌, All, Bool, true, false, ◌&&◌, ◌||◌, List, [], ◌∷◌, ◌++◌, map, filter, Option, Some, None, cond, find, get_or}
use Rattle.std.proofs.Common.{is_some, refl, sym, ap, ◌∙◌, arith}
use Rattle.std.specs.Prelude.{◌==◌, option_and_then}
use Rattle.std.specs.List.{list_any, flat_map}
use Rattle.std.specs.List.Sorted.{IsStrictlySortedBy}
use Rattle.std.specs.Ordering.{is_eq}
use Rattle.std.proofs.lemmas.Bool.{and_parts}
use Rattle.std.proofs.lemmas.List.Folds.{list_any-append}
use Rattle.std.proofs.lemmas.List.Kept.{IsStrictlySortedBy-filter}
use Rattle.s57_types.specs.Fitness.{is_feature_kind}
use Rattle.s57_types.specs.Heads.{head_name}
use Rattle.s57_types.specs.declared.name.Kind.{Kind}
use Rattle.s57_types.specs.declared.name.Kind.TheVariants.{Vi, Vc, Ve, Fe, Head}
use Rattle.s57_types.specs.declared.name.Lnam.{Lnam}
use Rattle.s57_types.specs.declared.name.RecName.{RecName}
use Rattle.s57_types.specs.declared.record.Rec.{Rec as Record}
use Rattle.s57_types.specs.declared.record.Rec.TheVariants.{V, F, H}
use Rattle.s57_types.specs.declared.cell.Cell.{Cell}
use Rattle.cell_spec.specs.declared.key.Subject.{Subject}
use Rattle.cell_spec.specs.declared.key.Subject.TheVariants.{Rec, Side, Pair, Ident}
use Rattle.cell_spec.specs.Ascending.{order_by}
use Rattle.cell_spec.specs.Lookup.{all_records, identities_of, is_named, listed_record, name_of}
use Rattle.cell_spec.specs.Names.{identity_parts, is_head_name, is_of_kind, kind_rank, name_order, subject_order}
use Rattle.cell_spec.specs.Writable.{IsWritable}
use Rattle.rule_spec.specs.Findings.{is_below, is_subject, possible_subjects, record_names, subjects}
use Rattle.rule_spec.specs.Records.{edge_named, is_chain_part, is_edge_name, node_named, vector_named, vector_of}
use Rattle.cell_findings.specs.Judged.{identities_in, is_part_name, judged_subjects, names_in, part_pairs, records_and_sides}
use Rattle.cell_spec.proofs.Ascending.{holds, holds-ascending, same_when_sorted, sorted-ascending}
use Rattle.cell_spec.proofs.Orders.{exact_identities, exact_names, names_tie, one_when_same, same_from_either, total_identities, total_names}
use Rattle.cell_findings.proofs.Ascending.{all_append, any_and, any-map, any_same, holds-filter, holds-item, sorted-append}
use Rattle.cell_findings.proofs.Blocks.{block, each_before, in_first, in_four, in_fourth, in_second, in_third, in_two_and_two, no_pairs, none_mapped}
use Rattle.cell_findings.proofs.Gathering.{all_before, all_behind}
use Rattle.cell_findings.proofs.Identities.{borne_is}
use Rattle.cell_findings.proofs.Pairs.{has, held_pairs, mapped_all, mapped_sorted, pairs_all, pairs_sorted}
use Rattle.cell_spec.proofs.SubjectOrder.{exact_subjects, pairs_tie, total_subjects}
use Rattle.cell_findings.proofs.WritableLists.{AreWellNamed, all_well_named}

-- ---- tests
or_false : (b : Bool) → (b || false) ≡ b
or_false true = refl
or_false false = refl

and_no : (b : Bool) → false ≡ (b && false)
and_no true = refl
and_no false = refl

and_yes : (b : Bool) → b ≡ (b && true)
and_yes true = refl
and_yes false = refl

-- one or the other, or more, of which a test holds
either : (s t more : Bool) → ((s && t) || (more && t)) ≡ ((s || more) && t)
either true true more = refl
either true false true = refl
either true false false = refl
either false t more = refl

kept : (s p : Bool) → (s ≡ true → p ≡ true) → (s && p) ≡ s
kept true p h = h refl
kept false p h = refl

-- ---- records by name
found_by : {X : Type 0} (p : X → Bool) (b : Bool) (x : X) (xs : List X) → is_some (find p xs) ≡ list_any p xs
    → is_some (cond b (Some x) (find p xs)) ≡ (b || list_any p xs)
found_by p true x xs h = refl
found_by p false x xs h = h

found_any : {X : Type 0} (p : X → Bool) (xs : List X) → is_some (find p xs) ≡ list_any p xs
found_any p [] = refl
found_any p (x ∷ xs) = found_by p (p x) x xs (found_any p xs)

has_records : (n : RecName) (rs : List Record) → has n (map name_of rs) ≡ list_any (is_named n) rs
has_records n rs = any-map (λ m. is_eq (name_order n m)) name_of rs ∙ any_same (λ r. is_eq (name_order n (name_of r))) (is_named n)
    (λ r. names_tie n (name_of r) ∙ same_from_either (name_of r) n) rs

some_if : {X : Type 0} (b : Bool) (x : X) → is_some (cond b (Some x) None) ≡ b
some_if true x = refl
some_if false x = refl

-- ---- nodes and edges by name
no_part : (k : Kind) → is_feature_kind k ≡ true → ((kind_rank k == 1) ≡ false) × ((kind_rank k == 2) ≡ false)
no_part Vi e = absurd cc
no_part Vc e = absurd cc
no_part Ve e = absurd cc
no_part Fe e = (refl, refl)
no_part Head e = absurd cc

-- a test on names that no name of a feature or of a head passes
module _ (test : RecName → Bool) (no_feature : (m : RecName) → is_feature_kind m.kind ≡ true → test m ≡ false) (no_head : test head_name ≡ false) where
  vector_by : (n : RecName) (hit more : Bool) (r : Record) (rest : Option Record) → (hit ≡ true → is_some (vector_of test r) ≡ test n)
      → is_some (option_and_then (vector_of test) rest) ≡ (test n && more)
      → is_some (option_and_then (vector_of test) (cond hit (Some r) rest)) ≡ (test n && (hit || more))
  vector_by n true more r rest e h = e refl ∙ and_yes (test n)
  vector_by n false more r rest e h = h

  -- a record of such a name is a vector record
  found_vector : (n : RecName) (rs : List Record) → AreWellNamed rs → is_some (option_and_then (vector_of test) (find (is_named n) rs)) ≡
      (test n && list_any (is_named n) rs)
  found_vector n [] w = and_no (test n)
  found_vector n (V v ∷ rs) w =
      vector_by n (is_named n (V v)) (list_any (is_named n) rs) (V v) (find (is_named n) rs)
      (λ e. some_if (test v.name) v ∙ ap test (sym (one_when_same n v.name e)))
      (found_vector n rs w.1)
  found_vector n (F f ∷ rs) w =
      vector_by n (is_named n (F f)) (list_any (is_named n) rs) (F f) (find (is_named n) rs)
      (λ e. sym (no_feature f.name w.0) ∙ ap test (sym (one_when_same n f.name e)))
      (found_vector n rs w.1)
  found_vector n (H h ∷ rs) w = absurd (cc (w.0))

  beside_head : (c : Cell) (n : RecName) (of_head : Bool) → is_head_name n ≡ of_head → AreWellNamed (all_records c)
      → is_some (option_and_then (vector_of test) (cond of_head (Some (H c.head)) (listed_record c n))) ≡ (test n && list_any (is_named n) (all_records c))
  beside_head c n true e w = ap (λ b. b && list_any (is_named n) (all_records c)) (sym (ap test (one_when_same n head_name e) ∙ no_head))
  beside_head c n false e w = found_vector n (all_records c) w

  -- such a name is that of a vector record where a record of the lists has it
  pub vector_found : (c : Cell) (n : RecName) → AreWellNamed (all_records c)
      → is_some (vector_named test c n) ≡ (test n && list_any (is_named n) (all_records c))
  vector_found c n w = beside_head c n (is_head_name n) refl w

-- ---- each two of some names
held_squares : (a b : RecName) (names firsts : List RecName) → holds subject_order (Pair a b) (flat_map (λ f. map (Pair f) names) firsts) ≡
    (has a firsts && has b names)
held_squares a b names [] = refl
held_squares a b names (x ∷ firsts) =
    let tie = λ (y : Subject). is_eq (subject_order (Pair a b) y) in
    list_any-append tie (map (Pair x) names) (flat_map (λ f. map (Pair f) names) firsts)
    ∙ (λ i. (any-map tie (Pair x) names
    ∙ any_same (λ y. tie (Pair x y)) (λ y. is_eq (name_order a x) && is_eq (name_order b y)) (pairs_tie a b x) names
    ∙ any_and (is_eq (name_order a x)) (λ y. is_eq (name_order b y)) names) i || held_squares a b names firsts i)
    ∙ either (is_eq (name_order a x)) (has b names) (has a firsts)

module _ (c : Cell) (w : IsWritable c) where
  abbrev names : List RecName
  names = names_in c

  abbrev edges : List RecName
  edges = filter is_edge_name names

  abbrev parts : List RecName
  parts = filter is_part_name names

  abbrev borne : List Lnam
  borne = flat_map identities_of (all_records c)

  abbrev is_there : RecName → Bool
  is_there n = list_any (is_named n) (all_records c)

  has_name : (n : RecName) → has n names ≡ is_there n
  has_name n = holds-ascending name_order exact_names n (record_names c) ∙ has_records n (all_records c)

  edge_found : (n : RecName) → is_some (edge_named c n) ≡ (is_edge_name n && is_there n)
  edge_found n = vector_found is_edge_name (λ m e. (no_part m.kind e).1) refl c n (all_well_named c w)

  node_found : (n : RecName) → is_some (node_named c n) ≡ (is_of_kind Vc n && is_there n)
  node_found n = vector_found (is_of_kind Vc) (λ m e. (no_part m.kind e).0) refl c n (all_well_named c w)

  part_found : (n : RecName) → is_chain_part c n ≡ (is_part_name n && is_there n)
  part_found n = (λ i. node_found n i || edge_found n i) ∙ either (is_of_kind Vc n) (is_there n) (is_edge_name n)

  -- an edge is a name among those of edges
  has_edge : (n : RecName) → has n edges ≡ is_some (edge_named c n)
  has_edge n = holds-filter name_order exact_names is_edge_name n names ∙ ap (λ b. is_edge_name n && b) (has_name n) ∙ sym (edge_found n)

  -- a connected node or an edge is a name among those of connected nodes and edges
  has_part : (n : RecName) → has n parts ≡ is_chain_part c n
  has_part n = holds-filter name_order exact_names is_part_name n names ∙ ap (λ b. is_part_name n && b) (has_name n) ∙ sym (part_found n)

  names_sorted : IsStrictlySortedBy name_order names
  names_sorted = sorted-ascending name_order total_names (record_names c)

  parts_sorted : IsStrictlySortedBy name_order parts
  parts_sorted = IsStrictlySortedBy-filter name_order is_part_name names names_sorted

  -- ---- the judged subjects ascend
  records_sorted : IsStrictlySortedBy subject_order (map Rec names)
  records_sorted = mapped_sorted name_order Rec (λ a b. refl) names names_sorted

  sides_sorted : IsStrictlySortedBy subject_order (map Side edges)
  sides_sorted = mapped_sorted name_order Side (λ a b. refl) edges (IsStrictlySortedBy-filter name_order is_edge_name names names_sorted)

  identities_sorted : IsStrictlySortedBy subject_order (map Ident (identities_in c))
  identities_sorted = mapped_sorted (order_by identity_parts) Ident (λ a b. refl) (identities_in c)
      (sorted-ascending (order_by identity_parts) total_identities borne)

  first_two_sorted : IsStrictlySortedBy subject_order (records_and_sides names)
  first_two_sorted =
      sorted-append subject_order (map Rec names) (map Side edges) records_sorted sides_sorted
      (each_before 0 (map Rec names) (map Side edges)
      (mapped_all (λ s. block s ≤ 0) Rec (λ n. omega arith) names) (mapped_all (λ s. 0 < block s) Side (λ n. omega arith) edges))

  last_two_sorted : IsStrictlySortedBy subject_order (part_pairs names ++ map Ident (identities_in c))
  last_two_sorted =
      sorted-append subject_order (part_pairs names) (map Ident (identities_in c)) (pairs_sorted parts parts_sorted) identities_sorted
      (each_before 2 (part_pairs names) (map Ident (identities_in c))
      (pairs_all (λ s. block s ≤ 2) (λ a b. omega arith) parts) (mapped_all (λ s. 2 < block s) Ident (λ l. omega arith) (identities_in c)))

  judged_sorted : IsStrictlySortedBy subject_order (judged_subjects c)
  judged_sorted =
      sorted-append subject_order (records_and_sides names) (part_pairs names ++ map Ident (identities_in c)) first_two_sorted last_two_sorted
      (each_before 1 (records_and_sides names) (part_pairs names ++ map Ident (identities_in c))
      (all_append (λ s. block s ≤ 1) (map Rec names) (map Side edges) (mapped_all (λ s. block s ≤ 1) Rec (λ n. omega arith) names)
      (mapped_all (λ s. block s ≤ 1) Side (λ n. omega arith) edges))
      (all_append (λ s. 1 < block s) (part_pairs names) (map Ident (identities_in c)) (pairs_all (λ s. 1 < block s) (λ a b. omega arith) parts)
      (mapped_all (λ s. 1 < block s) Ident (λ l. omega arith) (identities_in c))))

  -- ---- what is among the judged subjects
  abbrev is_judged : Subject → Bool
  is_judged s = holds subject_order s (judged_subjects c)

  in_blocks : (s : Subject) → is_judged s
      ≡ ((holds subject_order s (map Rec names) || holds subject_order s (map Side edges)) ||
      (holds subject_order s (part_pairs names) || holds subject_order s (map Ident (identities_in c))))
  in_blocks s = in_two_and_two s (map Rec names) (map Side edges) (part_pairs names) (map Ident (identities_in c))

  judged_record : (n : RecName) → is_judged (Rec n) ≡ is_subject c (Rec n)
  judged_record n =
      in_blocks (Rec n)
      ∙ (λ i. ((any-map (λ y. is_eq (subject_order (Rec n) y)) Rec names ∙ has_name n ∙ sym (found_any (is_named n) (all_records c)))
      i || none_mapped (Rec n) Side (λ m. refl) edges i)
      || (no_pairs (Rec n) (λ a b. refl) parts i || none_mapped (Rec n) Ident (λ l. refl) (identities_in c) i))
      ∙ or_false (is_subject c (Rec n) || false)
      ∙ or_false (is_subject c (Rec n))

  judged_side : (n : RecName) → is_judged (Side n) ≡ is_subject c (Side n)
  judged_side n =
      in_blocks (Side n)
      ∙ (λ i. (none_mapped (Side n) Rec (λ m. refl) names i || (any-map (λ y. is_eq (subject_order (Side n) y)) Side edges ∙ has_edge n) i)
      || (no_pairs (Side n) (λ a b. refl) parts i || none_mapped (Side n) Ident (λ l. refl) (identities_in c) i))
      ∙ or_false (is_subject c (Side n))

  judged_pair : (a b : RecName) → is_judged (Pair a b) ≡ is_subject c (Pair a b)
  judged_pair a b =
      in_blocks (Pair a b)
      ∙ (λ i. (none_mapped (Pair a b) Rec (λ m. refl) names i || none_mapped (Pair a b) Side (λ m. refl) edges i)
      || ((held_pairs a b parts parts_sorted ∙ (λ j. (is_below a b && has_part a j) && has_part b j)) i || none_mapped (Pair a b) Ident
      (λ l. refl) (identities_in c) i))
      ∙ or_false (is_subject c (Pair a b))

  judged_identity : (l : Lnam) → is_judged (Ident l) ≡ is_subject c (Ident l)
  judged_identity l =
      in_blocks (Ident l)
      ∙ (λ i. (none_mapped (Ident l) Rec (λ m. refl) names i || none_mapped (Ident l) Side (λ m. refl) edges i)
      || (no_pairs (Ident l) (λ a b. refl) parts i
      || (any-map (λ y. is_eq (subject_order (Ident l) y)) Ident (identities_in c)
      ∙ holds-ascending (order_by identity_parts) exact_identities l borne ∙ borne_is c l) i))

  judged_is : (s : Subject) → is_judged s ≡ is_subject c s
  judged_is (Rec n) = judged_record n
  judged_is (Side n) = judged_side n
  judged_is (Pair a b) = judged_pair a b
  judged_is (Ident l) = judged_identity l

  -- each judged subject is one
  pub all_are_subjects : All (λ s. is_subject c s ≡ true) (judged_subjects c)
  all_are_subjects =
      λ k d within. sym (judged_is (get_or (judged_subjects c) k d)) ∙ holds-item subject_order total_subjects (judged_subjects c) k d within

  -- each two connected nodes or edges are a subject
  pub pairs_are_subjects : All (λ s. is_subject c s ≡ true) (part_pairs names)
  pairs_are_subjects =
      all_before (λ s. is_subject c s ≡ true) (part_pairs names) (map Ident (identities_in c))
      (all_behind (λ s. is_subject c s ≡ true) (records_and_sides names) (part_pairs names ++ map Ident (identities_in c)) all_are_subjects)

  -- each name of a connected node or an edge is that of one
  pub parts_are_chained : All (λ n. is_chain_part c n ≡ true) (filter is_part_name names)
  parts_are_chained = λ k d within. sym (has_part (get_or parts k d)) ∙ holds-item name_order total_names parts k d within

  -- ---- each subject is a possible one
  abbrev all_names : List RecName
  all_names = record_names c

  abbrev squares : List Subject
  squares = flat_map (λ a. map (Pair a) all_names) all_names

  abbrev is_possible : Subject → Bool
  is_possible s = holds subject_order s (possible_subjects all_names borne)

  in_possible : (s : Subject) → is_possible s
      ≡ (((holds subject_order s (map Rec all_names) || holds subject_order s (map Side all_names)) || holds subject_order s squares)
      || holds subject_order s (map Ident borne))
  in_possible s = in_four s (map Rec all_names) (map Side all_names) squares (map Ident borne)

  part_there : (n : RecName) → is_chain_part c n ≡ true → has n all_names ≡ true
  part_there n e = has_records n (all_records c) ∙ (and_parts (is_part_name n) (is_there n) (sym (part_found n) ∙ e)).1

  abbrev among : {X : Type 0} → Subject → (X → Subject) → List X → Bool
  among s f xs = holds subject_order s (map f xs)

  possible : (s : Subject) → is_subject c s ≡ true → is_possible s ≡ true
  possible (Rec n) e =
      in_possible (Rec n)
      ∙ in_first (among (Rec n) Rec all_names) (among (Rec n) Side all_names) (holds subject_order (Rec n) squares) (among (Rec n) Ident borne)
      (any-map (λ y. is_eq (subject_order (Rec n) y)) Rec all_names ∙ has_records n (all_records c)
      ∙ sym (found_any (is_named n) (all_records c)) ∙ e)
  possible (Side n) e =
      in_possible (Side n)
      ∙ in_second (among (Side n) Rec all_names) (among (Side n) Side all_names) (holds subject_order (Side n) squares)
      (among (Side n) Ident borne) (any-map (λ y. is_eq (subject_order (Side n) y)) Side all_names ∙ has_records n (all_records c)
      ∙ (and_parts (is_edge_name n) (is_there n) (sym (edge_found n) ∙ e)).1)
  possible (Pair a b) e =
      let both = and_parts (is_below a b && is_chain_part c a) (is_chain_part c b) e in
      in_possible (Pair a b)
      ∙ in_third (among (Pair a b) Rec all_names) (among (Pair a b) Side all_names) (holds subject_order (Pair a b) squares)
      (among (Pair a b) Ident borne) (held_squares a b all_names all_names
      ∙ (λ i. part_there a (and_parts (is_below a b) (is_chain_part c a) both.0).1 i && part_there b both.1 i))
  possible (Ident l) e =
      in_possible (Ident l)
      ∙ in_fourth (among (Ident l) Rec all_names) (among (Ident l) Side all_names) (holds subject_order (Ident l) squares)
      (among (Ident l) Ident borne) (any-map (λ y. is_eq (subject_order (Ident l) y)) Ident borne ∙ borne_is c l ∙ e)

  -- ---- the subjects are the judged ones
  held : (q : Subject) → holds subject_order q (subjects c) ≡ is_judged q
  unfolding subjects
  held q =
      holds-ascending subject_order exact_subjects q (filter (is_subject c) (possible_subjects all_names borne))
      ∙ holds-filter subject_order exact_subjects (is_subject c) q (possible_subjects all_names borne)
      ∙ kept (is_subject c q) (is_possible q) (possible q)
      ∙ sym (judged_is q)

  subjects_sorted : IsStrictlySortedBy subject_order (subjects c)
  unfolding subjects
  subjects_sorted = sorted-ascending subject_order total_subjects (filter (is_subject c) (possible_subjects all_names borne))

  pub subjects_are : subjects c ≡ judged_subjects c
  subjects_are = same_when_sorted subject_order total_subjects exact_subjects (subjects c) (judged_subjects c) subjects_sorted judged_sorted held
