-- The read sets of the subjects of a cell's records are those of all its records, sides and identifiers.
use Rattle.std.proofs.Common.{◌≡◌, inl, inr, ◌&&◌, ◌||◌, Bool, true, false, List, [], ◌∷◌, Option, None, Some, cond, is_some, map, length, refl, sym, ap}
use Rattle.std.proofs.Common.{◌∙◌, subst}
use Rattle.std.specs.Prelude.{All, IsTrue, nat_lt, flat_map, option_and_then}
use Rattle.std.proofs.lemmas.List.Elements.{All-from_recursion}
use Rattle.std.specs.Cmp.{both_ways, eq_by_cmp_equiv}
use Rattle.std.specs.List.Sorted.{IsStrictlySortedBy}
use Rattle.std.specs.Map.{keys_of}
use Rattle.std.proofs.lemmas.Bool.{both_ways as contradiction, or_right, true_from_ne_false}
use Rattle.s57_types.specs.declared.name.RecName.{RecName}
use Rattle.s57_types.specs.declared.name.Lnam.{Lnam}
use Rattle.s57_types.specs.declared.record.Rec.{Rec as Record}
use Rattle.s57_types.specs.declared.record.Rec.TheVariants.{H}
use Rattle.s57_types.specs.declared.cell.Cell.{Cell}
use Rattle.s57_types.specs.Heads.{head_name}
use Rattle.cell_spec.specs.declared.key.Key.{Key}
use Rattle.cell_spec.specs.declared.key.Subject.{Subject}
use Rattle.cell_spec.specs.declared.key.Subject.TheVariants.{Rec, Side, Pair, Ident}
use Rattle.cell_spec.specs.Lookup.{all_records, identities_of, is_named, listed_record, lookup_identity, lookup_record, name_of}
use Rattle.cell_spec.specs.Names.{identity_order, same_name, subject_order}
use Rattle.cell_spec.specs.Writable.{IsWritable}
use Rattle.cell_spec.specs.Ascending.{ascending}
use Rattle.cell_spec.proofs.Ascending.{holds, holds-ascending, sorted-ascending}
use Rattle.cell_spec.proofs.Orders.{exact_identities, names_tie, one_when_same, same_from_either, total_identities, total_names}
use Rattle.cell_spec.proofs.SubjectOrder.{exact_subjects, total_subjects}
use Rattle.rule_spec.specs.Affected.{is_single}
use Rattle.rule_spec.specs.Findings.{is_subject}
use Rattle.rule_spec.specs.Reads.{read_set}
use Rattle.rule_spec.specs.Records.{edge_named, is_edge_name, vector_of}
use Rattle.row_spec.specs.Rows.{IsAscending}
use Rattle.answer_laws.proofs.Among.{Among, among_append, among_map, each_among, found, found_only, in_back, in_front, mapped, one_of_name}
use Rattle.finding_laws.specs.Tables.{IsReadsOf}
use Rattle.finding_laws.proofs.Identities.{borne_is}
use Rattle.finding_laws.proofs.Listed.{no_edge, none_or_some}
use Rattle.finding_laws.proofs.Lists.{among_flat, among_held, flattened, held_among}
use Rattle.finding_laws.proofs.Rows.{made_ascends, value_made}
use Rattle.depend_map.specs.Changes.{kept_of}
use Rattle.cell_bench.specs.Rejudging.{is_done}
use Rattle.cell_bench.specs.Singles.{reads_row, singles_in, singles_of}
use Rattle.cell_bench.proofs.HeadNames.{no_head}

there : (o : Option Record) → is_some o ≡ true → (r : Record) × (o ≡ Some r)
there None e = cc
there (Some r) e = (r, refl)

named_same : (n : RecName) → same_name n n ≡ true
named_same n = sym (names_tie n n) ∙ (eq_by_cmp_equiv total_names).refl n

module _ (c : Cell) (w : IsWritable c) where
  -- each record is found by its name
  listed_is : (r : Record) → Among r (all_records c) → listed_record c (name_of r) ≡ Some r
  listed_is r at =
      found_only (is_named (name_of r)) (all_records c) r at (named_same (name_of r))
      (λ other there tie. sym (one_of_name same_name same_from_either name_of (all_records c) w.names_distinct r other at there tie))

  looked_up : (r : Record) → Among r (all_records c) → lookup_record c (name_of r) ≡ Some r
  looked_up r at =
      ap (λ b. cond b (Some (H c.head)) (listed_record c (name_of r))) (same_from_either (name_of r) head_name ∙ no_head c w r at) ∙ listed_is r at

  edge_is : (r : Record) → Among r (all_records c) → is_some (edge_named c (name_of r)) ≡ is_some (vector_of is_edge_name r)
  edge_is r at = ap (λ o. is_some (option_and_then (vector_of is_edge_name) o)) (looked_up r at)

  -- ---- what is listed is a subject
  side_by : (r : Record) → Among r (all_records c) → (s : Subject) → (edge : Bool) → is_some (vector_of is_edge_name r) ≡ edge
      → Among s (cond edge (Side (name_of r) ∷ []) []) → is_subject c s ≡ true
  side_by r at s true is (inl same) = ap (is_subject c) (sym same) ∙ edge_is r at ∙ is
  side_by r at s true is (inr none) = absurd none
  side_by r at s false is none = absurd none

  subject_of : (r : Record) → Among r (all_records c) → (s : Subject) → Among s (singles_of r) → is_subject c s ≡ true
  subject_of r at s (inl same) = ap (is_subject c) (sym same) ∙ ap is_some (listed_is r at)
  subject_of r at s (inr more) = elim (among_append s (cond (is_some (vector_of is_edge_name r)) (Side (name_of r) ∷ []) [])
      (map Ident (identities_of r)) more) [
        | inl side ↦ side_by r at s (is_some (vector_of is_edge_name r)) refl side
        | inr borne ↦
            let l = mapped Ident s (identities_of r) borne in
            ap (is_subject c) (sym l.gives) ∙ sym (borne_is c l.item)
            ∙ held_among identity_order total_identities l.item (flat_map identities_of (all_records c))
            (among_flat identities_of r l.item (all_records c) at l.among)
      ]

  listed_subject : (s : Subject) → Among s (singles_in c) → is_subject c s ≡ true
  listed_subject s at = let r = flattened singles_of s (all_records c) at in subject_of r.item r.among s r.gives

  -- ---- what is a subject is listed
  rec_listed : (n : RecName) → is_some (listed_record c n) ≡ true → Among (Rec n) (singles_in c)
  rec_listed n e =
      let is = there (listed_record c n) e in
      let hit = found (is_named n) (all_records c) is.0 is.1 in
      among_flat singles_of is.0 (Rec n) (all_records c) hit.among (inl (ap Rec (sym (one_when_same n (name_of is.0) hit.passes))))

  side_in : (r : Record) (n : RecName) → n ≡ name_of r → (edge : Bool) → edge ≡ true → Among (Side n) (cond edge (Side (name_of r) ∷ []) [])
  side_in r n same true e = inl (ap Side (sym same))
  side_in r n same false e = cc

  side_listed : (n : RecName) → is_some (edge_named c n) ≡ true → Among (Side n) (singles_in c)
  side_listed n e =
      let listed : is_some (listed_record c n) ≡ true = true_from_ne_false (is_some (listed_record c n)) (λ none.
      contradiction (is_some (edge_named c n)) (ap is_some (no_edge c n (none_or_some (listed_record c n) none))) e) in
      let is = there (listed_record c n) listed in
      let hit = found (is_named n) (all_records c) is.0 is.1 in
      let own : n ≡ name_of is.0 = one_when_same n (name_of is.0) hit.passes in
      let edge : is_some (vector_of is_edge_name is.0) ≡ true = sym (edge_is is.0 hit.among) ∙ ap (λ m. is_some (edge_named c m)) (sym own) ∙ e in
      among_flat singles_of is.0 (Side n) (all_records c) hit.among
      (inr (in_front (Side n) _ (map Ident (identities_of is.0)) (side_in is.0 n own (is_some (vector_of is_edge_name is.0)) edge)))

  ident_listed : (l : Lnam) → nat_lt 0 (length (lookup_identity c l)) ≡ true → Among (Ident l) (singles_in c)
  ident_listed l e =
      let at = among_held identity_order exact_identities l (flat_map identities_of (all_records c)) (borne_is c l ∙ e) in
      let r = flattened identities_of l (all_records c) at in
      among_flat singles_of r.item (Ident l) (all_records c) r.among
      (inr (in_back (Ident l) (cond (is_some (vector_of is_edge_name r.item)) (Side (name_of r.item) ∷ []) []) (map Ident (identities_of r.item))
      (among_map Ident l (identities_of r.item) r.gives)))

  subject_listed : (s : Subject) → is_single s ≡ true → is_subject c s ≡ true → Among s (singles_in c)
  subject_listed (Rec n) single e = rec_listed n e
  subject_listed (Side n) single e = side_listed n e
  subject_listed (Pair a b) single e = cc
  subject_listed (Ident l) single e = ident_listed l e

  all_singles : (s : Subject) → is_single s ≡ true → is_done (singles_in c) s ≡ is_subject c s
  all_singles s single =
      both_ways (is_done (singles_in c) s) (is_subject c s)
      (λ e. listed_subject s (among_held subject_order exact_subjects s (singles_in c) e))
      (λ e. held_among subject_order total_subjects s (singles_in c) (subject_listed s single e))

  -- ---- their read sets
  abbrev singles : List Subject
  singles = ascending subject_order (singles_in c)

  abbrev one_of_single : Subject × List Key → Bool
  one_of_single row = is_single row.0

  listed_by : (s : Subject) (single : Bool) → is_single s ≡ single
      → cond (holds subject_order s singles && single) (Some (read_set c s)) None ≡ cond (single && is_subject c s) (Some (read_set c s)) None
  listed_by s true is = ap (λ b. cond b (Some (read_set c s)) None)
      (and_true (holds subject_order s singles) ∙ holds-ascending subject_order exact_subjects s (singles_in c) ∙ all_singles s is)
    where
      and_true : (b : Bool) → (b && true) ≡ b
      and_true true = refl
      and_true false = refl
  listed_by s false is = none (holds subject_order s singles)
    where
      none : (b : Bool) → cond (b && false) (Some (read_set c s)) None ≡ None
      none true = refl
      none false = refl

  keys_are : (ss : List Subject) → keys_of (map (reads_row c) ss) ≡ ss
  keys_are [] = refl
  keys_are (s ∷ ss) = ap (λ those. s ∷ those) (keys_are ss)

  pub singles_ascend : IsAscending subject_order (map (reads_row c) singles)
  singles_ascend = subst (IsStrictlySortedBy subject_order) (sym (keys_are singles)) (sorted-ascending subject_order total_subjects (singles_in c))

  pub singles_read : IsReadsOf c (kept_of (map (reads_row c) singles))
  singles_read = record {
    ascending = made_ascends subject_order total_subjects exact_subjects (read_set c) one_of_single singles
        (sorted-ascending subject_order total_subjects (singles_in c));
    exact = λ s. value_made subject_order total_subjects exact_subjects (read_set c) one_of_single s singles ∙ listed_by s (is_single s) refl;
  }

  pub singles_there : All (λ s. IsTrue (is_single s || is_subject c s)) singles
  singles_there =
      All-from_recursion (λ s. (is_single s || is_subject c s) ≡ true) singles
      (each_among (λ s. (is_single s || is_subject c s) ≡ true) singles (λ s at. or_right (is_single s) (is_subject c s)
      (listed_subject s (among_held subject_order exact_subjects s (singles_in c)
      (sym (holds-ascending subject_order exact_subjects s (singles_in c)) ∙ held_among subject_order total_subjects s singles at)))))
