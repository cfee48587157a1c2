-- Each affected subject is among those that are looked at.
use Rattle.std.proofs.Common.{◌≡◌, inl, inr, ◌&&◌, ◌||◌, Bool, true, false, List, [], ◌∷◌, ◌++◌, Option, None, Some, cond, map, filter, length, is_some}
use Rattle.std.proofs.Common.{refl, sym, ap, ◌∙◌, subst}
use Rattle.std.specs.Prelude.{nat_lt, flat_map, option_and_then}
use Rattle.std.specs.List.{list_any, AllByRecursion}
use Rattle.std.specs.declared.cmp.Ordering.{Ordering}
use Rattle.std.specs.declared.cmp.Ordering.TheVariants.{Less, Equal, Greater}
use Rattle.std.specs.Ordering.{is_lt, ordering_reverse}
use Rattle.std.specs.Cmp.{Equal-is}
use Rattle.std.proofs.lemmas.Bool.{and_parts, cases_Bool, or_cases, or_from}
use Rattle.std.proofs.lemmas.List.Elements.{All-from_recursion}
use Rattle.s57_types.specs.declared.name.RecName.{RecName}
use Rattle.s57_types.specs.declared.name.Lnam.{Lnam}
use Rattle.s57_types.specs.declared.record.Rec.{Rec as Record}
use Rattle.s57_types.specs.declared.record.Rec.TheVariants.{V, F, H}
use Rattle.s57_types.specs.declared.cell.Cell.{Cell}
use Rattle.s57_types.specs.Heads.{head_name}
use Rattle.cell_spec.specs.declared.edit.Edit.{Edit}
use Rattle.cell_spec.specs.declared.key.Key.{Key}
use Rattle.cell_spec.specs.declared.key.Key.TheVariants.{Name, Foid}
use Rattle.cell_spec.specs.declared.key.Subject.{Subject}
use Rattle.cell_spec.specs.declared.key.Subject.TheVariants.{Rec, Side, Pair, Ident}
use Rattle.cell_spec.specs.AnswersAlike.{AnswerAlike}
use Rattle.cell_spec.specs.Edits.{apply_edits, touched_keys}
use Rattle.cell_spec.specs.Lookup.{all_records, head_and_records, is_named, listed_record, lookup_record, name_of}
use Rattle.cell_spec.specs.Names.{is_head_name, key_order, name_order, same_key, same_name, subject_order}
use Rattle.cell_spec.proofs.Orders.{exact_keys, one_when_same, same_from_either, total_names}
use Rattle.cell_spec.proofs.SubjectOrder.{total_subjects}
use Rattle.rule_spec.specs.Affected.{change_by, considered, first_round, is_affected, is_affected_with, is_single, is_single_affected, named_by, pair_of}
use Rattle.rule_spec.specs.Affected.{pairs_with, reads_key}
use Rattle.rule_spec.specs.Candidates.{are_candidates, candidates_of}
use Rattle.rule_spec.specs.Findings.{is_below, is_subject, subjects}
use Rattle.rule_spec.specs.Reads.{read_set}
use Rattle.rule_spec.specs.Records.{is_edge_name, vector_of}
use Rattle.read_laws.specs.FindingsFollowReads.{FindingsFollowReads}
use Rattle.read_laws.proofs.Lists.{each_weaker}
use Rattle.answer_laws.specs.EditedAnswers.{FindTheirRecords, UntouchedKeysKeepAnswers, is_touched}
use Rattle.answer_laws.proofs.Among.{Among, among_map, found, in_back, in_front, passing}
use Rattle.answer_laws.proofs.EditedNames.{no_head_after}
use Rattle.finding_laws.specs.Unaffected.{AffectedAreConsidered}
use Rattle.finding_laws.proofs.KeptReads.{none_read}
use Rattle.finding_laws.proofs.Listed.{candidate_listed, listed}
use Rattle.finding_laws.proofs.Lists.{among_flat, among_kept, held_among}
use Rattle.finding_laws.proofs.Tests.{any_either}

less_turned : (o : Ordering) → is_lt o ≡ true → is_lt (ordering_reverse o) ≡ false
less_turned Less e = refl
less_turned Equal e = refl
less_turned Greater e = cc

not_below : (a b : RecName) → is_below a b ≡ true → is_below b a ≡ false
not_below a b e = ap is_lt (total_names.antisymm b a) ∙ less_turned (name_order a b) e

module _ (edits : List Edit) (c : Cell) (fit : FindTheirRecords edits c) (follow : FindingsFollowReads) (keep : UntouchedKeysKeepAnswers) where
  abbrev d : Cell
  d = apply_edits edits c

  abbrev touched : List Key
  touched = touched_keys edits c

  abbrev read_before : Subject → Bool
  read_before s = list_any (λ k. reads_key c k s) touched

  abbrev read_at_all : Subject → Bool
  read_at_all s = list_any (λ k. reads_key c k s || reads_key d k s) touched

  record Naming (s : Subject) : Type 0 where
    key : Key
    among : Among key touched
    names : Among s (named_by key)

  by_reading : (s : Subject) → is_single s ≡ true → is_subject c s ≡ true → read_before s ≡ true → Among s (first_round (change_by edits c))
  by_reading s single is hit =
      let k = passing (λ k. reads_key c k s) touched hit in
      among_flat (λ k. filter (λ t. is_single t && reads_key c k t) (subjects c) ++ named_by k) k.item s touched k.among
      (in_front s _ (named_by k.item)
      (among_kept (λ t. is_single t && reads_key c k.item t) s (subjects c) (listed c s is) (ap (λ b. b && reads_key c k.item s) single ∙ k.passes)))

  by_naming : (s : Subject) → Naming s → Among s (first_round (change_by edits c))
  by_naming s n =
      among_flat (λ k. filter (λ t. is_single t && reads_key c k t) (subjects c) ++ named_by k) n.key s touched n.among
      (in_back s (filter (λ t. is_single t && reads_key c n.key t) (subjects c)) (named_by n.key) n.names)

  -- a touched key that names a subject
  key_named : (k : Key) → is_touched edits c k ≡ true → Among k touched
  key_named k hit =
      let at = passing (same_key k) touched hit in
      subst (λ j. Among j touched) (sym (exact_keys k at.item ((Equal-is (key_order k at.item)).0 at.passes))) at.among

  -- a new record's name is touched
  new_name : (n : RecName) → (lookup_record c n ≡ lookup_record d n → ⊥) → Among (Name n) touched
  new_name n differs = elim (cases_Bool (is_touched edits c (Name n))) [
    | inl hit ↦ key_named (Name n) hit
    | inr clear ↦ absurd (differs (keep edits c fit (Name n) clear))
  ]

  -- a record of the edited cell isn't named as the head
  not_the_head : (n : RecName) (o : Option Record) → listed_record d n ≡ o → is_some o ≡ true → same_name n head_name ≡ false
  not_the_head n None is e = cc
  not_the_head n (Some r) is e =
      let hit = found (is_named n) (all_records d) r is in
      ap (λ m. same_name m head_name) (one_when_same n (name_of r) hit.passes) ∙ same_from_either (name_of r) head_name ∙ no_head_after edits c fit r hit.among

  -- the answers to a name other than the head's are those of the lists
  as_listed : (cell : Cell) (n : RecName) → same_name n head_name ≡ false → lookup_record cell n ≡ listed_record cell n
  as_listed cell n other = ap (λ b. cond b (Some (H cell.head)) (listed_record cell n)) other

  naming_rec : (n : RecName) → is_subject c (Rec n) ≡ false → is_subject d (Rec n) ≡ true → Naming (Rec n)
  naming_rec n before after =
      let other = not_the_head n (listed_record d n) refl after in
      record {
        key = Name n;
        among = new_name n (λ same. let now : is_subject c (Rec n) ≡ is_subject d (Rec n) =
            ap is_some (sym (as_listed c n other) ∙ same ∙ as_listed d n other) in cc);
        names = subst (λ b. Among (Rec n) (cond b [] (Rec n ∷ []) ++ cond (is_edge_name n) (Side n ∷ []) [])) (sym other) (inl refl);
      }

  edge_kind_by : (n : RecName) (o : Option Record) → lookup_record d n ≡ o → is_some (option_and_then (vector_of is_edge_name) o) ≡ true → is_edge_name n ≡ true
  edge_kind_by n None is e = cc
  edge_kind_by n (Some (F f)) is e = cc
  edge_kind_by n (Some (H h)) is e = cc
  edge_kind_by n (Some (V v)) is e =
      let hit = found (is_named n) (head_and_records d) (V v) is in
      ap is_edge_name (one_when_same n v.name hit.passes) ∙ by (is_edge_name v.name) e
    where
      by : (b : Bool) → is_some (cond b (Some v) None) ≡ true → b ≡ true
      by true h = refl
      by false h = cc

  abbrev named_record : RecName → List Subject
  named_record n = cond (is_head_name n) [] (Rec n ∷ [])

  naming_side : (n : RecName) → is_subject c (Side n) ≡ false → is_subject d (Side n) ≡ true → Naming (Side n)
  naming_side n before after =
      let kind : is_edge_name n ≡ true = edge_kind_by n (lookup_record d n) refl after in
      record {
        key = Name n;
        among = new_name n (λ same. let now = ap (λ o. is_some (option_and_then (vector_of is_edge_name) o)) same in cc);
        names = subst (λ b. Among (Side n) (named_record n ++ cond b (Side n ∷ []) [])) (sym kind) (in_back (Side n) (named_record n) (Side n ∷ []) (inl refl));
      }

  naming_ident : (l : Lnam) → is_subject c (Ident l) ≡ false → is_subject d (Ident l) ≡ true → Naming (Ident l)
  naming_ident l before after = record {
    key = Foid l;
    among = elim (cases_Bool (is_touched edits c (Foid l))) [
      | inl hit ↦ key_named (Foid l) hit
      | inr clear ↦ let now = ap (λ (ns : List RecName). nat_lt 0 (length ns)) (keep edits c fit (Foid l) clear) in absurd cc
    ];
    names = inl refl;
  }

  -- a subject of the cell before that reads no touched key there reads none after
  same_reading : (s : Subject) → read_before s ≡ false → read_at_all s ≡ false
  same_reading s none =
      let all : AllByRecursion (λ k. AnswerAlike c d k) (read_set c s) =
      each_weaker (λ k. is_touched edits c k ≡ false) (λ k. AnswerAlike c d k) (keep edits c fit) (read_set c s) (none_read touched (read_set c s) none) in
      let same : read_set c s ≡ read_set d s = (follow s c d (All-from_recursion (λ k. AnswerAlike c d k) (read_set c s) all)).reads in
      any_either (λ k. reads_key c k s) (λ k. reads_key d k s) touched
      ∙ or_from (read_before s) _ none (ap (λ rs. list_any (λ k. list_any (same_key k) rs) touched) (sym same) ∙ none)

  single_first : (s : Subject) → is_single s ≡ true → (is_subject c s ≡ false → is_subject d s ≡ true → Naming s) → (before after : Bool)
      → is_subject c s ≡ before → is_subject d s ≡ after
      → ((before || after) && read_at_all s) ≡ true → Among s (first_round (change_by edits c))
  single_first s single names false false is_before is_after e = cc
  single_first s single names false true is_before is_after e = by_naming s (names is_before is_after)
  single_first s single names true after is_before is_after e = elim (cases_Bool (read_before s)) [
    | inl hit ↦ by_reading s single is_before hit
    | inr none ↦ let no = same_reading s none in absurd cc
  ]

  single_considered : (s : Subject) → is_single_affected (change_by edits c) s ≡ true → Among s (first_round (change_by edits c))
  single_considered (Rec n) e = single_first (Rec n) refl (naming_rec n) (is_subject c (Rec n)) (is_subject d (Rec n)) refl refl e
  single_considered (Side n) e = single_first (Side n) refl (naming_side n) (is_subject c (Side n)) (is_subject d (Side n)) refl refl e
  single_considered (Pair a b) e = cc
  single_considered (Ident l) e = single_first (Ident l) refl (naming_ident l) (is_subject c (Ident l)) (is_subject d (Ident l)) refl refl e

  -- ---- pairs
  pair_listed : (a b : RecName) (s : Subject) → pair_of a b ≡ s → (are_candidates c a b || are_candidates d a b) ≡ true
      → Among s (pairs_with (change_by edits c) (Rec a))
  pair_listed a b s is e = subst (λ t. Among t (pairs_with (change_by edits c) (Rec a))) is (elim (or_cases (are_candidates c a b) (are_candidates d a b) e) [
    | inl before ↦
        in_front (pair_of a b) (map (pair_of a) (candidates_of c a)) (map (pair_of a) (candidates_of d a))
        (among_map (pair_of a) b (candidates_of c a) (candidate_listed c a b before))
    | inr after ↦
        in_back (pair_of a b) (map (pair_of a) (candidates_of c a)) (map (pair_of a) (candidates_of d a))
        (among_map (pair_of a) b (candidates_of d a) (candidate_listed d a b after))
  ])

  with_one : (a b : RecName) (s : Subject) → pair_of a b ≡ s → is_affected_with (change_by edits c) a b ≡ true → Among s (considered (change_by edits c))
  with_one a b s is e =
      let both = and_parts (is_single_affected (change_by edits c) (Rec a)) (are_candidates c a b || are_candidates d a b) e in
      in_back s (first_round (change_by edits c)) (flat_map (pairs_with (change_by edits c)) (first_round (change_by edits c)))
      (among_flat (pairs_with (change_by edits c)) (Rec a) s (first_round (change_by edits c)) (single_considered (Rec a) both.0) (pair_listed a b s is both.1))

  among_considered : (s : Subject) → is_affected (change_by edits c) s ≡ true → Among s (considered (change_by edits c))
  among_considered (Rec n) e = in_front (Rec n) (first_round (change_by edits c)) _ (single_considered (Rec n) e)
  among_considered (Side n) e = in_front (Side n) (first_round (change_by edits c)) _ (single_considered (Side n) e)
  among_considered (Ident l) e = in_front (Ident l) (first_round (change_by edits c)) _ (single_considered (Ident l) e)
  among_considered (Pair a b) e =
      let outer = and_parts (is_below a b) (is_affected_with (change_by edits c) a b || is_affected_with (change_by edits c) b a) e in
      elim (or_cases (is_affected_with (change_by edits c) a b) (is_affected_with (change_by edits c) b a) outer.1) [
        | inl first ↦ with_one a b (Pair a b) (ap (λ t. cond t (Pair a b) (Pair b a)) outer.0) first
        | inr second ↦ with_one b a (Pair a b) (ap (λ t. cond t (Pair b a) (Pair a b)) (not_below a b outer.0)) second
      ]

pub all_considered : FindingsFollowReads → UntouchedKeysKeepAnswers → AffectedAreConsidered
all_considered follow keep edits c fit s e =
    held_among subject_order total_subjects s (considered (change_by edits c)) (among_considered edits c fit follow keep s e)
