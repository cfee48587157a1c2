-- The affected list holds the affected subjects of the edited cell, each once.
use Rattle.std.proofs.Common.{◌≡◌, ◌⊎◌, inl, inr, ◌&&◌, ◌||◌, Bool, true, false, List, [], ◌∷◌, ◌++◌, cond, filter, map, refl, ap, ◌∙◌, subst}
use Rattle.std.specs.Prelude.{not, flat_map, IsPermutation}
use Rattle.std.specs.List.{IsDistinct}
use Rattle.std.specs.Cmp.{Equal-is}
use Rattle.std.proofs.lemmas.Bool.{and_from, and_parts, or_left, or_right}
use Rattle.std.proofs.lemmas.List.Kept.{IsStrictlySortedBy-filter}
use Rattle.s57_types.specs.declared.name.RecName.{RecName}
use Rattle.s57_types.specs.declared.cell.Cell.{Cell}
use Rattle.cell_spec.specs.declared.edit.Edit.{Edit}
use Rattle.cell_spec.specs.declared.key.Key.{Key}
use Rattle.cell_spec.specs.declared.key.Key.TheVariants.{Name, Refs, Foid}
use Rattle.cell_spec.specs.declared.key.Subject.{Subject}
use Rattle.cell_spec.specs.declared.key.Subject.TheVariants.{Rec, Side, Pair, Ident}
use Rattle.cell_spec.specs.Edits.{apply_edits, touched_keys}
use Rattle.cell_spec.specs.Names.{is_head_name, key_order, same_subject, subject_order}
use Rattle.cell_spec.proofs.Ascending.{holds, holds-ascending}
use Rattle.cell_spec.proofs.Orders.{exact_keys, total_keys}
use Rattle.cell_spec.proofs.SubjectOrder.{exact_subjects, total_subjects}
use Rattle.rule_spec.specs.Affected.{Change, affected_list, change_by, considered, each_once, first_round, is_affected, is_affected_with, is_single}
use Rattle.rule_spec.specs.Affected.{is_single_affected, named_by, pair_of, pairs_with, reads_key}
use Rattle.rule_spec.specs.Candidates.{are_candidates, candidates_of}
use Rattle.rule_spec.specs.Findings.{is_below, is_subject, subjects}
use Rattle.rule_spec.specs.Reads.{keys_read, read_set}
use Rattle.rule_spec.specs.Records.{is_edge_name}
use Rattle.answer_laws.specs.EditedAnswers.{FindTheirRecords}
use Rattle.answer_laws.proofs.Among.{Among, among_append, any_passes, mapped, picked}
use Rattle.finding_laws.specs.Unaffected.{AffectedAreConsidered}
use Rattle.finding_laws.proofs.Listed.{candidate_unlisted, listed, pair_parts, sorted_subjects, unlisted}
use Rattle.finding_laws.proofs.Lists.{among_held, among_kept, flattened, held_among}
use Rattle.finding_laws.proofs.Moved.{distinct_filtered, each_tested, moved_when_sorted}

-- ---- a subject reads the keys that name it
reads_first : (c : Cell) (k : Key) (s : Subject) (rest : List Key) → keys_read c s ≡ k ∷ rest → reads_key c k s ≡ true
unfolding read_set
reads_first c k s rest is =
    holds-ascending key_order exact_keys k (keys_read c s) ∙ ap (holds key_order k) is ∙ held_among key_order total_keys k (k ∷ rest) (inl refl)

record IsNamed (c : Cell) (k : Key) (s : Subject) : Type 0 where
  single : is_single s ≡ true
  reads : reads_key c k s ≡ true

named_rec : (c : Cell) (n : RecName) → IsNamed c (Name n) (Rec n)
named_rec c n = record { single = refl; reads = reads_first c (Name n) (Rec n) _ refl }

named_side : (c : Cell) (n : RecName) → IsNamed c (Name n) (Side n)
named_side c n = record { single = refl; reads = reads_first c (Name n) (Side n) _ refl }

named_edge : (c : Cell) (n : RecName) (s : Subject) (edge : Bool) → Among s (cond edge (Side n ∷ []) []) → IsNamed c (Name n) s
named_edge c n s true (inl is) = subst (IsNamed c (Name n)) is (named_side c n)
named_edge c n s true (inr at) = absurd at
named_edge c n s false at = absurd at

named_record : (c : Cell) (n : RecName) (s : Subject) (head : Bool) → Among s (cond head [] (Rec n ∷ [])) → IsNamed c (Name n) s
named_record c n s false (inl is) = subst (IsNamed c (Name n)) is (named_rec c n)
named_record c n s false (inr at) = absurd at
named_record c n s true at = absurd at

named : (c : Cell) (k : Key) (s : Subject) → Among s (named_by k) → IsNamed c k s
named c (Name n) s at = elim (among_append s (cond (is_head_name n) [] (Rec n ∷ [])) (cond (is_edge_name n) (Side n ∷ []) []) at) [
  | inl own ↦ named_record c n s (is_head_name n) own
  | inr side ↦ named_edge c n s (is_edge_name n) side
]
named c (Refs n) s at = absurd at
named c (Foid l) s (inl is) = subst (IsNamed c (Foid l)) is (record { single = refl; reads = reads_first c (Foid l) (Ident l) [] refl })
named c (Foid l) s (inr at) = absurd at

-- ---- what is considered and a subject of the edited cell is affected
module _ (edits : List Edit) (c : Cell) where
  abbrev d : Cell
  d = apply_edits edits c

  abbrev ch : Change
  ch = change_by edits c

  by_key : (k : Key) (s : Subject) → Among k (touched_keys edits c) → is_single s ≡ true → (is_subject c s || is_subject d s) ≡ true → reads_key c k s ≡ true
      → is_single_affected ch s ≡ true
  by_key k s at single is reads =
      let hit = any_passes (λ j. reads_key c j s || reads_key d j s) k (touched_keys edits c) at (or_left (reads_key c k s) (reads_key d k s) reads) in
      and_from _ _ (and_from _ _ single is) hit

  first_affected : (s : Subject) → Among s (first_round ch) → is_subject d s ≡ true → is_single_affected ch s ≡ true
  first_affected s at is =
      let readers : Key → List Subject = λ k. filter (λ t. is_single t && reads_key c k t) (subjects c) in
      let from = flattened (λ k. readers k ++ named_by k) s (touched_keys edits c) at in
      elim (among_append s (readers from.item) (named_by from.item) from.gives) [
        | inl there ↦
            let hit = picked (λ t. is_single t && reads_key c from.item t) s (subjects c) there in
            let both = and_parts (is_single s) (reads_key c from.item s) hit.passes in
            by_key from.item s from.among both.0 (or_left (is_subject c s) (is_subject d s) (unlisted c s hit.among)) both.1
        | inr there ↦
            let hit = named c from.item s there in
            by_key from.item s from.among hit.single (or_right (is_subject c s) (is_subject d s) is) hit.reads
      ]

  pair_by : (n m : RecName) (below : Bool) → Among (Rec n) (first_round ch) → (are_candidates c n m || are_candidates d n m) ≡ true
      → is_subject d (cond below (Pair n m) (Pair m n)) ≡ true
      → is_affected ch (cond below (Pair n m) (Pair m n)) ≡ true
  pair_by n m true at near is =
      and_from (is_below n m) _ (pair_parts d n m is).below
      (or_left (is_affected_with ch n m) (is_affected_with ch m n) (and_from _ _ (first_affected (Rec n) at ((pair_parts d n m is).first)) near))
  pair_by n m false at near is =
      and_from (is_below m n) _ ((pair_parts d m n is).below)
      (or_right (is_affected_with ch m n) (is_affected_with ch n m) (and_from _ _ (first_affected (Rec n) at ((pair_parts d m n is).second)) near))

  near_by : (n m : RecName) → Among m (candidates_of c n) ⊎ Among m (candidates_of d n) → (are_candidates c n m || are_candidates d n m) ≡ true
  near_by n m (inl before) = or_left (are_candidates c n m) (are_candidates d n m) (candidate_unlisted c n m before)
  near_by n m (inr after) = or_right (are_candidates c n m) (are_candidates d n m) (candidate_unlisted d n m after)

  pairs_affected : (t s : Subject) → Among t (first_round ch) → Among s (pairs_with ch t) → is_subject d s ≡ true → is_affected ch s ≡ true
  pairs_affected (Rec n) s at there is = elim (among_append s (map (pair_of n) (candidates_of c n)) (map (pair_of n) (candidates_of d n)) there) [
    | inl before ↦ let from = mapped (pair_of n) s (candidates_of c n) before in one from.item from.gives (inl from.among)
    | inr after ↦ let from = mapped (pair_of n) s (candidates_of d n) after in one from.item from.gives (inr from.among)
  ]
    where
      one : (m : RecName) → pair_of n m ≡ s → Among m (candidates_of c n) ⊎ Among m (candidates_of d n) → is_affected ch s ≡ true
      one m gives near = subst (λ r. is_affected ch r ≡ true) gives (pair_by n m (is_below n m) at (near_by n m near) (ap (is_subject d) gives ∙ is))
  pairs_affected (Side n) s at there is = absurd there
  pairs_affected (Pair a b) s at there is = absurd there
  pairs_affected (Ident l) s at there is = absurd there

  single_affected : (s : Subject) → is_single_affected ch s ≡ true → is_affected ch s ≡ true
  single_affected (Rec n) e = e
  single_affected (Side n) e = e
  single_affected (Pair a b) e = cc
  single_affected (Ident l) e = e

  pub considered_affected : (s : Subject) → Among s (considered ch) → is_subject d s ≡ true → is_affected ch s ≡ true
  considered_affected s at is = elim (among_append s (first_round ch) (flat_map (pairs_with ch) (first_round ch)) at) [
    | inl first ↦ single_affected s (first_affected s first is)
    | inr later ↦ let from = flattened (pairs_with ch) s (first_round ch) later in pairs_affected from.item s from.among from.gives is
  ]

-- ---- each item once
once_distinct : (ss : List Subject) → IsDistinct same_subject (each_once ss)
unfolding IsDistinct
once_distinct [] = tt
once_distinct (s ∷ ss) = (
  each_tested (λ t. same_subject s t ≡ false) (λ t. not (same_subject s t)) (λ t e. clear (same_subject s t) e) (each_once ss),
  distinct_filtered same_subject (λ t. not (same_subject s t)) (each_once ss) (once_distinct ss),
)
  where
    clear : (b : Bool) → not b ≡ true → b ≡ false
    clear true e = cc
    clear false e = refl

from_once : (s : Subject) (ss : List Subject) → Among s (each_once ss) → Among s ss
from_once s [] at = absurd at
from_once s (t ∷ ss) (inl is) = inl is
from_once s (t ∷ ss) (inr at) = inr (from_once s ss (picked (λ u. not (same_subject t u)) s (each_once ss) at).among)

once_by : (s t : Subject) (ss : List Subject) (same : Bool) → same_subject t s ≡ same → Among s (each_once ss) → Among s (each_once (t ∷ ss))
once_by s t ss true is at = inl (exact_subjects t s ((Equal-is (subject_order t s)).0 is))
once_by s t ss false is at = inr (among_kept (λ u. not (same_subject t u)) s (each_once ss) at (ap not is))

into_once : (s : Subject) (ss : List Subject) → Among s ss → Among s (each_once ss)
into_once s [] at = absurd at
into_once s (t ∷ ss) (inl is) = inl is
into_once s (t ∷ ss) (inr at) = once_by s t ss (same_subject t s) refl (into_once s ss at)

-- ---- the law
module _ (considers : AffectedAreConsidered) (edits : List Edit) (c : Cell) (fit : FindTheirRecords edits c) where
  abbrev e : Cell
  e = apply_edits edits c

  abbrev these : List Subject
  these = filter (is_subject e) (each_once (considered (change_by edits c)))

  abbrev those : List Subject
  those = filter (is_affected (change_by edits c)) (subjects e)

  there : (s : Subject) → Among s these → Among s those
  there s at =
      let hit = picked (is_subject e) s (each_once (considered (change_by edits c))) at in
      among_kept (is_affected (change_by edits c)) s (subjects e) (listed e s hit.passes)
      (considered_affected edits c s (from_once s (considered (change_by edits c)) hit.among) hit.passes)

  back : (s : Subject) → Among s those → Among s these
  back s at =
      let hit = picked (is_affected (change_by edits c)) s (subjects e) at in
      among_kept (is_subject e) s (each_once (considered (change_by edits c)))
      (into_once s (considered (change_by edits c)) (among_held subject_order exact_subjects s (considered (change_by edits c))
      (considers edits c fit s hit.passes)))
      (unlisted e s hit.among)

  pub is_set : IsPermutation (affected_list (change_by edits c)) those
  unfolding affected_list
  is_set =
      moved_when_sorted subject_order total_subjects exact_subjects these those
      (distinct_filtered same_subject (is_subject e) (each_once (considered (change_by edits c))) (once_distinct (considered (change_by edits c))))
      (IsStrictlySortedBy-filter subject_order (is_affected (change_by edits c)) (subjects e) (sorted_subjects e))
      there back
