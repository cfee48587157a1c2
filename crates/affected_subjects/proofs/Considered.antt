-- The two rounds by tables that are right look at what is considered.
use Rattle.std.proofs.Common.{◌≡◌, ◌⊎◌, inl, inr, false, List, [], ◌++◌, map, refl, ap, ◌∙◌}
use Rattle.std.specs.Prelude.{flat_map}
use Rattle.s57_types.specs.declared.name.RecName.{RecName}
use Rattle.s57_types.specs.declared.cell.Cell.{Cell}
use Rattle.cell_spec.specs.declared.edit.Edit.{Edit}
use Rattle.cell_spec.specs.declared.key.Key.{Key}
use Rattle.cell_spec.specs.declared.key.Subject.{Subject}
use Rattle.cell_spec.specs.declared.key.Subject.TheVariants.{Rec, Side, Pair, Ident}
use Rattle.cell_spec.specs.Edits.{apply_edits, touched_keys}
use Rattle.cell_spec.specs.Names.{same_name}
use Rattle.rule_spec.specs.Affected.{change_by, first_round, named_by, pair_of, pairs_with}
use Rattle.finding_laws.specs.Tables.{Covering, IsCoveringsOf, IsReadsOf, MatesAreCandidates, ReadersAreListed, mates_in}
use Rattle.answer_laws.proofs.Among.{Among}
use Rattle.affected_subjects.specs.Laws.{RoundsAreConsidered}
use Rattle.affected_subjects.specs.NewPairs.{pairs_found}
use Rattle.affected_subjects.specs.Rounds.{add_all, add_each, first_of, looked_at}
use Rattle.affected_subjects.proofs.EachOnce.{considered_once, each_in_turn, is_once, is_there}
use Rattle.affected_subjects.proofs.FirstRound.{no_pair}
use Rattle.affected_subjects.proofs.Mutual.{apart, mutual_mate}
use Rattle.affected_subjects.proofs.NewPairs.{found, mated, mates_rise}

module _ (edits : List Edit) (c : Cell) (reads : List (Subject × List Key)) (are : IsReadsOf c reads) where
  -- the first round by the table
  pub first_is : ReadersAreListed → first_of reads (touched_keys edits c) ≡ add_all [] (first_round (change_by edits c))
  first_is readers =
      each_in_turn (looked_at reads) [] (touched_keys edits c)
      ∙ (λ i. add_all [] (flat_map (λ k. readers c reads are k i ++ named_by k) (touched_keys edits c)))

  module _ (mates : MatesAreCandidates) (before after : List (RecName × Covering)) (covers : IsCoveringsOf c before)
      (covered : IsCoveringsOf (apply_edits edits c) after) where
    mated_is : (s : Subject) → mated before after s ≡ pairs_with (change_by edits c) s
    mated_is (Rec n) = λ i. map (pair_of n) (mates c before covers n i) ++ map (pair_of n) (mates (apply_edits edits c) after covered n i)
    mated_is (Side n) = refl
    mated_is (Pair a b) = refl
    mated_is (Ident l) = refl

  -- the pairs that a walk over the first round finds are those that it lacks
  found_is : ReadersAreListed → (before after : List (RecName × Covering)) → IsCoveringsOf c before → IsCoveringsOf (apply_edits edits c) after
      → first_of reads (touched_keys edits c) ++ pairs_found before after (first_of reads (touched_keys edits c))
      ≡ add_each (mated before after) (first_of reads (touched_keys edits c)) (first_of reads (touched_keys edits c))
  found_is readers before after covers covered =
      found before after (mates_rise before covers.ascending) (mates_rise after covered.ascending)
      (λ n m. turned n m) (λ n m. apart_names n m)
      (first_of reads (touched_keys edits c))
      (λ n m. ap (is_there (pair_of n m)) (first_is readers ∙ is_once (first_round (change_by edits c))) ∙ no_pair (change_by edits c) n m)
      (first_of reads (touched_keys edits c))
    where
      turned : (n m : RecName) → Among m (mates_in before n) ⊎ Among m (mates_in after n) → Among n (mates_in before m) ⊎ Among n (mates_in after m)
      turned n m (inl at) = inl (mutual_mate c before covers n m at)
      turned n m (inr at) = inr (mutual_mate (apply_edits edits c) after covered n m at)

      apart_names : (n m : RecName) → Among m (mates_in before n) ⊎ Among m (mates_in after n) → same_name n m ≡ false
      apart_names n m (inl at) = apart c before covers n m at
      apart_names n m (inr at) = apart (apply_edits edits c) after covered n m at

pub rounds : ReadersAreListed → MatesAreCandidates → RoundsAreConsidered
rounds readers mates edits c reads before after are covers covered =
    let first = first_of reads (touched_keys edits c) in
    let is = first_is edits c reads are readers in
    found_is edits c reads are readers before after covers covered
    ∙ each_in_turn (mated before after) first first
    ∙ (λ i. add_all (is i) (flat_map (λ s. mated_is edits c reads are mates before after covers covered s i) (is i)))
    ∙ considered_once (pairs_with (change_by edits c)) (first_round (change_by edits c))
