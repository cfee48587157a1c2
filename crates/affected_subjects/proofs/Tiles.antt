-- The changes of the nodes and edges of the first round give the tiles of the edited cell.
use Rattle.std.proofs.Common.{◌≡◌, inl, inr, ◌&&◌, ◌||◌, Bool, true, false, List, [], ◌∷◌, ◌++◌, Option, None, Some, cond, map, refl, sym, ap, ◌∙◌, arith}
use Rattle.std.specs.Prelude.{flat_map, option_and_then, option_map, option_to_list}
use Rattle.std.specs.Option.{option_map_or}
use Rattle.std.specs.List.{list_any}
use Rattle.std.proofs.lemmas.Bool.{both_ways, cases_Bool}
use Rattle.std.proofs.lemmas.Bool.Decides.{nat_tests}
use Rattle.std.proofs.lemmas.List.{append-nil}
use Rattle.s57_types.specs.declared.name.Kind.TheVariants.{Vc}
use Rattle.s57_types.specs.declared.name.RecName.{RecName}
use Rattle.s57_types.specs.declared.record.Vector.{Vector}
use Rattle.s57_types.specs.declared.cell.Cell.{Cell}
use Rattle.cell_spec.specs.declared.edit.Edit.{Edit}
use Rattle.cell_spec.specs.declared.key.Subject.{Subject}
use Rattle.cell_spec.specs.declared.key.Subject.TheVariants.{Rec, Side, Pair, Ident}
use Rattle.cell_spec.specs.Edits.{apply_edits, touched_keys}
use Rattle.cell_spec.specs.Names.{is_of_kind, name_order, same_name, same_subject, subject_order}
use Rattle.cell_spec.proofs.Orders.{names_tie, one_when_same}
use Rattle.cell_spec.proofs.SubjectOrder.{exact_subjects}
use Rattle.geometry_spec.specs.Points.{Point}
use Rattle.rule_spec.specs.Affected.{change_by, considered, first_round, is_affected, pair_of, pairs_with}
use Rattle.rule_spec.specs.Candidates.{candidates_of, segments_named}
use Rattle.rule_spec.specs.Findings.{is_below}
use Rattle.rule_spec.specs.EdgePoints.{edge_line_of, edge_points_of, line_of, segments_of}
use Rattle.rule_spec.specs.declared.line.EdgeLine.{EdgeLine}
use Rattle.rule_spec.specs.Records.{edge_named, is_edge_name, node_named, the_only}
use Rattle.row_spec.specs.Rows.{value_of}
use Rattle.answer_laws.specs.EditedAnswers.{FindTheirRecords}
use Rattle.answer_laws.proofs.Among.{Among, among_append, mapped}
use Rattle.finding_laws.specs.Tables.{Covering, IsCoveringsOf, ReadersAreListed, covering_in}
use Rattle.finding_laws.specs.Unaffected.{AffectedAreConsidered, UnaffectedRecordsKeepSegments}
use Rattle.finding_laws.proofs.Lists.{among_held, flattened}
use Rattle.record_store.specs.Stores.{course_in}
use Rattle.tile_index.specs.Changes.{ChangesSetTheirNames, covering_after, covering_given, covering_if_any}
use Rattle.affected_subjects.specs.EditedCells.{change_to, changes_to, is_chain_name}
use Rattle.affected_subjects.specs.Laws.{ChangesGiveTheTiles}
use Rattle.affected_subjects.specs.Rounds.{add_all, first_of}
use Rattle.affected_subjects.proofs.Considered.{first_is}
use Rattle.affected_subjects.proofs.EachOnce.{put}
use Rattle.affected_subjects.proofs.Vectors.{edge_is, node_is}

-- ---- the covering that a change gives
-- no kind is both
apart : (n : RecName) → is_of_kind Vc n ≡ true → is_edge_name n ≡ false
apart n e = grind (arith, nat_tests, e)

module _ (c : Cell) (n : RecName) where
  -- where a node and an edge of the name lie
  abbrev lying : Option Vector → Option Vector → List (Point × Point)
  lying node edge =
      map (λ (p : Point). (p, p)) (option_to_list (option_and_then (λ (v : Vector). the_only v.plane) node))
      ++ option_map_or segments_of (option_map (λ (line : EdgeLine). line.points) (option_and_then (line_of c) edge)) []

  lies : segments_named c n ≡ lying (node_named c n) (edge_named c n)
  unfolding segments_named edge_line_of
  lies = refl

  no_node : is_of_kind Vc n ≡ false → node_named c n ≡ None
  no_node none = node_is c n ∙ ap (λ b. cond b (course_in c n) None) none

  no_edge : is_edge_name n ≡ false → edge_named c n ≡ None
  no_edge none = edge_is c n ∙ ap (λ b. cond b (course_in c n) None) none

  node_given : (o : Option Vector) → option_and_then (λ points. covering_if_any (map (λ (p : Point). (p, p)) (option_to_list (the_only points))))
      (option_map (λ (v : Vector). v.plane) o)
      ≡ covering_if_any (lying o None)
  node_given None = refl
  node_given (Some v) = ap covering_if_any (sym (append-nil (map (λ (p : Point). (p, p)) (option_to_list (the_only v.plane)))))

  edge_given : (o : Option Vector)
      → option_and_then (λ points. covering_if_any (segments_of points))
      (option_map (λ (line : EdgeLine). line.points) (option_and_then (line_of c) o)) ≡ covering_if_any (lying None o)
  edge_given None = refl
  edge_given (Some v) = by (line_of c v)
    where
      by : (o : Option EdgeLine) → option_and_then (λ points. covering_if_any (segments_of points)) (option_map (λ (line : EdgeLine). line.points) o)
          ≡ covering_if_any (option_map_or segments_of (option_map (λ (line : EdgeLine). line.points) o) [])
      by None = refl
      by (Some line) = refl

  -- what a test of kinds takes of the points
  abbrev given_if : Bool → Bool → Option Covering
  given_if node edge =
      option_and_then (λ points. covering_if_any (cond node (map (λ (p : Point). (p, p)) (option_to_list (the_only points)))
      (cond edge (segments_of points) [])))
      (cond node (option_map (λ (v : Vector). v.plane) (node_named c n)) (edge_points_of c n))

  given_node : is_of_kind Vc n ≡ true → covering_given (change_to c n) ≡ covering_in c n
  given_node node =
      ap (λ b. given_if b (is_edge_name n)) node
      ∙ node_given (node_named c n)
      ∙ ap (λ o. covering_if_any (lying (node_named c n) o)) (sym (no_edge (apart n node)))
      ∙ ap covering_if_any (sym lies)

  given_edge : is_of_kind Vc n ≡ false → is_edge_name n ≡ true → covering_given (change_to c n) ≡ covering_in c n
  unfolding edge_line_of
  given_edge none edge =
      (λ i. given_if (none i) (edge i))
      ∙ edge_given (edge_named c n)
      ∙ ap (λ o. covering_if_any (lying o (edge_named c n))) (sym (no_node none))
      ∙ ap covering_if_any (sym lies)

  given_by : (node edge : Bool) → is_of_kind Vc n ≡ node → is_edge_name n ≡ edge → (node || edge) ≡ true → covering_given (change_to c n) ≡ covering_in c n
  given_by true edge is are e = given_node is
  given_by false true is are e = given_edge is are
  given_by false false is are e = cc

  pub given_is : is_chain_name n ≡ true → covering_given (change_to c n) ≡ covering_in c n
  given_is chain = given_by (is_of_kind Vc n) (is_edge_name n) refl refl chain

  nowhere_by : (node edge : Bool) → is_of_kind Vc n ≡ node → is_edge_name n ≡ edge → (node || edge) ≡ false → segments_named c n ≡ []
  nowhere_by true edge is are e = cc
  nowhere_by false true is are e = cc
  nowhere_by false false is are e = lies ∙ (λ i. lying (no_node is i) (no_edge are i))

  -- what has another name lies nowhere
  pub nowhere : is_chain_name n ≡ false → segments_named c n ≡ []
  nowhere none = nowhere_by (is_of_kind Vc n) (is_edge_name n) refl refl none

-- ---- the coverings after the changes
either : (b : Bool) (o : Option Covering) → cond b o o ≡ o
either true o = refl
either false o = refl

neither : (there chain : Bool) (new had : Option Covering) → chain ≡ false → cond (there && chain) new had ≡ cond chain new had
neither true chain new had e = refl
neither false chain new had e = sym (ap (λ b. cond b new had) e)

module _ (d : Cell) (n : RecName) where
  abbrev is_there : List Subject → Bool
  is_there ss = list_any (same_subject (Rec n)) ss

  -- what the name has after the changes of some subjects
  abbrev after : Option Covering → List Subject → Option Covering
  after had ss = covering_after had (flat_map (changes_to d) ss) n

  record_by : (m : RecName) (ss : List Subject) (had : Option Covering) (chain same : Bool) → is_chain_name m ≡ chain → same_name m n ≡ same
      → ((now : Option Covering) → after now ss ≡ cond (is_there ss && is_chain_name n) (covering_in d n) now)
      → covering_after had (cond chain (change_to d m ∷ []) [] ++ flat_map (changes_to d) ss) n ≡ cond ((same || is_there ss) && is_chain_name n)
      (covering_in d n) had
  record_by m ss had true true is are rest =
      let one : m ≡ n = one_when_same m n are in
      rest (cond (same_name m n) (covering_given (change_to d m)) had)
      ∙ ap (λ b. cond (is_there ss && is_chain_name n) (covering_in d n) (cond b (covering_given (change_to d m)) had)) are
      ∙ ap (cond (is_there ss && is_chain_name n) (covering_in d n)) (given_is d m is ∙ ap (covering_in d) one)
      ∙ either (is_there ss && is_chain_name n) (covering_in d n)
      ∙ sym (ap (λ b. cond b (covering_in d n) had) (ap is_chain_name (sym one) ∙ is))
  record_by m ss had true false is are rest =
      rest (cond (same_name m n) (covering_given (change_to d m)) had)
      ∙ ap (λ b. cond (is_there ss && is_chain_name n) (covering_in d n) (cond b (covering_given (change_to d m)) had)) are
  record_by m ss had false true is are rest =
      rest had ∙ neither (is_there ss) (is_chain_name n) (covering_in d n) had (ap is_chain_name (sym (one_when_same m n are)) ∙ is)
  record_by m ss had false false is are rest = rest had

  -- a node or an edge among them has its new covering
  after_is : (ss : List Subject) (had : Option Covering) → after had ss ≡ cond (is_there ss && is_chain_name n) (covering_in d n) had
  after_is [] had = refl
  after_is (Rec m ∷ ss) had =
      record_by m ss had (is_chain_name m) (same_name m n) refl refl (λ now. after_is ss now)
      ∙ ap (λ b. cond ((b || is_there ss) && is_chain_name n) (covering_in d n) had) (sym (names_tie n m))
  after_is (Side m ∷ ss) had = after_is ss had
  after_is (Pair a b ∷ ss) had = after_is ss had
  after_is (Ident l ∷ ss) had = after_is ss had

-- ---- what isn't in the first round lies where it lay
no_pair_by : (below : Bool) (a b n : RecName) → cond below (Pair a b) (Pair b a) ≡ Rec n → ⊥
no_pair_by true a b n e = cc
no_pair_by false a b n e = cc

module _ (considers : AffectedAreConsidered) (keep : UnaffectedRecordsKeepSegments) (edits : List Edit) (c : Cell) (fit : FindTheirRecords edits c) where
  abbrev d : Cell
  d = apply_edits edits c

  no_pairs : (n : RecName) (s : Subject) → Among (Rec n) (pairs_with (change_by edits c) s) → ⊥
  no_pairs n (Rec m) at = elim (among_append (Rec n) (map (pair_of m) (candidates_of c m)) (map (pair_of m) (candidates_of d m)) at) [
    | inl before ↦ let from = mapped (pair_of m) (Rec n) (candidates_of c m) before in no_pair_by (is_below m from.item) m from.item n from.gives
    | inr later ↦ let from = mapped (pair_of m) (Rec n) (candidates_of d m) later in no_pair_by (is_below m from.item) m from.item n from.gives
  ]
  no_pairs n (Side m) at = at
  no_pairs n (Pair a b) at = at
  no_pairs n (Ident l) at = at

  among_first : (n : RecName) → Among (Rec n) (considered (change_by edits c)) → Among (Rec n) (first_round (change_by edits c))
  among_first n at =
      elim (among_append (Rec n) (first_round (change_by edits c)) (flat_map (pairs_with (change_by edits c)) (first_round (change_by edits c))) at) [
        | inl first ↦ first
        | inr second ↦ let from = flattened (pairs_with (change_by edits c)) (Rec n) (first_round (change_by edits c)) second in
            absurd (no_pairs n from.item from.gives)
      ]

  affected_there : (n : RecName) → is_affected (change_by edits c) (Rec n) ≡ true → is_there d n (add_all [] (first_round (change_by edits c))) ≡ true
  affected_there n e =
      put (Rec n) [] (first_round (change_by edits c))
      (among_first n (among_held subject_order exact_subjects (Rec n) (considered (change_by edits c)) (considers edits c fit (Rec n) e)))

  same_place : (n : RecName) → is_there d n (add_all [] (first_round (change_by edits c))) ≡ false → segments_named d n ≡ segments_named c n
  same_place n none = elim (cases_Bool (is_affected (change_by edits c) (Rec n))) [
    | inl hit ↦ absurd (both_ways (is_there d n (add_all [] (first_round (change_by edits c)))) none (affected_there n hit))
    | inr clear ↦ keep edits c fit n clear
  ]

  -- what the tables say of a name
  module _ (tiles : List (RecName × Covering)) (covers : IsCoveringsOf c tiles) (n : RecName) where
    covering_by : (there chain : Bool) → is_there d n (add_all [] (first_round (change_by edits c))) ≡ there → is_chain_name n ≡ chain
        → cond (there && chain) (covering_in d n) (value_of name_order tiles n) ≡ covering_in d n
    covering_by true true is are = refl
    covering_by true false is are = covers.exact n ∙ ap covering_if_any (nowhere c n are ∙ sym (nowhere d n are))
    covering_by false chain is are = covers.exact n ∙ ap covering_if_any (sym (same_place n is))

pub changed_tiles : AffectedAreConsidered → UnaffectedRecordsKeepSegments → ReadersAreListed → ChangesSetTheirNames → ChangesGiveTheTiles
changed_tiles considers keep readers names edits c reads tiles fit are covers =
    let d = apply_edits edits c in
    let first = first_of reads (touched_keys edits c) in
    let changes = flat_map (changes_to d) first in
    record {
      ascending = names.ascending tiles changes covers.ascending;
      exact = λ n.
          names.coverings tiles changes n covers.ascending
          ∙ after_is d n first (value_of name_order tiles n)
          ∙ ap (λ ss. cond (is_there d n ss && is_chain_name n) (covering_in d n) (value_of name_order tiles n)) (first_is edits c reads are readers)
          ∙ covering_by considers keep edits c fit tiles covers n
          (is_there d n (add_all [] (first_round (change_by edits c)))) (is_chain_name n) refl refl;
    }
