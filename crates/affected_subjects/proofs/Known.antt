-- Pairs of mates are subjects of the cell whose tiles tell the mates, so that a second round by tiles that keep all mates finds subjects of the edited cell.
use Rattle.std.proofs.Common.{◌≡◌, ◌&&◌, ◌||◌, inl, inr, Bool, true, false, not, List, [], ◌∷◌, ◌++◌, Option, None, Some, cond}
use Rattle.std.proofs.Common.{filter, fold, length, map, is_some, is_eq, is_lt, refl, sym, ap, subst, ◌∙◌, Ordering, Less, Equal, Greater}
use Rattle.std.specs.Prelude.{flat_map, nat_lt, option_and_then, option_map, option_to_list}
use Rattle.std.specs.List.{list_all}
use Rattle.std.specs.Option.{option_map_or}
use Rattle.std.specs.Ordering.{ordering_reverse}
use Rattle.std.proofs.lemmas.Bool.{and_parts}
use Rattle.s57_types.specs.declared.name.RecName.{RecName}
use Rattle.s57_types.specs.declared.record.Vector.{Vector}
use Rattle.s57_types.specs.declared.cell.Cell.{Cell}
use Rattle.cell_spec.specs.declared.key.Subject.{Subject}
use Rattle.cell_spec.specs.declared.key.Subject.TheVariants.{Rec, Side, Pair, Ident}
use Rattle.cell_spec.specs.Names.{name_order, same_name, same_subject}
use Rattle.cell_spec.proofs.Orders.{names_tie, same_from_either, total_names}
use Rattle.geometry_spec.specs.Points.{Point}
use Rattle.rule_spec.specs.Affected.{each_once, pair_of}
use Rattle.rule_spec.specs.Candidates.{are_candidates, has_oversized, may_touch, segments_named, share_a_tile}
use Rattle.rule_spec.specs.declared.line.EdgeLine.{EdgeLine}
use Rattle.rule_spec.specs.EdgePoints.{edge_line_of, line_of, segments_of}
use Rattle.rule_spec.specs.Findings.{is_below, is_subject}
use Rattle.rule_spec.specs.Records.{edge_named, is_chain_part, node_named, the_only}
use Rattle.answer_laws.proofs.Among.{Among, picked}
use Rattle.finding_laws.specs.Tables.{Covering, IsCoveringsOf, mates_in}
use Rattle.finding_laws.proofs.Listed.{candidate_unlisted}
use Rattle.finding_laws.proofs.Mates.{mates_are_candidates}
use Rattle.affected_subjects.specs.NewPairs.{Walked, is_new, new_pairs, pairs_brought, noted, walk_past, with_pairs, with_passed}

-- ---- all of a list
module _ {X : Type 0} (p : X → Bool) where
  both_hold : (a b : Bool) → a ≡ true → b ≡ true → (a && b) ≡ true
  both_hold a b e f = λ i. e i && f i

  pub all_append : (xs ys : List X) → list_all p xs ≡ true → list_all p ys ≡ true → list_all p (xs ++ ys) ≡ true
  all_append [] ys e f = f
  all_append (x ∷ xs) ys e f =
      let parts = and_parts (p x) (list_all p xs) e in
      both_hold (p x) (list_all p (xs ++ ys)) parts.0 (all_append xs ys parts.1 f)

  kept_by : (x : X) (rest : List X) (hit : Bool) → p x ≡ true → list_all p rest ≡ true → list_all p (cond hit (x ∷ rest) rest) ≡ true
  kept_by x rest true e f = both_hold (p x) (list_all p rest) e f
  kept_by x rest false e f = f

  all_filter : (q : X → Bool) (xs : List X) → list_all p xs ≡ true → list_all p (filter q xs) ≡ true
  all_filter q [] e = refl
  all_filter q (x ∷ xs) e =
      let parts = and_parts (p x) (list_all p xs) e in
      kept_by x (filter q xs) (q x) parts.0 (all_filter q xs parts.1)

  pub all_flat : {Y : Type 0} (gives : Y → List X) → ((y : Y) → list_all p (gives y) ≡ true) → (ys : List Y) → list_all p (flat_map gives ys) ≡ true
  all_flat gives each [] = refl
  all_flat gives each (y ∷ ys) = all_append (gives y) (flat_map gives ys) (each y) (all_flat gives each ys)

  all_map : {Y : Type 0} (f : Y → X) (ys : List Y) → ((y : Y) → Among y ys → p (f y) ≡ true) → list_all p (map f ys) ≡ true
  all_map f [] each = refl
  all_map f (y ∷ ys) each = both_hold (p (f y)) (list_all p (map f ys)) (each y (inl refl)) (all_map f ys (λ z at. each z (inr at)))

  kept_all : (b : Bool) (x : X) (rest : List X) → b ≡ true → cond b (x ∷ rest) rest ≡ x ∷ rest
  kept_all b x rest e = ap (λ hit. cond hit (x ∷ rest) rest) e

  none_left : (b : Bool) (x : X) (rest : List X) → b ≡ true → cond (not b) (x ∷ rest) rest ≡ rest
  none_left b x rest e = ap (λ hit. cond (not hit) (x ∷ rest) rest) e

  -- what passes needs no test
  pub passing_end : (front back : List X) → list_all p back ≡ true → filter p front ++ back ≡ filter p (front ++ back)
  passing_end [] [] all = refl
  passing_end [] (x ∷ back) all =
      let parts = and_parts (p x) (list_all p back) all in
      sym (kept_all (p x) x (filter p back) parts.0 ∙ ap (λ rest. x ∷ rest) (sym (passing_end [] back parts.1)))
  passing_end (x ∷ front) back all = by (p x) ∙ ap (λ rest. cond (p x) (x ∷ rest) rest) (passing_end front back all)
    where
      by : (hit : Bool) → cond hit (x ∷ filter p front) (filter p front) ++ back ≡ cond hit (x ∷ (filter p front ++ back)) (filter p front ++ back)
      by true = refl
      by false = refl

  pub failing_end : (front back : List X) → list_all p back ≡ true → filter (λ x. not (p x)) front ≡ filter (λ x. not (p x)) (front ++ back)
  failing_end [] [] all = refl
  failing_end [] (x ∷ back) all =
      let parts = and_parts (p x) (list_all p back) all in
      failing_end [] back parts.1 ∙ sym (none_left (p x) x (filter (λ y. not (p y)) back) parts.0)
  failing_end (x ∷ front) back all = ap (λ rest. cond (not (p x)) (x ∷ rest) rest) (failing_end front back all)

pub all_once : (p : Subject → Bool) (ss : List Subject) → list_all p ss ≡ true → list_all p (each_once ss) ≡ true
all_once p [] e = refl
all_once p (s ∷ ss) e =
    let parts = and_parts (p s) (list_all p ss) e in
    both_hold p (p s) (list_all p (filter (λ t. not (same_subject s t)) (each_once ss))) parts.0
    (all_filter p (λ t. not (same_subject s t)) (each_once ss) (all_once p ss parts.1))

-- ---- what has segments is a connected node or an edge
no_segments_by : (c : Cell) (n : RecName) → node_named c n ≡ None → edge_named c n ≡ None → segments_named c n ≡ []
unfolding segments_named edge_line_of
no_segments_by c n node edge =
    λ i. map (λ (p : Point). (p, p)) (option_to_list (option_and_then (λ (node : Vector). the_only node.plane) (node i)))
    ++ option_map_or segments_of (option_map (λ (line : EdgeLine). line.points) (option_and_then (line_of c) (edge i))) []

part_by : (c : Cell) (n : RecName) (node edge : Option Vector) → node_named c n ≡ node → edge_named c n ≡ edge
    → nat_lt 0 (length (segments_named c n)) ≡ true → is_chain_part c n ≡ true
part_by c n None None e f some = let none = ap (λ ss. nat_lt 0 (length ss)) (no_segments_by c n e f) in absurd (cc)
part_by c n (Some v) edge e f some = ap (λ o. is_some o || is_some (edge_named c n)) e
part_by c n None (Some v) e f some = λ i. is_some (e i) || is_some (f i)

-- ---- candidates are pairs
module _ (a b : RecName) where
  other_by : (answer : Ordering) → name_order a b ≡ answer → is_lt answer ≡ false → not (is_eq answer) ≡ true → is_below b a ≡ true
  other_by Less is below apart = cc
  other_by Equal is below apart = cc
  other_by Greater is below apart = ap is_lt (total_names.antisymm b a ∙ ap ordering_reverse is)

  pub other_below : is_below a b ≡ false → not (same_name a b) ≡ true → is_below b a ≡ true
  other_below below apart = other_by (name_order a b) refl below (ap not (names_tie a b ∙ same_from_either b a) ∙ apart)

  module _ (c : Cell) where
    pair_by : (below : Bool) → is_below a b ≡ below → not (same_name a b) ≡ true → is_chain_part c a ≡ true → is_chain_part c b ≡ true
        → is_subject c (cond below (Pair a b) (Pair b a)) ≡ true
    pair_by true is apart first second = λ i. (is i && first i) && second i
    pair_by false is apart first second = λ i. (other_below is apart i && second i) && first i

    candidates_pair : are_candidates c a b ≡ true → is_subject c (pair_of a b) ≡ true
    candidates_pair e =
        let ss = segments_named c a in
        let ts = segments_named c b in
        let near = (has_oversized ss || has_oversized ts) || share_a_tile ss ts in
        let outer = and_parts (not (same_name a b)) (may_touch ss ts) e in
        let inner = and_parts (nat_lt 0 (length ss) && nat_lt 0 (length ts)) near outer.1 in
        let some = and_parts (nat_lt 0 (length ss)) (nat_lt 0 (length ts)) inner.0 in
        pair_by (is_below a b) refl outer.0 (part_by c a (node_named c a) (edge_named c a) refl refl some.0)
        (part_by c b (node_named c b) (edge_named c b) refl refl some.1)

-- ---- a second round that keeps all mates
module _ (c : Cell) (before after : List (RecName × Covering)) (covers : IsCoveringsOf c after)
    (kept : (n : RecName) → mates_in after n ≡ mates_in before n) where
  pairs_known : (n : RecName) (q : RecName → Bool) (mates : List RecName) → mates_in after n ≡ mates
      → list_all (is_subject c) (map (pair_of n) (filter q mates)) ≡ true
  pairs_known n q mates is =
      all_map (is_subject c) (pair_of n) (filter q mates) (λ m at.
      candidates_pair n m c (candidate_unlisted c n m
      (subst (Among m) (sym is ∙ mates_are_candidates c after covers n) (picked q m mates at).among)))

  past_by : (n : RecName) (w : Walked) (b : Bool) → list_all (is_subject c) w.pairs ≡ true → list_all (is_subject c)
      (cond b w (with_pairs (noted n w) (pairs_brought (mates_in before n) (mates_in after n) (with_passed n w.passed) n))).pairs ≡ true
  past_by n w true all = all
  past_by n w false all =
      let first = new_pairs (with_passed n w.passed) n [] (mates_in before n) in
      let then_ = new_pairs (with_passed n w.passed) n (mates_in before n) (mates_in after n) in
      all_append (is_subject c) w.pairs (first ++ then_) all
      (all_append (is_subject c) first then_ (pairs_known n (is_new (with_passed n w.passed) []) (mates_in before n) (kept n))
      (pairs_known n (is_new (with_passed n w.passed) (mates_in before n)) (mates_in after n) refl))

  past : (w : Walked) (s : Subject) → list_all (is_subject c) w.pairs ≡ true → list_all (is_subject c) (walk_past before after w s).pairs ≡ true
  past w (Rec n) all = past_by n w (w.passed n) all
  past w (Side n) all = all
  past w (Pair a b) all = all
  past w (Ident l) all = all

  -- the pairs that a walk finds are subjects of the cell
  pub found_known : (ss : List Subject) (w : Walked) → list_all (is_subject c) w.pairs ≡ true
      → list_all (is_subject c) (fold (walk_past before after) w ss).pairs ≡ true
  found_known [] w all = all
  found_known (s ∷ ss) w all = found_known ss (walk_past before after w s) (past w s all)
