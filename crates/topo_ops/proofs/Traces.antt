-- Where features run when the line of one edge is cut into those of two.
use Rattle.std.proofs.Common.{◌≡◌, Bool, true, false, List, [], ◌∷◌, ◌++◌, Option, Some, cond, refl, sym, ap, ◌∙◌}
use Rattle.std.specs.Prelude.{◌==◌, flat_map, reverse}
use Rattle.std.specs.List.{AllByRecursion, dedup, dedup_from}
use Rattle.std.specs.Option.{option_map_or}
use Rattle.std.proofs.lemmas.Bool.{and_from}
use Rattle.std.proofs.lemmas.Bool.Decides.{Decides-int_eq}
use Rattle.std.proofs.lemmas.List.{append_assoc, append-nil, reverse-append}
use Rattle.std.proofs.lemmas.List.Concat.{flat_map-append}
use Rattle.s57_types.specs.declared.name.RecName.{RecName}
use Rattle.s57_types.specs.declared.record.Spot.{Spot}
use Rattle.cell_spec.specs.Names.{same_name}
use Rattle.cell_spec.proofs.Orders.{one_when_same}
use Rattle.geometry_spec.specs.Points.{Point}
use Rattle.rule_spec.specs.declared.line.EdgeLine.{EdgeLine}
use Rattle.rule_spec.specs.Boundary.{line_along, reversed_line}
use Rattle.rule_spec.specs.EdgePoints.{same_point}
use Rattle.topo_ops.specs.FeatureTrace.{points_along, trace_along}
use Rattle.topo_ops.specs.Split.{on_edge, split_place, split_places}

-- ---- a point that stands twice in a row counts once
module _ {X : Type 0} (same : X → X → Bool) (p : X) (own : same p p ≡ true) where
  twice_by : (k : X) (b : List X) (found : Bool) → same p k ≡ found
      → cond found (dedup_from same k (p ∷ b)) (k ∷ dedup_from same p (p ∷ b)) ≡ cond found (dedup_from same k b) (k ∷ dedup_from same p b)
  twice_by k b true is = ap (λ t. cond t (dedup_from same k b) (k ∷ dedup_from same p b)) is
  twice_by k b false is = ap (λ t. k ∷ cond t (dedup_from same p b) (p ∷ dedup_from same p b)) own

  from_twice : (k : X) (a b : List X) → dedup_from same k (a ++ p ∷ p ∷ b) ≡ dedup_from same k (a ++ p ∷ b)
  from_twice k [] b = twice_by k b (same p k) refl
  from_twice k (x ∷ a) b = λ i. cond (same x k) (from_twice k a b i) (k ∷ from_twice x a b i)

  pub dedup_twice : (a b : List X) → dedup same (a ++ p ∷ p ∷ b) ≡ dedup same (a ++ p ∷ b)
  dedup_twice [] b = ap (λ t. cond t (dedup_from same p b) (p ∷ dedup_from same p b)) own
  dedup_twice (x ∷ a) b = from_twice x a b

own_point : (p : Point) → same_point p p ≡ true
own_point p = and_from _ _ ((Decides-int_eq p.0 p.0).1 refl) ((Decides-int_eq p.1 p.1).1 refl)

-- ---- pieces of a trace that stand for each other wherever they stand
Step : List Point → List Point → Type 0
Step l r = (before behind : List Point) → dedup same_point (before ++ (l ++ behind)) ≡ dedup same_point (before ++ (r ++ behind))

same_step : (l r : List Point) → l ≡ r → Step l r
unfolding Step
same_step l r e before behind = ap (λ t. dedup same_point (before ++ (t ++ behind))) e

-- a point given twice
twice_step : (x y : List Point) (p : Point) (l r : List Point) → l ≡ x ++ p ∷ p ∷ y → r ≡ x ++ p ∷ y → Step l r
unfolding Step
twice_step x y p l r left right before behind =
    let two : before ++ (l ++ behind) ≡ (before ++ x) ++ p ∷ p ∷ (y ++ behind) =
    ap (λ t. before ++ (t ++ behind)) left ∙ ap (λ t. before ++ t) (append_assoc x (p ∷ p ∷ y) behind) ∙ sym (append_assoc before x (p ∷ p ∷ (y ++ behind))) in
    let one : before ++ (r ++ behind) ≡ (before ++ x) ++ p ∷ (y ++ behind) =
    ap (λ t. before ++ (t ++ behind)) right ∙ ap (λ t. before ++ t) (append_assoc x (p ∷ y) behind) ∙ sym (append_assoc before x (p ∷ (y ++ behind))) in
    ap (dedup same_point) two ∙ dedup_twice same_point p (own_point p) (before ++ x) (y ++ behind) ∙ ap (dedup same_point) (sym one)

-- ---- lines
-- names have the same lines but two: the line of the one is cut at a point into those of both
pub record Halved (whole parts : RecName → Option EdgeLine) (e f : RecName) : Type 0 where
  pub rest : (n : RecName) → same_name n e ≡ false → same_name n f ≡ false → parts n ≡ whole n
  pub line : EdgeLine
  pub first : EdgeLine
  pub second : EdgeLine
  pub line_is : whole e ≡ Some line
  pub first_is : parts e ≡ Some first
  pub second_is : parts f ≡ Some second
  pub start : List Point
  pub cut : Point
  pub tail : List Point
  pub line_points : line.points ≡ start ++ cut ∷ tail
  pub first_points : first.points ≡ start ++ cut ∷ []
  pub second_points : second.points ≡ cut ∷ tail

along : (lines : RecName → Option EdgeLine) (s : Spot) (line : EdgeLine) (back : Bool) → lines s.to ≡ Some line → (s.ornt == 2) ≡ back
    → points_along lines s ≡ cond back (reverse line.points) line.points
along lines s line true is back =
    ap (λ o. option_map_or (λ (l : EdgeLine). (line_along s.ornt l).points) o []) is
    ∙ ap (λ t. (let l : EdgeLine = cond t (reversed_line line) line in l.points)) back
along lines s line false is back =
    ap (λ o. option_map_or (λ (l : EdgeLine). (line_along s.ornt l).points) o []) is
    ∙ ap (λ t. (let l : EdgeLine = cond t (reversed_line line) line in l.points)) back

turned : (p : Point) (tail : List Point) → reverse (p ∷ tail) ≡ reverse tail ++ p ∷ []
turned p tail = reverse-append (p ∷ []) tail

module _ (whole parts : RecName → Option EdgeLine) (e f : RecName) (h : Halved whole parts e f) where
  by : (s : Spot) (named : Bool) → same_name s.to e ≡ named → (back : Bool) → (s.ornt == 2) ≡ back → same_name s.to f ≡ false
      → Step (flat_map (points_along parts) (cond named (cond back (on_edge f s ∷ s ∷ []) (s ∷ on_edge f s ∷ [])) (s ∷ []))) (points_along whole s)
  by s false is back turn other =
      same_step (points_along parts s ++ []) (points_along whole s)
      (append-nil (points_along parts s) ∙ ap (λ o. option_map_or (λ (l : EdgeLine). (line_along s.ornt l).points) o []) (h.rest s.to is other))
  by s true is true turn other =
      let here : s.to ≡ e = one_when_same s.to e is in
      let first : points_along parts s ≡ reverse h.first.points = along parts s h.first true (ap parts here ∙ h.first_is) turn in
      let second : points_along parts (on_edge f s) ≡ reverse h.second.points = along parts (on_edge f s) h.second true h.second_is turn in
      let line : points_along whole s ≡ reverse h.line.points = along whole s h.line true (ap whole here ∙ h.line_is) turn in
      let first_turned : points_along parts s ≡ h.cut ∷ reverse h.start =
      first ∙ ap reverse h.first_points ∙ reverse-append h.start (h.cut ∷ []) in
      let second_turned : points_along parts (on_edge f s) ≡ reverse h.tail ++ h.cut ∷ [] = second ∙ ap reverse h.second_points ∙ turned h.cut h.tail in
      let line_turned : points_along whole s ≡ reverse h.tail ++ h.cut ∷ reverse h.start =
      line ∙ ap reverse h.line_points ∙ reverse-append h.start (h.cut ∷ h.tail) ∙ ap (λ t. t ++ reverse h.start) (turned h.cut h.tail)
      ∙ append_assoc (reverse h.tail) (h.cut ∷ []) (reverse h.start) in
      twice_step (reverse h.tail) (reverse h.start) h.cut _ _
      ((λ i. second_turned i ++ (append-nil (points_along parts s) ∙ first_turned) i) ∙ append_assoc (reverse h.tail) (h.cut ∷ []) (h.cut ∷ reverse h.start))
      line_turned
  by s true is false turn other =
      let here : s.to ≡ e = one_when_same s.to e is in
      let first : points_along parts s ≡ h.start ++ h.cut ∷ [] = along parts s h.first false (ap parts here ∙ h.first_is) turn ∙ h.first_points in
      let second : points_along parts (on_edge f s) ≡ h.cut ∷ h.tail = along parts (on_edge f s) h.second false h.second_is turn ∙ h.second_points in
      let line : points_along whole s ≡ h.start ++ h.cut ∷ h.tail = along whole s h.line false (ap whole here ∙ h.line_is) turn ∙ h.line_points in
      twice_step h.start h.tail h.cut _ _
      ((λ i. first i ++ (append-nil (points_along parts (on_edge f s)) ∙ second) i) ∙ append_assoc h.start (h.cut ∷ []) (h.cut ∷ h.tail))
      line

  place : (s : Spot) → same_name s.to f ≡ false → Step (flat_map (points_along parts) (split_place e f s)) (points_along whole s)
  place s other = by s (same_name s.to e) refl (s.ornt == 2) refl other

  traced : (before : List Point) (ps : List Spot) → AllByRecursion (λ (s : Spot). same_name s.to f ≡ false) ps
      → dedup same_point (before ++ flat_map (points_along parts) (split_places e f ps)) ≡ dedup same_point (before ++ flat_map (points_along whole) ps)
  unfolding Step
  traced before [] others = refl
  traced before (s ∷ ps) others =
      let one = points_along whole s in
      let more = flat_map (points_along parts) (split_places e f ps) in
      ap (λ t. dedup same_point (before ++ t)) (flat_map-append (points_along parts) (split_place e f s) (split_places e f ps))
      ∙ place s others.0 before more
      ∙ ap (dedup same_point) (sym (append_assoc before one more))
      ∙ traced (before ++ one) ps others.1
      ∙ ap (dedup same_point) (append_assoc before one (flat_map (points_along whole) ps))

  -- spatial pointers of which none names the second edge run along the cut line as along the whole
  pub same_trace : (ps : List Spot) → AllByRecursion (λ (s : Spot). same_name s.to f ≡ false) ps
      → trace_along parts (split_places e f ps) ≡ trace_along whole ps
  same_trace ps others = traced [] ps others
