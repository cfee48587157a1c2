-- Two nodes or edges of whose segments no two are near have no finding together, where segments that aren't near have disjoint boxes.
use Rattle.std.proofs.Common.{◌≡◌, ℕ, ◌+◌, ◌&&◌, ◌||◌, Bool, true, false, List, [], ◌∷◌, ◌++◌, Option, None, Some, cond, find, map, refl, sym, ap, ◌∙◌}
use Rattle.std.proofs.Common.{subst, arith, ℤ}
use Rattle.std.specs.Prelude.{pos, ◌*ℤ◌, ◌+ℤ◌, ◌-ℤ◌, option_to_list, option_map}
use Rattle.std.proofs.Math.IntN.{zero-*ℤ, +ℤ_idr}
use Rattle.std.specs.Int.{int_min, int_max}
use Rattle.std.specs.List.{list_any, enumerate_from, position_from}
use Rattle.std.specs.Option.{option_map_or}
use Rattle.std.specs.Ordering.{int_eq}
use Rattle.std.proofs.lemmas.Bool.Decides.{nat_tests}
use Rattle.std.proofs.lemmas.Int.{ints, clamps}
use Rattle.std.proofs.lemmas.List.Folds.{list_any-append}
use Rattle.s57_types.specs.declared.name.RecName.{RecName}
use Rattle.s57_types.specs.declared.cell.Cell.{Cell}
use Rattle.cell_spec.specs.declared.finding.Finding.{Finding}
use Rattle.cell_spec.specs.declared.key.Subject.TheVariants.{Pair}
use Rattle.geometry_spec.specs.Boxes.{are_disjoint, are_disjoint_ranges, box_of}
use Rattle.geometry_spec.specs.Points.{Point}
use Rattle.geometry_spec.specs.Segments.{CommonPoint, LiesOn, SegmentMeeting, scaled_between}
use Rattle.geometry_spec.specs.Signs.{lies_on}
use Rattle.geometry_spec.specs.declared.segment.MeetCase.{MeetCase}
use Rattle.geometry_spec.specs.declared.segment.MeetCase.TheVariants.{Apart, At, Along}
use Rattle.geometry_spec.proofs.DisjointBoxes.{apart_by_boxes}
use Rattle.geometry_spec.proofs.LyingOn.{lying_on_decided}
use Rattle.geometry_spec.proofs.MeetingCases.{meeting_is}
use Rattle.rule_spec.specs.declared.kind.TheConstants.{COINCIDE, CROSS, NODE_ON_EDGE, SAME_PLACE, TOUCH}
use Rattle.rule_spec.specs.declared.line.EdgeLine.{EdgeLine}
use Rattle.rule_spec.specs.Candidates.{segments_named}
use Rattle.rule_spec.specs.Contacts.{are_same_place, contact_of_lines, found_contact, have_illegal_contact, is_illegal, is_on, names_node, segment_under}
use Rattle.rule_spec.specs.EdgePoints.{Segment, edge_line_of, node_position, same_point, segments_of}
use Rattle.rule_spec.specs.Findings.{finding, findings_about, findings_of_subject, is_subject}
use Rattle.rule_spec.specs.Records.{edge_named}
use Rattle.rule_spec.specs.Rule.{Found, found_at, found_if}
use Rattle.rule_spec.specs.Vectors.{Numbered, each_with_each, meeting_of_segments}
use Rattle.finding_laws.proofs.Tests.{first_fails, second_fails}

-- ---- a point and a segment
scaled_same : (z : ℤ) (d : ℕ) → scaled_between z z d 0 ≡ pos d *ℤ z
scaled_same z d = ap (λ t. (pos d *ℤ z) +ℤ t) (zero-*ℤ (z -ℤ z)) ∙ +ℤ_idr (pos d *ℤ z)

-- a point on a segment is common to the segment and the point
common : (w p q : Point) → LiesOn w p q → CommonPoint w w p q
common w p q on = record {
  d = on.d;
  m = 0;
  n = on.m;
  positive = on.positive;
  on_first = omega arith;
  on_second = on.within;
  same_y = scaled_same w.0 on.d ∙ sym on.same_y;
  same_x = scaled_same w.1 on.d ∙ sym on.same_x;
}

-- ---- points whose boxes are disjoint aren't at one place
not_same_by : (x y : ℤ) → are_disjoint_ranges (int_min x x) (int_max x x) (int_min y y) (int_max y y) ≡ true → int_eq x y ≡ false
not_same_by x y h = grind (arith, ints, clamps, nat_tests)

not_both : (x y e f : Bool) → (x ≡ true → e ≡ false) → (y ≡ true → f ≡ false) → (x || y) ≡ true → (e && f) ≡ false
not_both true y e f g h d = ap (λ b. b && f) (g refl)
not_both false true true f g h d = h refl
not_both false true false f g h d = refl
not_both false false e f g h d = absurd (cc (d))

-- ---- rules that find nothing
either_none : (test : Bool) (found : Found) → found ≡ [] → cond test [] found ≡ []
either_none true found h = refl
either_none false found h = h

if_same : {X : Type 0} (t : Bool) (x : X) → cond t x x ≡ x
if_same true x = refl
if_same false x = refl

abbrev all_five : Found → Found → Found → Found → Found → List Finding
all_five crosses touches overlaps places nodes =
    map (finding CROSS) crosses ++ (map (finding TOUCH) touches ++
    (map (finding COINCIDE) overlaps ++ (map (finding SAME_PLACE) places ++ (map (finding NODE_ON_EDGE) nodes ++ []))))

-- the segments of a node's position and of an edge's line
abbrev placed : Option Point → List Segment
placed p = map (λ (w : Point). (w, w)) (option_to_list p)

abbrev lined : Option EdgeLine → List Segment
lined x = option_map_or segments_of (option_map (λ (l : EdgeLine). l.points) x) []

split_any : (xs ys : List Segment) (p : Segment → Bool) → list_any p (xs ++ ys) ≡ false → (list_any p xs ≡ false) × (list_any p ys ≡ false)
split_any xs ys p h =
    let both = sym (list_any-append p xs ys) ∙ h in
    (first_fails (list_any p xs) (list_any p ys) both, second_fails (list_any p xs) (list_any p ys) both)

module _ (near : Segment → Segment → Bool) where
  -- two of the segments are near
  abbrev pub are_near : List Segment → List Segment → Bool
  are_near ss ts = list_any (λ s. list_any (near s) ts) ss

  -- ---- parts of lists
  later_first : (xs ys ts : List Segment) → are_near (xs ++ ys) ts ≡ false → are_near ys ts ≡ false
  later_first xs ys ts h = (split_any xs ys (λ s. list_any (near s) ts) h).1

  earlier_first : (xs ys ts : List Segment) → are_near (xs ++ ys) ts ≡ false → are_near xs ts ≡ false
  earlier_first xs ys ts h = (split_any xs ys (λ s. list_any (near s) ts) h).0

  split_second : (ss zs ws : List Segment) → are_near ss (zs ++ ws) ≡ false → (are_near ss zs ≡ false) × (are_near ss ws ≡ false)
  split_second [] zs ws h = (refl, refl)
  split_second (s ∷ ss) zs ws h =
      let here = split_any zs ws (near s) (first_fails (list_any (near s) (zs ++ ws)) (are_near ss (zs ++ ws)) h) in
      let rest = split_second ss zs ws (second_fails (list_any (near s) (zs ++ ws)) (are_near ss (zs ++ ws)) h) in
      ((λ i. here.0 i || rest.0 i), (λ i. here.1 i || rest.1 i))

  later_second : (ss zs ws : List Segment) → are_near ss (zs ++ ws) ≡ false → are_near ss ws ≡ false
  later_second ss zs ws h = (split_second ss zs ws h).1

  earlier_second : (ss zs ws : List Segment) → are_near ss (zs ++ ws) ≡ false → are_near ss zs ≡ false
  earlier_second ss zs ws h = (split_second ss zs ws h).0

  module _ (disjoint : (s t : Segment) → near s t ≡ false → are_disjoint (box_of s.0 s.1) (box_of t.0 t.1) ≡ true) where
    far_apart : (s t : Segment) → near s t ≡ false → meeting_of_segments s t ≡ Apart
    far_apart s t none = apart_by_boxes s.0 s.1 t.0 t.1 (disjoint s t none)

    -- ---- a point and a line
    off_by : (w : Point) (s : Segment) (answer : Bool) → lies_on w s.0 s.1 ≡ answer → near (w, w) s ≡ false → answer ≡ false
    off_by w s true is h =
        absurd (subst (SegmentMeeting w w s.0 s.1) (far_apart (w, w) s h) (meeting_is w w s.0 s.1) (common w s.0 s.1 ((lying_on_decided w s.0 s.1).0 is)))
    off_by w s false is h = refl

    none_under : (w : Point) (first : ℕ) (segments : List Segment) → list_any (near (w, w)) segments ≡ false
        → position_from (λ s. is_on s w) first segments ≡ None
    none_under w first [] h = refl
    none_under w first (s ∷ segments) h =
        rw (off_by w s (lies_on w s.0 s.1) refl (first_fails (near (w, w) s) (list_any (near (w, w)) segments) h))
        (none_under w (first + 1) segments (second_fails (near (w, w) s) (list_any (near (w, w)) segments) h))

    -- ---- two lines
    legal_by : (places : List Point) (s t : Segment) (met : MeetCase) → met ≡ Apart → is_illegal places s t met ≡ false
    legal_by places s t Apart e = refl
    legal_by places s t At e = cc
    legal_by places s t Along e = cc

    none_beside : (places : List Point) (a : Numbered) (k : ℕ) (ts : List Segment) (rest : List (Numbered × Numbered)) → list_any (near a.1) ts ≡ false
        → find (have_illegal_contact places) rest ≡ None
        → find (have_illegal_contact places) (map (λ b. (a, b)) (enumerate_from k ts) ++ rest) ≡ None
    none_beside places a k [] rest h later = later
    none_beside places a k (t ∷ ts) rest h later =
        rw (legal_by places a.1 t (meeting_of_segments a.1 t) (far_apart a.1 t (first_fails (near a.1 t) (list_any (near a.1) ts) h)))
        (none_beside places a (k + 1) ts rest (second_fails (near a.1 t) (list_any (near a.1) ts) h) later)

    none_between : (places : List Point) (j k : ℕ) (ss ts : List Segment) → are_near ss ts ≡ false
        → find (have_illegal_contact places) (each_with_each (enumerate_from j ss) (enumerate_from k ts)) ≡ None
    none_between places j k [] ts h = refl
    none_between places j k (s ∷ ss) ts h =
        none_beside places (j, s) k ts (each_with_each (enumerate_from (j + 1) ss) (enumerate_from k ts))
        (first_fails (list_any (near s) ts) (are_near ss ts) h)
        (none_between places (j + 1) k ss ts (second_fails (list_any (near s) ts) (are_near ss ts) h))

    lines_far : (kind : ℕ) (c : Cell) (x y : Option EdgeLine) → are_near (lined x) (lined y) ≡ false → contact_of_lines kind c x y ≡ []
    lines_far kind c None y f = refl
    lines_far kind c (Some l) None f = refl
    lines_far kind c (Some l) (Some m) f = ap (found_contact kind) (none_between _ 1 1 (segments_of l.points) (segments_of m.points) f)

    -- ---- two positions, and a position and a line
    not_same : (p q : Point) → near (p, p) (q, q) ≡ false → same_point p q ≡ false
    not_same p q h = not_both _ _ (int_eq p.0 q.0) (int_eq p.1 q.1) (not_same_by p.0 q.0) (not_same_by p.1 q.1) (disjoint (p, p) (q, q) h)

    places_far : (p q : Option Point) → are_near (placed p) (placed q) ≡ false → found_if (are_same_place p q) [] ≡ []
    places_far None q f = refl
    places_far (Some v) None f = refl
    places_far (Some v) (Some w) f =
        ap (λ t. found_if t []) (not_same v w (first_fails (near (v, v) (w, w)) false (first_fails (near (v, v) (w, w) || false) false f)))

    under_far : (p : Option Point) (y : Option EdgeLine) → are_near (placed p) (lined y) ≡ false → segment_under p y ≡ []
    under_far None y f = refl
    under_far (Some w) None f = refl
    under_far (Some w) (Some m) f = ap found_at (none_under w 1 (segments_of m.points) (first_fails (list_any (near (w, w)) (segments_of m.points)) false f))

    module _ (c : Cell) (a b : RecName) (none : are_near (segments_named c a) (segments_named c b) ≡ false) where
      record FarParts (p q : Option Point) (x y : Option EdgeLine) : Type 0 where
        lines : are_near (lined x) (lined y) ≡ false
        places : are_near (placed p) (placed q) ≡ false
        under : are_near (placed p) (lined y) ≡ false

      parts_far : (p q : Option Point) (x y : Option EdgeLine) → are_near (placed p ++ lined x) (placed q ++ lined y) ≡ false → FarParts p q x y
      parts_far p q x y f =
          let first = earlier_first (placed p) (lined x) (placed q ++ lined y) f in
          record {
            lines = later_second (lined x) (placed q) (lined y) (later_first (placed p) (lined x) (placed q ++ lined y) f);
            places = earlier_second (placed p) (placed q) (lined y) first;
            under = later_second (placed p) (placed q) (lined y) first;
          }

      parts : FarParts (node_position c a) (node_position c b) (edge_line_of c a) (edge_line_of c b)
      unfolding segments_named
      parts = parts_far (node_position c a) (node_position c b) (edge_line_of c a) (edge_line_of c b) none

      no_contacts : (kind : ℕ) → contact_of_lines kind c (edge_line_of c a) (edge_line_of c b) ≡ []
      no_contacts kind = lines_far kind c (edge_line_of c a) (edge_line_of c b) parts.lines

      nothing_about : findings_about c (Pair a b) ≡ []
      nothing_about = λ i. all_five (no_contacts CROSS i) (no_contacts TOUCH i) (no_contacts COINCIDE i)
          (places_far (node_position c a) (node_position c b) parts.places i)
          (either_none (option_map_or (λ e. names_node e a) (edge_named c b) true) _ (under_far (node_position c a) (edge_line_of c b) parts.under) i)

      pub far_is_clean : findings_of_subject c (Pair a b) ≡ []
      unfolding findings_of_subject
      far_is_clean = ap (λ fs. cond (is_subject c (Pair a b)) fs []) nothing_about ∙ if_same (is_subject c (Pair a b)) []
