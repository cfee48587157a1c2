-- Each record is drawn once, each finding is marked once if it is anywhere, and listed once.
use Rattle.std.proofs.Common.{◌≡◌, ℕ, ◌+◌, ◌||◌, Bool, true, false, cond, List, [], ◌∷◌, ◌++◌, Option, None, Some, filter, filter_map, map, length, nat_le}
use Rattle.std.proofs.Common.{is_some, append-nil, refl, ap, ◌∙◌}
use Rattle.std.specs.List.{cons_option, enumerate_from, flat_map}
use Rattle.std.proofs.lemmas.List.Elements.{filter_map-append}
use Rattle.s57_types.specs.declared.cell.Cell.{Cell}
use Rattle.s57_types.specs.declared.record.Feature.{Feature}
use Rattle.s57_types.specs.declared.record.Rec.{Rec}
use Rattle.s57_types.specs.declared.record.Rec.TheVariants.{V, F, H}
use Rattle.cell_findings.specs.Rows.{line_of}
use Rattle.cell_findings.specs.declared.list.SubjectFinding.{SubjectFinding}
use Rattle.cell_spec.specs.Lookup.{name_of}
use Rattle.geometry_spec.specs.declared.tile.Box4.{Box4}
use Rattle.rule_spec.specs.Features.{is_coverage_area, is_group1_area}
use Rattle.picture_places.specs.declared.page.PagePoint.{PagePoint}
use Rattle.cell_picture.specs.declared.shape.Class.TheVariants.{Group1, Coverage}
use Rattle.cell_picture.specs.declared.shape.Figure.{Figure}
use Rattle.cell_picture.specs.declared.shape.Mark.{Mark}
use Rattle.cell_picture.specs.declared.shape.Row.{Row}
use Rattle.cell_picture.specs.declared.shape.TheConstants.{MARK_LIMIT}
use Rattle.picture_places.specs.Labels.{anchor_of}
use Rattle.cell_picture.specs.Laws.{EachIsDrawnOnce, is_drawn, is_numbered_somewhere, is_somewhere, line_marked, name_drawn, number_marked, numbered_line}
use Rattle.cell_picture.specs.Laws.{numbered_marks, row_listed}
use Rattle.cell_picture.specs.Shapes.{Shape, area_figure, area_shapes, drawing_order, figure, finding_shapes, mark, mark_at, marks_from, place_of}
use Rattle.cell_picture.specs.Shapes.{record_shapes, row, row_of, rows_from, shapes, spot, spot_at, spot_of, taken_with, vector_figure}
use Rattle.picture_places.specs.Strokes.{Stroke}

-- what is asked of records alone, of findings alone, of rows alone, the others don't answer
none_of_area : {X : Type 0} (ask : Shape → Option X) (group1 coverage : Bool) (a b : Figure) (rest : List Shape) → ((f : Figure) → ask (figure f) ≡ None)
    → filter_map ask (area_shapes group1 coverage a b ++ rest) ≡ filter_map ask rest
none_of_area ask true coverage a b rest never = ap (λ found. cons_option found (filter_map ask rest)) (never a)
none_of_area ask false true a b rest never = ap (λ found. cons_option found (filter_map ask rest)) (never b)
none_of_area ask false false a b rest never = refl

none_of_records : {X : Type 0} (ask : Shape → Option X) (c : Cell) (around : Box4) (rs : List Rec) → ((f : Figure) → ask (figure f) ≡ None)
    → filter_map ask (flat_map (record_shapes c around) rs) ≡ []
none_of_records ask c around [] never = refl
none_of_records ask c around (V v ∷ rs) never =
    ap (λ found. cons_option found (filter_map ask (flat_map (record_shapes c around) rs))) (never (vector_figure c around v))
    ∙ none_of_records ask c around rs never
none_of_records ask c around (F f ∷ rs) never =
    none_of_area ask (is_group1_area f) (is_coverage_area f) (area_figure c around Group1 f) (area_figure c around Coverage f)
    (flat_map (record_shapes c around) rs) never
    ∙ none_of_records ask c around rs never
none_of_records ask c around (H h ∷ rs) never = none_of_records ask c around rs never

none_of_mark : {X : Type 0} (ask : Shape → Option X) (number : ℕ) (line : List ℕ) (strokes : List Stroke) (taken : List ℕ) (at : Option PagePoint)
    (rest : List Shape) → ((m : Mark) → ask (mark m) ≡ None) → filter_map ask (mark_at number line strokes taken at ++ rest) ≡ filter_map ask rest
none_of_mark ask number line strokes taken None rest never = refl
none_of_mark ask number line strokes taken (Some p) rest never = ap (λ found. cons_option found (filter_map ask rest)) (never _)

none_of_marks : {X : Type 0} (ask : Shape → Option X) (c : Cell) (around : Box4) (taken : List ℕ) (number : ℕ) (fs : List SubjectFinding)
    → ((m : Mark) → ask (mark m) ≡ None) → filter_map ask (marks_from c around taken number fs) ≡ []
none_of_marks ask c around taken number [] never = refl
none_of_marks ask c around taken number (f ∷ fs) never =
    none_of_mark ask number (line_of f) (place_of c around f) taken (anchor_of (place_of c around f))
    (marks_from c around (taken_with taken (anchor_of (place_of c around f))) (number + 1) fs) never
    ∙ none_of_marks ask c around (taken_with taken (anchor_of (place_of c around f))) (number + 1) fs never

none_of_spot : {X : Type 0} (ask : Shape → Option X) (line : List ℕ) (at : Option PagePoint) (rest : List Shape)
    → ((l : List ℕ) (p : PagePoint) → ask (spot l p) ≡ None) → filter_map ask (spot_at line at ++ rest) ≡ filter_map ask rest
none_of_spot ask line None rest never = refl
none_of_spot ask line (Some p) rest never = ap (λ found. cons_option found (filter_map ask rest)) (never line p)

none_of_spots : {X : Type 0} (ask : Shape → Option X) (c : Cell) (around : Box4) (fs : List SubjectFinding)
    → ((l : List ℕ) (p : PagePoint) → ask (spot l p) ≡ None) → filter_map ask (flat_map (spot_of c around) fs) ≡ []
none_of_spots ask c around [] never = refl
none_of_spots ask c around (f ∷ fs) never =
    none_of_spot ask (line_of f) (anchor_of (place_of c around f)) (flat_map (spot_of c around) fs) never ∙ none_of_spots ask c around fs never

-- marks, or dots where there are too many
either : {X : Type 0} (ask : Shape → Option X) (few : Bool) (marks spots : List Shape) (found : List X) → filter_map ask marks ≡ found
    → filter_map ask spots ≡ found → filter_map ask (cond few marks spots) ≡ found
either ask true marks spots found first second = first
either ask false marks spots found first second = second

-- the numbers of marks, which dots haven't
only_few : {X : Type 0} (ask : Shape → Option X) (few : Bool) (marks spots : List Shape) (found : List X) → filter_map ask marks ≡ found
    → filter_map ask spots ≡ [] → filter_map ask (cond few marks spots) ≡ cond few found []
only_few ask true marks spots found first second = first
only_few ask false marks spots found first second = second

none_of_rows : {X : Type 0} (ask : Shape → Option X) (number : ℕ) (fs : List SubjectFinding) → ((r : Row) → ask (row r) ≡ None)
    → filter_map ask (rows_from number fs) ≡ []
none_of_rows ask number [] never = refl
none_of_rows ask number (f ∷ fs) never =
    ap (λ found. cons_option found (filter_map ask (rows_from (number + 1) fs))) (never (row_of number f))
    ∙ none_of_rows ask (number + 1) fs never

-- the names that records are drawn by
area_name : (group1 coverage : Bool) (a b : Figure) (f : Feature) (rest : List Shape) (later : List Rec) → a.name ≡ f.name → b.name ≡ f.name
    → filter_map name_drawn rest ≡ map name_of later
    → filter_map name_drawn (area_shapes group1 coverage a b ++ rest) ≡ map name_of (cond (group1 || coverage) (F f ∷ later) later)
area_name true coverage a b f rest later first second same = λ i. first i ∷ same i
area_name false true a b f rest later first second same = λ i. second i ∷ same i
area_name false false a b f rest later first second same = same

names_drawn : (c : Cell) (around : Box4) (rs : List Rec) → filter_map name_drawn (flat_map (record_shapes c around) rs) ≡ map name_of (filter is_drawn rs)
names_drawn c around [] = refl
names_drawn c around (V v ∷ rs) = ap (λ names. v.name ∷ names) (names_drawn c around rs)
names_drawn c around (F f ∷ rs) =
    area_name (is_group1_area f) (is_coverage_area f) (area_figure c around Group1 f) (area_figure c around Coverage f) f
    (flat_map (record_shapes c around) rs) (filter is_drawn rs) refl refl (names_drawn c around rs)
names_drawn c around (H h ∷ rs) = names_drawn c around rs

-- the lines that are marked
mark_line : (number : ℕ) (f : SubjectFinding) (strokes : List Stroke) (taken : List ℕ) (at : Option PagePoint) (rest : List Shape)
    (later : List SubjectFinding) → filter_map line_marked rest ≡ map line_of later
    → filter_map line_marked (mark_at number (line_of f) strokes taken at ++ rest) ≡ map line_of (cond (is_some at) (f ∷ later) later)
mark_line number f strokes taken None rest later same = same
mark_line number f strokes taken (Some p) rest later same = ap (λ lines. line_of f ∷ lines) same

marks_lines : (c : Cell) (around : Box4) (taken : List ℕ) (number : ℕ) (fs : List SubjectFinding)
    → filter_map line_marked (marks_from c around taken number fs) ≡ map line_of (filter (is_somewhere c around) fs)
marks_lines c around taken number [] = refl
marks_lines c around taken number (f ∷ fs) =
    let at = anchor_of (place_of c around f) in
    mark_line number f (place_of c around f) taken at (marks_from c around (taken_with taken at) (number + 1) fs) (filter (is_somewhere c around) fs)
    (marks_lines c around (taken_with taken at) (number + 1) fs)

spot_line : (f : SubjectFinding) (at : Option PagePoint) (rest : List Shape) (later : List SubjectFinding) → filter_map line_marked rest ≡ map line_of later
    → filter_map line_marked (spot_at (line_of f) at ++ rest) ≡ map line_of (cond (is_some at) (f ∷ later) later)
spot_line f None rest later same = same
spot_line f (Some p) rest later same = ap (λ lines. line_of f ∷ lines) same

spots_lines : (c : Cell) (around : Box4) (fs : List SubjectFinding)
    → filter_map line_marked (flat_map (spot_of c around) fs) ≡ map line_of (filter (is_somewhere c around) fs)
spots_lines c around [] = refl
spots_lines c around (f ∷ fs) =
    spot_line f (anchor_of (place_of c around f)) (flat_map (spot_of c around) fs) (filter (is_somewhere c around) fs) (spots_lines c around fs)

-- the numbers that marks have
mark_number : (number : ℕ) (f : SubjectFinding) (strokes : List Stroke) (taken : List ℕ) (at : Option PagePoint) (rest : List Shape)
    (later : List (ℕ × SubjectFinding)) → filter_map number_marked rest ≡ map numbered_line later
    → filter_map number_marked (mark_at number (line_of f) strokes taken at ++ rest) ≡ map numbered_line (cond (is_some at) ((number, f) ∷ later) later)
mark_number number f strokes taken None rest later same = same
mark_number number f strokes taken (Some p) rest later same = ap (λ lines. (number, line_of f) ∷ lines) same

marks_numbers : (c : Cell) (around : Box4) (taken : List ℕ) (number : ℕ) (fs : List SubjectFinding)
    → filter_map number_marked (marks_from c around taken number fs) ≡
    map numbered_line (filter (is_numbered_somewhere c around) (enumerate_from number fs))
marks_numbers c around taken number [] = refl
marks_numbers c around taken number (f ∷ fs) =
    let at = anchor_of (place_of c around f) in
    mark_number number f (place_of c around f) taken at (marks_from c around (taken_with taken at) (number + 1) fs)
    (filter (is_numbered_somewhere c around) (enumerate_from (number + 1) fs))
    (marks_numbers c around (taken_with taken at) (number + 1) fs)

rows_lines : (number : ℕ) (fs : List SubjectFinding) → filter_map row_listed (rows_from number fs) ≡ map numbered_line (enumerate_from number fs)
rows_lines number [] = refl
rows_lines number (f ∷ fs) = ap (λ lines. (number, line_of f) ∷ lines) (rows_lines (number + 1) fs)

-- what is asked of three lists
in_three : {X : Type 0} (ask : Shape → Option X) (a b c : List Shape) (first second third : List X) → filter_map ask a ≡ first → filter_map ask b ≡ second
    → filter_map ask c ≡ third → filter_map ask (a ++ (b ++ c)) ≡ first ++ (second ++ third)
in_three ask a b c first second third is_first is_second is_third =
    filter_map-append ask a (b ++ c) ∙ (λ i. is_first i ++ (filter_map-append ask b c ∙ (λ j. is_second j ++ is_third j)) i)

pub once : EachIsDrawnOnce
unfolding shapes
once c around fs =
    let drawn = flat_map (record_shapes c around) (drawing_order c) in
    let found = finding_shapes c around fs in
    let rows = rows_from 1 fs in
    let few = nat_le (length fs) MARK_LIMIT in
    let marks = marks_from c around [] 1 fs in
    let spots = flat_map (spot_of c around) fs in
    record {
      records = in_three name_drawn drawn found rows (map name_of (filter is_drawn (drawing_order c))) [] [] (names_drawn c around (drawing_order c))
          (either name_drawn few marks spots [] (none_of_marks name_drawn c around [] 1 fs (λ m. refl)) (none_of_spots name_drawn c around fs (λ l p. refl)))
          (none_of_rows name_drawn 1 fs (λ r. refl)) ∙ append-nil (map name_of (filter is_drawn (drawing_order c)));
      marks = in_three line_marked drawn found rows [] (map line_of (filter (is_somewhere c around) fs)) []
          (none_of_records line_marked c around (drawing_order c) (λ f. refl))
          (either line_marked few marks spots (map line_of (filter (is_somewhere c around) fs)) (marks_lines c around [] 1 fs) (spots_lines c around fs))
          (none_of_rows line_marked 1 fs (λ r. refl)) ∙ append-nil (map line_of (filter (is_somewhere c around) fs));
      numbers = in_three number_marked drawn found rows [] (numbered_marks c around fs) []
          (none_of_records number_marked c around (drawing_order c) (λ f. refl))
          (only_few number_marked few marks spots (map numbered_line (filter (is_numbered_somewhere c around) (enumerate_from 1 fs)))
          (marks_numbers c around [] 1 fs) (none_of_spots number_marked c around fs (λ l p. refl)))
          (none_of_rows number_marked 1 fs (λ r. refl)) ∙ append-nil (numbered_marks c around fs);
      rows = in_three row_listed drawn found rows [] [] (map numbered_line (enumerate_from 1 fs))
          (none_of_records row_listed c around (drawing_order c) (λ f. refl))
          (either row_listed few marks spots [] (none_of_marks row_listed c around [] 1 fs (λ m. refl)) (none_of_spots row_listed c around fs (λ l p. refl)))
          (rows_lines 1 fs);
    }
