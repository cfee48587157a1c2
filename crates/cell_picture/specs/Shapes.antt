-- What a picture is made of, in the order in which it is drawn: the areas, the edges, the nodes, the marks of the findings, the list. This
-- project's own.
use Rattle.std.specs.Prelude.{ℕ, ◌+◌, ◌*◌, ◌==◌, Bool, List, [], ◌∷◌, ◌++◌, Option, None, Some, length, nat_le, flat_map, if◌then◌else◌}
use Rattle.s57_types.specs.declared.cell.Cell.{Cell}
use Rattle.s57_types.specs.declared.name.Kind.{Kind}
use Rattle.s57_types.specs.declared.name.Kind.TheVariants.{Vi, Vc, Ve, Fe, Head as HeadKind}
use Rattle.s57_types.specs.declared.record.Feature.{Feature}
use Rattle.s57_types.specs.declared.record.Vector.{Vector}
use Rattle.s57_types.specs.declared.record.Rec.{Rec}
use Rattle.s57_types.specs.declared.record.Rec.TheVariants.{V, F, H}
use Rattle.cell_findings.specs.Rows.{line_of}
use Rattle.cell_findings.specs.declared.list.SubjectFinding.{SubjectFinding}
use Rattle.geometry_spec.specs.declared.tile.Box4.{Box4}
use Rattle.rule_spec.specs.Features.{is_coverage_area, is_group1_area}
use Rattle.picture_places.specs.declared.page.PagePoint.{PagePoint}
use Rattle.cell_picture.specs.declared.shape.Class.{Class}
use Rattle.cell_picture.specs.declared.shape.Class.TheVariants.{Group1, Coverage, Edge, Node, Isolated, Sounding}
use Rattle.cell_picture.specs.declared.shape.Figure.{Figure}
use Rattle.cell_picture.specs.declared.shape.Mark.{Mark}
use Rattle.cell_picture.specs.declared.shape.Row.{Row}
use Rattle.cell_picture.specs.declared.shape.TheConstants.{ROW_HEIGHT, MARK_LIMIT, LIST_TOP}
use Rattle.picture_places.specs.Areas.{area_strokes}
use Rattle.picture_places.specs.Labels.{anchor_of, field_of, free_field, label_point}
use Rattle.picture_places.specs.Places.{place_about}
use Rattle.picture_places.specs.Strokes.{Stroke, vector_strokes}

-- a record, a finding where it is, one of very many findings, a row of the list
pub data Shape : Type 0 where
  figure : Figure → Shape
  mark : Mark → Shape
  spot : List ℕ → PagePoint → Shape
  row : Row → Shape

abbrev pub node_class : Vector → Class
node_class v = if length v.deep == 0 then Isolated else Sounding

abbrev pub class_by : Kind → Vector → Class
class_by Vi v = node_class v
class_by Vc v = Node
class_by Ve v = Edge
class_by Fe v = node_class v
class_by HeadKind v = node_class v

abbrev pub vector_figure : Cell → Box4 → Vector → Figure
vector_figure c around v = record { class = class_by v.name.kind v; name = v.name; strokes = vector_strokes c around v }

abbrev pub area_figure : Cell → Box4 → Class → Feature → Figure
area_figure c around class f = record { class = class; name = f.name; strokes = area_strokes c around f }

-- an area as it is drawn where it is of Group 1, else where it is of coverage
abbrev pub area_shapes : Bool → Bool → Figure → Figure → List Shape
area_shapes group1 coverage first second = if group1 then figure first ∷ [] else if coverage then figure second ∷ [] else []

-- of the features, the areas of Group 1 and of coverage
abbrev pub feature_shapes : Cell → Box4 → Feature → List Shape
feature_shapes c around f =
    area_shapes (is_group1_area f) (is_coverage_area f) (area_figure c around Group1 f) (area_figure c around Coverage f)

abbrev pub record_shapes : Cell → Box4 → Rec → List Shape
record_shapes c around (V v) = figure (vector_figure c around v) ∷ []
record_shapes c around (F f) = feature_shapes c around f
record_shapes c around (H h) = []

-- the records in the order in which they are drawn
abbrev pub drawing_order : Cell → List Rec
drawing_order c = c.fe ++ (c.ve ++ (c.vc ++ c.vi))

abbrev pub place_of : Cell → Box4 → SubjectFinding → List Stroke
place_of c around found = place_about c around found.subject found.finding

-- the mark of a finding that is held at a point, with its number in a field
abbrev pub mark_in : ℕ → List ℕ → List Stroke → PagePoint → ℕ → Mark
mark_in number line strokes p field = record { number = number; line = line; strokes = strokes; anchor = p; label = label_point field }

-- the mark of a finding with a number, if it is anywhere, where some fields are taken
abbrev pub mark_at : ℕ → List ℕ → List Stroke → List ℕ → Option PagePoint → List Shape
mark_at number line strokes taken None = []
mark_at number line strokes taken (Some p) = mark (mark_in number line strokes p (free_field taken (field_of p))) ∷ []

abbrev pub taken_with : List ℕ → Option PagePoint → List ℕ
taken_with taken None = taken
taken_with taken (Some p) = taken ++ free_field taken (field_of p) ∷ []

-- the marks of findings from a number on
abbrev pub marks_from : Cell → Box4 → List ℕ → ℕ → List SubjectFinding → List Shape
marks_from c around taken number [] = []
marks_from c around taken number (f ∷ fs) =
    mark_at number (line_of f) (place_of c around f) taken (anchor_of (place_of c around f))
    ++ marks_from c around (taken_with taken (anchor_of (place_of c around f))) (number + 1) fs

-- a dot in place of a mark
abbrev pub spot_at : List ℕ → Option PagePoint → List Shape
spot_at line None = []
spot_at line (Some p) = spot line p ∷ []

abbrev pub spot_of : Cell → Box4 → SubjectFinding → List Shape
spot_of c around f = spot_at (line_of f) (anchor_of (place_of c around f))

abbrev pub spots_of : Cell → Box4 → List SubjectFinding → List Shape
spots_of c around fs = flat_map (spot_of c around) fs

-- the findings where they are, each with its number where there aren't too many
abbrev pub finding_shapes : Cell → Box4 → List SubjectFinding → List Shape
finding_shapes c around fs = if nat_le (length fs) MARK_LIMIT then marks_from c around [] 1 fs else spots_of c around fs

-- where a row of the list stands
abbrev pub row_of : ℕ → SubjectFinding → Row
row_of number f = record { number = number; line = line_of f; below = LIST_TOP + number * ROW_HEIGHT }

-- the list: a row for each finding
abbrev pub rows_from : ℕ → List SubjectFinding → List Shape
rows_from number [] = []
rows_from number (f ∷ fs) = row (row_of number f) ∷ rows_from (number + 1) fs

unfoldable pub shapes : Cell → Box4 → List SubjectFinding → List Shape
shapes c around fs = flat_map (record_shapes c around) (drawing_order c) ++ (finding_shapes c around fs ++ rows_from 1 fs)
