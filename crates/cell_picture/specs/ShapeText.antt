-- Shapes as SVG elements (SVG 1.1, 8.3, 9 and 10.4). This project's own choice of elements.
use Rattle.std.specs.Prelude.{ℕ, ◌==◌, List, [], ◌∷◌, ◌++◌, codes, flat_map, length, if◌then◌else◌}
use Rattle.std.specs.Fmt.{decimal}
use Rattle.s57_types.specs.declared.name.RecName.{RecName}
use Rattle.text_spec.specs.CellText.{name_words}
use Rattle.text_spec.specs.Lines.{spaced, spaced_words}
use Rattle.picture_places.specs.declared.page.PagePoint.{PagePoint}
use Rattle.picture_places.specs.declared.page.TheConstants.{PAGE_LEFT}
use Rattle.cell_picture.specs.declared.shape.Class.{Class}
use Rattle.cell_picture.specs.declared.shape.Class.TheVariants.{Group1, Coverage, Edge, Node, Isolated, Sounding}
use Rattle.cell_picture.specs.declared.shape.Figure.{Figure}
use Rattle.cell_picture.specs.declared.shape.Mark.{Mark}
use Rattle.cell_picture.specs.declared.shape.Row.{Row}
use Rattle.cell_picture.specs.Escapes.{escaped}
use Rattle.cell_picture.specs.Shapes.{Shape, figure, mark, spot, row}
use Rattle.picture_places.specs.Strokes.{Stroke}

abbrev pub class_word : Class → List ℕ
class_word Group1 = codes "group1"
class_word Coverage = codes "coverage"
class_word Edge = codes "edge"
class_word Node = codes "node"
class_word Isolated = codes "isolated"
class_word Sounding = codes "sounding"

abbrev pub point_words : PagePoint → List (List ℕ)
point_words p = decimal p.x ∷ decimal p.y ∷ []

-- a stroke moves to its first point and goes on through the others; the step of no length behind them makes a dot of a single one
abbrev pub stroke_text : Stroke → List ℕ
stroke_text stroke = if length stroke == 0 then [] else codes "M" ++ (spaced_words (flat_map point_words stroke) ++ codes "h0")

-- the beginning of a path of a class
abbrev pub path_text : List ℕ → List Stroke → List ℕ
path_text class strokes = codes "<path class='" ++ (class ++ (codes "' d='" ++ (flat_map stroke_text strokes ++ codes "'")))

-- what a browser shows of an element on request, and reads aloud
abbrev pub title_text : List ℕ → List ℕ
title_text text = codes "<title>" ++ (escaped text ++ codes "</title>")

-- two numbers
abbrev pub pair_text : ℕ → ℕ → List ℕ
pair_text x y = spaced_words (decimal x ∷ decimal y ∷ [])

-- the beginning of a text of a class at a place on the page
abbrev pub text_at : List ℕ → ℕ → ℕ → List ℕ
text_at class x y = codes "<text class='" ++ (class ++ (codes "' transform='translate(" ++ (pair_text x y ++ codes ")'>")))

-- the words of a report for a record
abbrev pub record_title : RecName → List ℕ
record_title n = codes "rec" ++ spaced_words (name_words n)

abbrev pub figure_text : Figure → List ℕ
figure_text f = path_text (class_word f.class) f.strokes ++ (codes ">" ++ (title_text (record_title f.name) ++ codes "</path>\n"))

-- where the finding is
abbrev pub mark_place_text : Mark → List ℕ
mark_place_text m = codes "<g>" ++ (title_text m.line ++ (path_text (codes "mark") m.strokes ++ codes "/>"))

-- a line from there to its number, and the number
abbrev pub mark_number_text : Mark → List ℕ
mark_number_text m =
    path_text (codes "lead") ((m.anchor ∷ m.label ∷ []) ∷ []) ++ (codes "/>"
    ++ (text_at (codes "label") m.label.x m.label.y ++ (decimal m.number ++ codes "</text></g>\n")))

abbrev pub mark_text : Mark → List ℕ
mark_text m = mark_place_text m ++ mark_number_text m

abbrev pub spot_text : List ℕ → PagePoint → List ℕ
spot_text line p = path_text (codes "spot") ((p ∷ []) ∷ []) ++ (codes ">" ++ (title_text line ++ codes "</path>\n"))

abbrev pub row_text : Row → List ℕ
row_text r = text_at (codes "row") PAGE_LEFT r.below ++ (decimal r.number ++ (spaced (escaped r.line) ++ codes "</text>\n"))

abbrev pub shape_text : Shape → List ℕ
shape_text (figure f) = figure_text f
shape_text (mark m) = mark_text m
shape_text (spot line p) = spot_text line p
shape_text (row r) = row_text r
