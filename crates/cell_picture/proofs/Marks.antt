-- The text of a mark, of a dot, and of all shapes.
use Rattle.std.proofs.Common.{◌≡◌, ℕ, ◌+◌, ◌<◌, List, [], ◌∷◌, ◌++◌, Option, Some, take, get_or, length, ap, ◌∙◌}
use Rattle.std.specs.List.{flat_map}
use Rattle.std.proofs.lemmas.List.{append-nil, take_more}
use Rattle.std.proofs.lemmas.List.Concat.{flat_map-append}
use Rattle.s57_types.specs.declared.cell.Cell.{Cell}
use Rattle.cell_findings.specs.declared.list.SubjectFinding.{SubjectFinding}
use Rattle.geometry_spec.specs.declared.tile.Box4.{Box4}
use Rattle.picture_places.specs.Labels.{field_of, free_field}
use Rattle.picture_places.specs.declared.page.PagePoint.{PagePoint}
use Rattle.picture_places.specs.Strokes.{Stroke}
use Rattle.cell_picture.specs.ShapeText.{mark_text, shape_text, spot_text}
use Rattle.cell_picture.specs.Shapes.{drawing_order, finding_shapes, mark_at, mark_in, record_shapes, rows_from, shapes, spot_at}

-- the text of a mark or a dot at a point
pub mark_here : (number : ℕ) (line : List ℕ) (strokes : List Stroke) (taken : List ℕ) (held : Option PagePoint) (p : PagePoint) → held ≡ Some p
    → flat_map shape_text (mark_at number line strokes taken held) ≡ mark_text (mark_in number line strokes p (free_field taken (field_of p)))
mark_here number line strokes taken held p is =
    ap (λ here. flat_map shape_text (mark_at number line strokes taken here)) is
    ∙ append-nil (mark_text (mark_in number line strokes p (free_field taken (field_of p))))

pub spot_here : (line : List ℕ) (held : Option PagePoint) (p : PagePoint) → held ≡ Some p → flat_map shape_text (spot_at line held) ≡ spot_text line p
spot_here line held p is = ap (λ here. flat_map shape_text (spot_at line here)) is ∙ append-nil (spot_text line p)

-- the text of all shapes
pub shapes_text : (c : Cell) (around : Box4) (fs : List SubjectFinding)
    → flat_map shape_text (shapes c around fs) ≡
    flat_map shape_text (flat_map (record_shapes c around) (drawing_order c))
    ++ (flat_map shape_text (finding_shapes c around fs) ++ flat_map shape_text (rows_from 1 fs))
unfolding shapes
shapes_text c around fs =
    let records = flat_map (record_shapes c around) (drawing_order c) in
    flat_map-append shape_text records (finding_shapes c around fs ++ rows_from 1 fs)
    ∙ ap (λ text. flat_map shape_text records ++ text) (flat_map-append shape_text (finding_shapes c around fs) (rows_from 1 fs))

-- lists of lists, one item more
pub nested_more : {X Y Z : Type 0} (f : Y → List Z) (g : X → List Y) (xs : List X) (k : ℕ) (d : X) → k < length xs
    → flat_map f (flat_map g (take (k + 1) xs)) ≡ flat_map f (flat_map g (take k xs)) ++ flat_map f (g (get_or xs k d))
nested_more f g xs k d within =
    ap (λ ys. flat_map f (flat_map g ys)) (take_more xs k d within)
    ∙ ap (flat_map f) (flat_map-append g (take k xs) (get_or xs k d ∷ []))
    ∙ flat_map-append f (flat_map g (take k xs)) (g (get_or xs k d) ++ [])
    ∙ ap (λ last. flat_map f (flat_map g (take k xs)) ++ flat_map f last) (append-nil (g (get_or xs k d)))
