-- The picture of a cell and its findings as an SVG document. This project's own.
use Rattle.std.specs.Prelude.{ℕ, ◌+◌, ◌*◌, ◌/◌, ℤ, List, [], ◌∷◌, ◌++◌, codes, length, flat_map}
use Rattle.std.specs.Fmt.{decimal, signed_decimal}
use Rattle.s57_types.specs.declared.cell.Cell.{Cell}
use Rattle.cell_findings.specs.declared.list.SubjectFinding.{SubjectFinding}
use Rattle.geometry_spec.specs.declared.tile.Box4.{Box4}
use Rattle.text_spec.specs.Lines.{spaced_words}
use Rattle.picture_places.specs.declared.page.TheConstants.{PAGE_LEFT, PAGE_WIDTH}
use Rattle.cell_picture.specs.declared.shape.TheConstants.{LIST_TOP, ROW_HEIGHT}
use Rattle.cell_picture.specs.Escapes.{escaped}
use Rattle.picture_places.specs.Page.{extent_of}
use Rattle.cell_picture.specs.ShapeText.{pair_text, shape_text, text_at}
use Rattle.cell_picture.specs.Shapes.{shapes}

-- how high the page is: the picture, and a row for each finding. A browser shows ten units as a pixel
abbrev pub page_height : ℕ → ℕ
page_height total = LIST_TOP + (total + 2) * ROW_HEIGHT

abbrev pub opening_text : ℕ → List ℕ
opening_text total =
    codes "<svg xmlns='http://www.w3.org/2000/svg' width='1200' height='" ++ (decimal (page_height total / 10)
    ++ (codes "' viewBox='0 0" ++ (pair_text PAGE_WIDTH (page_height total) ++ codes "'>\n")))

-- the name of the data set (DSNM), and what was counted
abbrev pub counted_text : Cell → ℕ → List ℕ
counted_text c total =
    escaped c.head.dsnm
    ++ spaced_words (codes "vi" ∷ decimal (length c.vi) ∷ codes "vc" ∷ decimal (length c.vc) ∷ codes "ve" ∷ decimal (length c.ve) ∷ codes "fe"
    ∷ decimal (length c.fe) ∷ codes "findings" ∷ decimal total ∷ [])

abbrev pub side_words : List ℕ → ℤ → List (List ℕ)
side_words side coordinate = side ∷ signed_decimal coordinate ∷ []

abbrev pub north_west_text : Box4 → List ℕ
north_west_text around = spaced_words (side_words (codes "north") around.north ++ side_words (codes "west") around.west)

abbrev pub south_east_text : Box4 → List ℕ
south_east_text around = spaced_words (side_words (codes "south") around.south ++ side_words (codes "east") around.east)

abbrev pub names_text : Cell → ℕ → List ℕ
names_text c total = codes "<title>" ++ (counted_text c total ++ codes "</title>\n")

-- for those who don't see the picture
abbrev pub description_head : List ℕ
description_head = codes "<desc>A chart cell and its findings, north up, in integer coordinate units:"

abbrev pub description_tail : List ℕ
description_tail =
    codes ". A finding that has a place is marked there, by its number where there are at most 500, else by a dot."
    ++ codes " Each finding has a row with its number in the list below the picture.</desc>\n"

abbrev pub description_text : Box4 → List ℕ
description_text around = description_head ++ (north_west_text around ++ (south_east_text around ++ description_tail))

-- how all is drawn, in colours that people who don't see red and green alike can tell apart
abbrev pub style_text : List ℕ
style_text =
    codes "<style>svg{background:#fff}path{fill:none;stroke-linecap:round;stroke-linejoin:round}\n"
    ++ (codes ".frame{stroke:#000;stroke-width:8}.edge{stroke:#666;stroke-width:14}.node{stroke:#004a80;stroke-width:56}\n"
    ++ (codes ".isolated{stroke:#004a80;stroke-width:70;stroke-linecap:square}.sounding{stroke:#3b8fc4;stroke-width:50}\n"
    ++ (codes ".group1,.coverage{fill-rule:evenodd}.group1{fill:#56b4e9;fill-opacity:.25}.coverage{fill:url(#hatch)}.hatch{stroke:#999;stroke-width:12}\n"
    ++ (codes ".mark,.spot{stroke:#d55e00;stroke-width:100;stroke-opacity:.45}.spot{stroke-width:80;stroke-opacity:.85}\n"
    ++ (codes ".lead{stroke:#8a3b00;stroke-width:12}text{font-family:sans-serif;font-size:150px}\n"
    ++ (codes ".label{font-weight:bold;font-size:190px;text-anchor:middle;dominant-baseline:central;\n"
    ++ (codes "paint-order:stroke;stroke:#fff;stroke-width:50}.heading{font-size:260px}</style>\n")))))))

-- how coverage is filled
abbrev pub hatch_text : List ℕ
hatch_text =
    codes "<pattern id='hatch' patternUnits='userSpaceOnUse' width='180' height='180'><path class='hatch' d='M 0 180 180 0h0'/></pattern>\n"

-- an entry of the key: a sample of a class of shapes, and at a place behind it what these stand for
abbrev pub key_entry : List ℕ → List ℕ → List ℕ → List ℕ → List ℕ
key_entry class sample place name =
    codes "<path class='" ++ (class ++ (codes "' d='M " ++ (sample ++ (codes "h0'/><text transform='translate(" ++ (place ++ (codes ")'>" ++ (name
    ++ codes "</text>\n")))))))

abbrev pub key_text : List ℕ
key_text =
    key_entry (codes "edge") (codes "600 590 850 590") (codes "950 640") (codes "edge")
    ++ (key_entry (codes "node") (codes "1700 590") (codes "1800 640") (codes "connected node")
    ++ (key_entry (codes "isolated") (codes "3300 590") (codes "3400 640") (codes "isolated node")
    ++ (key_entry (codes "sounding") (codes "4750 590") (codes "4850 640") (codes "sounding")
    ++ (key_entry (codes "group1") (codes "5800 500 6050 500 6050 680 5800 680") (codes "6150 640") (codes "Group 1 area")
    ++ (key_entry (codes "coverage") (codes "7450 500 7700 500 7700 680 7450 680") (codes "7800 640") (codes "coverage")
    ++ (key_entry (codes "mark") (codes "8800 590 9050 590") (codes "9150 640") (codes "finding, listed by its number")))))))

abbrev pub heading_text : Cell → ℕ → List ℕ
heading_text c total = text_at (codes "heading") PAGE_LEFT 330 ++ (counted_text c total ++ codes "</text>\n")

abbrev pub head_text : Box4 → Cell → ℕ → List ℕ
head_text around c total =
    opening_text total ++ (names_text c total ++ (description_text around ++ (style_text ++ (hatch_text ++ (heading_text c total ++ key_text)))))

-- the frame, with the coordinates of its sides, and the head of the list
abbrev pub corner_text : ℕ → List ℕ → List ℕ
corner_text y text = text_at (codes "corner") PAGE_LEFT y ++ (text ++ codes "</text>\n")

abbrev pub frame_text : Box4 → List ℕ
frame_text around =
    codes "<path class='frame' d='M 600 900 11390 900 11390 11690 600 11690z'/>\n" ++ (corner_text 850 (north_west_text around)
    ++ (corner_text 11910 (south_east_text around)
    ++ corner_text 12290 (codes "Findings. One that has no place in the picture stands in this list alone.")))

-- the picture of what lies in a box
abbrev pub picture_around : Box4 → Cell → List SubjectFinding → List ℕ
picture_around around c fs = head_text around c (length fs) ++ (frame_text around ++ (flat_map shape_text (shapes c around fs) ++ codes "</svg>\n"))

unfoldable pub picture : Cell → List SubjectFinding → List ℕ
picture c fs = picture_around (extent_of c) c fs
