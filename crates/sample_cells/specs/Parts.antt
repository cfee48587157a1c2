-- The parts of small cells.
use Rattle.std.specs.Prelude.{ℕ, pos, List, [], ◌∷◌, map, replicate}
use Rattle.s57_types.specs.declared.head.Head.{Head}
use Rattle.s57_types.specs.declared.head.HeadEdit.{HeadEdit}
use Rattle.s57_types.specs.declared.head.Level.{Level}
use Rattle.s57_types.specs.declared.name.Kind.TheVariants.{Vi, Vc, Ve, Fe}
use Rattle.s57_types.specs.declared.name.Lnam.{Lnam}
use Rattle.s57_types.specs.declared.name.RecName.{RecName}
use Rattle.s57_types.specs.declared.record.Attr.{Attr}
use Rattle.s57_types.specs.declared.record.End.{End}
use Rattle.s57_types.specs.declared.record.Partner.{Partner}
use Rattle.s57_types.specs.declared.record.Rec.{Rec}
use Rattle.s57_types.specs.declared.record.Rec.TheVariants.{V, F}
use Rattle.s57_types.specs.declared.record.Spot.{Spot}
use Rattle.geometry_spec.specs.Points.{Point}
use Rattle.cell_parts.specs.Parts.{bare_feature, bare_head, name}

abbrev pub vi : ℕ → RecName
vi n = name Vi n

abbrev pub vc : ℕ → RecName
vc n = name Vc n

abbrev pub ve : ℕ → RecName
ve n = name Ve n

abbrev pub fe : ℕ → RecName
fe n = name Fe n

abbrev pub lnam : ℕ → Lnam
lnam n = record { agen = 1; fidn = n; fids = 1 }

abbrev pub at : ℕ → ℕ → Point
at y x = (pos y, pos x)

abbrev pub vector : RecName → List End → List Point → Rec
vector n ends plane = V (record { name = n; rver = 1; attrs = []; ends = ends; plane = plane; deep = [] })

abbrev pub node : ℕ → Point → Rec
node n p = vector (vc n) [] (p ∷ [])

abbrev pub end_of : ℕ → RecName → End
end_of topi n = record { to = n; ornt = 255; usag = 255; topi = topi; mask = 255 }

-- an edge from one connected node to another
abbrev pub edge : ℕ → ℕ → ℕ → List Point → Rec
edge n first last plane = vector (ve n) (end_of 1 (vc first) ∷ end_of 2 (vc last) ∷ []) plane

abbrev pub spot : RecName → ℕ → ℕ → ℕ → Spot
spot n ornt usag mask = record { to = n; ornt = ornt; usag = usag; mask = mask }

-- an edge in an exterior boundary
abbrev pub outer : ℕ → ℕ → Spot
outer n ornt = spot (ve n) ornt 1 255

-- an edge in an interior boundary
abbrev pub inner : ℕ → ℕ → Spot
inner n ornt = spot (ve n) ornt 2 255

abbrev pub partner : ℕ → Partner
partner n = record { to = lnam n; rind = 2; comt = [] }

abbrev pub feature : ℕ → ℕ → ℕ → ℕ → List Attr → List Spot → Rec
feature n prim grup objl attf places = F (record (bare_feature n prim grup objl) { attf = attf; places = places })

-- a feature without geometry that has partners
abbrev pub partnered : ℕ → List ℕ → Rec
partnered n partners = F (record (bare_feature n 255 2 400) { partners = map partner partners })

-- a feature without geometry that bears another's identifier
abbrev pub named_alike : ℕ → ℕ → Rec
named_alike n other = F (record (bare_feature n 255 2 400) { foid = lnam other })

-- a depth area of Group 1
abbrev pub depth_area : ℕ → List Spot → Rec
depth_area n places = feature n 3 1 42 [] places

-- CATCOV with a value
abbrev pub catcov : ℕ → Attr
catcov byte = record { code = 18; value = byte ∷ [] }

-- an area of data coverage
abbrev pub coverage_area : ℕ → List Spot → Rec
coverage_area n places = feature n 3 2 302 (catcov 49 ∷ []) places

-- OBJNAM of these bytes
abbrev pub objnam : List ℕ → Attr
objnam bytes = record { code = 116; value = bytes }

abbrev pub head : Head
head = record bare_head { uadt = replicate 8 48; isdt = replicate 8 48; sted = replicate 4 48 }

-- the values of that head with a level of texts
abbrev pub head_values : Level → HeadEdit
head_values level = record { edtn = []; updn = []; uadt = replicate 8 48; isdt = replicate 8 48; aall = level; comt = [] }

-- the boundary of a square of the edges 1 to 4, clockwise
abbrev pub square : List Spot
square = outer 3 1 ∷ outer 2 1 ∷ outer 4 2 ∷ outer 1 2 ∷ []
