-- Rules on the pointers, codes, group and texts of a feature.
use Rattle.std.specs.Prelude.{ℕ, ◌==◌, ◌&&◌, ◌||◌, Bool, true, not, List, [], ◌∷◌, length, map, take, nat_le, nat_lt, is_some, if◌then◌else◌}
use Rattle.std.specs.List.{list_any}
use Rattle.s57_types.specs.declared.name.RecName.{RecName}
use Rattle.s57_types.specs.declared.record.Attr.{Attr}
use Rattle.s57_types.specs.declared.record.Feature.{Feature}
use Rattle.s57_types.specs.declared.record.Partner.{Partner}
use Rattle.s57_types.specs.declared.record.Spot.{Spot}
use Rattle.s57_types.specs.declared.cell.Cell.{Cell}
use Rattle.cell_spec.specs.Lookup.{lookup_record, lookup_identity}
use Rattle.rule_spec.specs.Records.{is_node_name, is_edge_name}
use Rattle.rule_spec.specs.Rule.{Found, found_if, places_where}

abbrev pub is_one_of : List ℕ → ℕ → Bool
is_one_of codes code = list_any (λ other. other == code) codes

abbrev pub target : Spot → RecName
target s = s.to

-- a point has one spatial pointer, and not to an edge; a line or an area has one or more, and none to a node; a feature without geometry
-- has none (S-57 Part 3, 7.6.1 and 7.6.8)
abbrev pub fits_primitive : ℕ → List RecName → Bool
fits_primitive prim targets =
    if prim == 1 then (length targets == 1) && not (list_any is_edge_name targets)
    else if (prim == 2) || (prim == 3) then nat_lt 0 (length targets) && not (list_any is_node_name targets)
    else (prim == 255) && (length targets == 0)

-- PrimRefs: the spatial pointers don't fit the geometric primitive
abbrev pub prim_refs : Cell → Feature → Found
prim_refs c f = found_if (not (fits_primitive f.prim (map target f.places))) []

-- DanglingRef: a spatial pointer names no record of the cell; its place
abbrev pub dangling_ref : Cell → Feature → Found
dangling_ref c f = places_where (λ s. not (is_some (lookup_record c (target s)))) f.places

-- the orientation, usage and masking indicators that a spatial pointer of a primitive may have (S-57 Part 3, 7.6.8; Appendix
-- B.1): none at a point, an orientation and a mask at a line, and at an area, where a boundary cut by the data limit isn't masked
abbrev pub has_its_codes : ℕ → Spot → Bool
has_its_codes prim s =
    if prim == 1 then (s.ornt == 255) && (s.usag == 255) && (s.mask == 255)
    else if prim == 2 then is_one_of (1 ∷ 2 ∷ 255 ∷ []) s.ornt && (s.usag == 255) && is_one_of (1 ∷ 2 ∷ 255 ∷ []) s.mask
    else if prim == 3 then is_one_of (1 ∷ 2 ∷ []) s.ornt && ((is_one_of (1 ∷ 2 ∷ []) s.usag && is_one_of (1 ∷ 2 ∷ 255 ∷ []) s.mask) ||
    ((s.usag == 3) && (s.mask == 255)))
    else true

-- BadCodes: the indicators of a spatial pointer are outside that table; its place
abbrev pub bad_codes : Cell → Feature → Found
bad_codes c f = places_where (λ s. not (has_its_codes f.prim s)) f.places

-- DanglingFeature: a feature pointer names an identifier that no feature bears; its place
abbrev pub dangling_feature : Cell → Feature → Found
dangling_feature c f = places_where (λ (p : Partner). length (lookup_identity c p.to) == 0) f.partners

-- Group 1, the skin of the earth (Appendix B.1, 3.10.1): the areas of DEPARE, DRGARE, FLODOC, HULKES, LNDARE, PONTON and UNSARE
abbrev pub is_group1_area : Feature → Bool
is_group1_area f = (f.prim == 3) && is_one_of (42 ∷ 46 ∷ 57 ∷ 65 ∷ 71 ∷ 95 ∷ 154 ∷ []) f.objl

-- an attribute CATCOV (18) with the value 1, coverage available
abbrev pub says_covered : Attr → Bool
says_covered a = (a.code == 18) && (length a.value == 1) && list_any (λ byte. byte == 49) a.value

-- an area of M_COVR (302) that says that its data is there (Appendix B.1)
abbrev pub is_coverage_area : Feature → Bool
is_coverage_area f = (f.prim == 3) && (f.objl == 302) && list_any says_covered f.attf

-- WrongGroup: an area of Group 1 has another group (GRUP) than 1, or another feature has group 1
abbrev pub wrong_group : Cell → Feature → Found
wrong_group c f = found_if (if is_group1_area f then not (f.grup == 1) else f.grup == 1) []

-- a value has a byte beyond ASCII
abbrev pub is_beyond_ascii : Attr → Bool
is_beyond_ascii a = list_any (nat_le 128) a.value

-- BadLevel: at the lexical level 0 of general texts (AALL; Part 3, 2.4) the value of an attribute (ATTF) has a byte beyond ASCII; the first such
-- attribute's place. This project's own rule
abbrev pub bad_level : Cell → Feature → Found
bad_level c f = if c.head.aall == 0 then take 1 (places_where is_beyond_ascii f.attf) else []
