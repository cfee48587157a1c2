-- The file of the square, typed out: 2,616 bytes.
use Rattle.std.specs.Prelude.{ℕ, List, [], ◌∷◌, ◌++◌, codes}

-- the description of a field: its controls and its name, the labels, and the formats
abbrev pub described : List ℕ → List ℕ → List ℕ → List ℕ
described controls_and_name labels formats = controls_and_name ++ (31 ∷ []) ++ labels ++ (31 ∷ []) ++ formats ++ (30 ∷ [])

abbrev pub descriptive_directory : List ℕ
descriptive_directory =
    codes "00001230000" ++ codes "00010430123" ++ codes "DSID1650166" ++ codes "DSSI1130331" ++ codes "DSPM1300444" ++ codes "FRID1000574"
    ++ codes "FOID0700674" ++ codes "ATTF0590744" ++ codes "NATF0680803" ++ codes "FFPT0860871" ++ codes "FSPT0900957" ++ codes "VRID0781047"
    ++ codes "ATTV0581125" ++ codes "VRPT0761183" ++ codes "SG2D0481259" ++ codes "SG3D0701307" ++ (30 ∷ [])

abbrev pub descriptive_area : List ℕ
descriptive_area =
    codes "0000;&   " ++ (31 ∷ [])
    ++ codes "0001DSIDDSIDDSSI0001DSPM0001FRIDFRIDFOIDFRIDATTFFRIDNATFFRIDFFPTFRIDFSPT0001VRIDVRIDATTVVRIDVRPTVRIDSG2DVRIDSG3D" ++ (30 ∷ [])
    ++ described (codes "0500;&   ISO 8211 Record Identifier") [] (codes "(b12)")
    ++ described (codes "1600;&   Data set identification field")
    (codes "RCNM!RCID!EXPP!INTU!DSNM!EDTN!UPDN!UADT!ISDT!STED!PRSP!PSDN!PRED!PROF!AGEN!COMT") (codes "(b11,b14,2b11,3A,2A(8),R(4),b11,2A,b11,b12,A)")
    ++ described (codes "1600;&   Data set structure information field") (codes "DSTR!AALL!NALL!NOMR!NOCR!NOGR!NOLR!NOIN!NOCN!NOED!NOFA") (codes "(3b11,8b14)")
    ++ described (codes "1600;&   Data set parameter field") (codes "RCNM!RCID!HDAT!VDAT!SDAT!CSCL!DUNI!HUNI!PUNI!COUN!COMF!SOMF!COMT")
    (codes "(b11,b14,3b11,b14,4b11,2b14,A)")
    ++ described (codes "1600;&   Feature record identifier field") (codes "RCNM!RCID!PRIM!GRUP!OBJL!RVER!RUIN") (codes "(b11,b14,2b11,2b12,b11)")
    ++ described (codes "1600;&   Feature object identifier field") (codes "AGEN!FIDN!FIDS") (codes "(b12,b14,b12)")
    ++ described (codes "2600;&   Feature record attribute field") (codes "*ATTL!ATVL") (codes "(b12,A)")
    ++ described (codes "2600;&   Feature record national attribute field") (codes "*ATTL!ATVL") (codes "(b12,A)")
    ++ described (codes "2600;&   Feature record to feature object pointer field") (codes "*LNAM!RIND!COMT") (codes "(B(64),b11,A)")
    ++ described (codes "2600;&   Feature record to spatial record pointer field") (codes "*NAME!ORNT!USAG!MASK") (codes "(B(40),3b11)")
    ++ described (codes "1600;&   Vector record identifier field") (codes "RCNM!RCID!RVER!RUIN") (codes "(b11,b14,b12,b11)")
    ++ described (codes "2600;&   Vector record attribute field") (codes "*ATTL!ATVL") (codes "(b12,A)")
    ++ described (codes "2600;&   Vector record pointer field") (codes "*NAME!ORNT!USAG!TOPI!MASK") (codes "(B(40),4b11)")
    ++ described (codes "2600;&   2-D coordinate field") (codes "*YCOO!XCOO") (codes "(2b24)")
    ++ described (codes "2600;&   3-D coordinate (sounding array) field") (codes "*YCOO!XCOO!VE3D") (codes "(3b24)")

abbrev pub descriptive_bytes : List ℕ
descriptive_bytes = codes "015783LE1 0900201 ! 3404" ++ descriptive_directory ++ descriptive_area

-- the data set identification, and the structure information with its eight counts
abbrev pub general_bytes : List ℕ → List ℕ
general_bytes counts =
    codes "00139 D     00049   2204" ++ codes "00010300DSID5103DSSI3654" ++ (30 ∷ [])
    ++ (1 ∷ 0 ∷ 30 ∷ [])
    ++ (10 ∷ 1 ∷ 0 ∷ 0 ∷ 0 ∷ 1 ∷ 5 ∷ []) ++ codes "MAKE.000" ++ (31 ∷ 49 ∷ 31 ∷ 48 ∷ 31 ∷ []) ++ codes "202401012024010103.1" ++ (1 ∷ 31 ∷ []) ++ codes "2.0"
    ++ (31 ∷ 1 ∷ 1 ∷ 0 ∷ 31 ∷ 30 ∷ [])
    ++ (2 ∷ 0 ∷ 0 ∷ []) ++ counts ++ (30 ∷ [])

abbrev pub square_counts : List ℕ
square_counts =
    1 ∷ 0 ∷ 0 ∷ 0 ∷ 0 ∷ 0 ∷ 0 ∷ 0 ∷ 1 ∷ 0 ∷ 0 ∷ 0 ∷ 0 ∷ 0 ∷ 0 ∷ 0 ∷
    0 ∷ 0 ∷ 0 ∷ 0 ∷ 4 ∷ 0 ∷ 0 ∷ 0 ∷ 4 ∷ 0 ∷ 0 ∷ 0 ∷ 0 ∷ 0 ∷ 0 ∷ 0 ∷ []

abbrev pub no_counts : List ℕ
no_counts =
    0 ∷ 0 ∷ 0 ∷ 0 ∷ 0 ∷ 0 ∷ 0 ∷ 0 ∷ 0 ∷ 0 ∷ 0 ∷ 0 ∷ 0 ∷ 0 ∷ 0 ∷ 0 ∷
    0 ∷ 0 ∷ 0 ∷ 0 ∷ 0 ∷ 0 ∷ 0 ∷ 0 ∷ 0 ∷ 0 ∷ 0 ∷ 0 ∷ 0 ∷ 0 ∷ 0 ∷ 0 ∷ []

abbrev pub geographic_bytes : List ℕ
geographic_bytes =
    codes "00068 D     00039   2104" ++ codes "0001030DSPM263" ++ (30 ∷ [])
    ++ (2 ∷ 0 ∷ 30 ∷ [])
    ++ (20 ∷ 1 ∷ 0 ∷ 0 ∷ 0 ∷ 2 ∷ 23 ∷ 23 ∷ 16 ∷ 39 ∷ 0 ∷ 0 ∷ 1 ∷ 1 ∷ 1 ∷ 1 ∷ 128 ∷ 150 ∷ 152 ∷ 0 ∷ 10 ∷ 0 ∷ 0 ∷ 0 ∷ 31 ∷ 30 ∷ [])

-- the record of a connected node, with its number, its identification number and its coordinates
abbrev pub node_bytes : ℕ → ℕ → List ℕ → List ℕ → List ℕ
node_bytes number id y x =
    codes "00067 D     00046   1204" ++ codes "0001300VRID903SG2D912" ++ (30 ∷ [])
    ++ (number ∷ 0 ∷ 30 ∷ [])
    ++ (120 ∷ id ∷ 0 ∷ 0 ∷ 0 ∷ 1 ∷ 0 ∷ 1 ∷ 30 ∷ [])
    ++ y ++ x ++ (30 ∷ [])

-- 0 and 40,000 as coordinates
abbrev pub zero_bytes : List ℕ
zero_bytes = 0 ∷ 0 ∷ 0 ∷ 0 ∷ []

abbrev pub side_bytes : List ℕ
side_bytes = 64 ∷ 156 ∷ 0 ∷ 0 ∷ []

-- the record of an edge from one connected node to another
abbrev pub edge_bytes : ℕ → ℕ → ℕ → ℕ → List ℕ
edge_bytes number id first last =
    codes "00080 D     00049   2204" ++ codes "00010300VRID0903VRPT1912" ++ (30 ∷ [])
    ++ (number ∷ 0 ∷ 30 ∷ [])
    ++ (130 ∷ id ∷ 0 ∷ 0 ∷ 0 ∷ 1 ∷ 0 ∷ 1 ∷ 30 ∷ [])
    ++ (120 ∷ first ∷ 0 ∷ 0 ∷ 0 ∷ 255 ∷ 255 ∷ 1 ∷ 255 ∷ 120 ∷ last ∷ 0 ∷ 0 ∷ 0 ∷ 255 ∷ 255 ∷ 2 ∷ 255 ∷ 30 ∷ [])

abbrev pub boundary_bytes : List ℕ
boundary_bytes =
    130 ∷ 3 ∷ 0 ∷ 0 ∷ 0 ∷ 1 ∷ 1 ∷ 255 ∷ 130 ∷ 2 ∷ 0 ∷ 0 ∷ 0 ∷ 1 ∷ 1 ∷ 255 ∷
    130 ∷ 4 ∷ 0 ∷ 0 ∷ 0 ∷ 2 ∷ 1 ∷ 255 ∷ 130 ∷ 1 ∷ 0 ∷ 0 ∷ 0 ∷ 2 ∷ 1 ∷ 255 ∷ 30 ∷ []

abbrev pub depth_area_bytes : List ℕ
depth_area_bytes =
    codes "00115 D     00057   2204" ++ codes "00010300FRID1303FOID0916FSPT3325" ++ (30 ∷ [])
    ++ (11 ∷ 0 ∷ 30 ∷ [])
    ++ (100 ∷ 1 ∷ 0 ∷ 0 ∷ 0 ∷ 3 ∷ 1 ∷ 42 ∷ 0 ∷ 1 ∷ 0 ∷ 1 ∷ 30 ∷ [])
    ++ (1 ∷ 0 ∷ 1 ∷ 0 ∷ 0 ∷ 0 ∷ 1 ∷ 0 ∷ 30 ∷ [])
    ++ boundary_bytes

abbrev pub coverage_bytes : List ℕ
coverage_bytes =
    codes "00128 D     00065   2204" ++ codes "00010300FRID1303FOID0916ATTF0525FSPT3330" ++ (30 ∷ [])
    ++ (12 ∷ 0 ∷ 30 ∷ [])
    ++ (100 ∷ 2 ∷ 0 ∷ 0 ∷ 0 ∷ 3 ∷ 2 ∷ 46 ∷ 1 ∷ 1 ∷ 0 ∷ 1 ∷ 30 ∷ [])
    ++ (1 ∷ 0 ∷ 2 ∷ 0 ∷ 0 ∷ 0 ∷ 1 ∷ 0 ∷ 30 ∷ [])
    ++ (18 ∷ 0 ∷ 49 ∷ 31 ∷ 30 ∷ [])
    ++ boundary_bytes

-- the nodes, but for the first
abbrev pub other_nodes_bytes : List ℕ
other_nodes_bytes = node_bytes 4 2 zero_bytes side_bytes ++ node_bytes 5 3 side_bytes zero_bytes ++ node_bytes 6 4 side_bytes side_bytes

abbrev pub edges_bytes : List ℕ
edges_bytes = edge_bytes 7 1 1 2 ++ edge_bytes 8 2 3 4 ++ edge_bytes 9 3 1 3 ++ edge_bytes 10 4 2 4

-- the file with some bytes for the first node
abbrev pub square_with : List ℕ → List ℕ
square_with first_node = descriptive_bytes ++ general_bytes square_counts ++ geographic_bytes ++ first_node ++ other_nodes_bytes
    ++ edges_bytes ++ depth_area_bytes ++ coverage_bytes

abbrev pub square_bytes : List ℕ
square_bytes = square_with (node_bytes 3 1 zero_bytes zero_bytes)

-- the first node with five digits for lengths and five for positions
abbrev pub wide_node_bytes : List ℕ
wide_node_bytes =
    codes "00088 D     00067   5504" ++ codes "00010000300000VRID0000900003SG2D0000900012" ++ (30 ∷ [])
    ++ (3 ∷ 0 ∷ 30 ∷ [])
    ++ (120 ∷ 1 ∷ 0 ∷ 0 ∷ 0 ∷ 1 ∷ 0 ∷ 1 ∷ 30 ∷ [])
    ++ zero_bytes ++ zero_bytes ++ (30 ∷ [])
