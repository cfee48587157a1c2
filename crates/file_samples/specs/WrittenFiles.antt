-- What is written: control bytes by lexical level, counts by object class, record numbers, and a cell with every field.
use Rattle.std.specs.Prelude.{◌≡◌, ℕ, List, [], ◌∷◌, ◌++◌, map, take, drop, negsuc, pos, codes, Ok}
use Rattle.s57_types.specs.declared.cell.Cell.{Cell}
use Rattle.s57_types.specs.declared.name.Kind.TheVariants.{Vi}
use Rattle.s57_types.specs.declared.record.Rec.{Rec}
use Rattle.s57_types.specs.declared.record.Rec.TheVariants.{V, F}
use Rattle.frame_spec.specs.RecordFrame.{Field}
use Rattle.file_spec.specs.DescriptiveRecord.{descriptive_fields}
use Rattle.file_spec.specs.EncodedCell.{encoded_cell, record_counts, record_bytes}
use Rattle.file_spec.specs.DecodedCell.{decoded_cell}
use Rattle.file_samples.specs.Fields.{attribute, wide_attribute, wide_attribute_bytes, soundings, soundings_bytes, partners, partners_bytes}
use Rattle.cell_parts.specs.Parts.{bare_feature, head, name, node, area, outer, end_at}

-- the controls of ATTF and NATF, the eighth and the ninth description, at the levels AALL and NALL
abbrev pub attribute_controls : ℕ → ℕ → List (List ℕ)
attribute_controls aall nall = map (λ (f : Field). take 9 f.bytes) (take 2 (drop 7 (descriptive_fields aall nall)))

abbrev pub LevelsAreWritten : Type 0
LevelsAreWritten =
    attribute_controls 0 0 ++ attribute_controls 1 0 ++ attribute_controls 0 1 ++ attribute_controls 1 2
    ≡ codes "2600;&   " ∷ codes "2600;&   " ∷ codes "2600;&-A " ∷ codes "2600;&   " ∷
    codes "2600;&   " ∷ codes "2600;&-A " ∷ codes "2600;&-A " ∷ codes "2600;&%/A" ∷ []

-- features of classes at the ends of the ranges: 299, 300, 399, 400, 499, 500, 599, 600
abbrev pub of_class : ℕ → Rec
of_class objl = area 1 2 objl [] []

abbrev pub classes : Cell
classes = record {
  head = head 0 0;
  vi = [];
  vc = node 1 0 0 ∷ [];
  ve = [];
  fe = map of_class (0 ∷ 1 ∷ 299 ∷ 300 ∷ 301 ∷ 399 ∷ 400 ∷ 499 ∷ 500 ∷ 550 ∷ 599 ∷ 599 ∷ 600 ∷ 65535 ∷ []);
}

-- NOMR, NOCR, NOGR, NOLR, NOIN, NOCN, NOED, NOFA
abbrev pub CountsAreByClass : Type 0
CountsAreByClass = record_counts classes ≡ 3 ∷ 4 ∷ 5 ∷ 2 ∷ 0 ∷ 1 ∷ 0 ∷ 0 ∷ []

-- record numbers begin anew behind 65,535; they stand in bytes 46 and 47 of a node's record
abbrev pub NumbersBeginAnew : Type 0
NumbersBeginAnew =
    map (λ n. take 2 (drop 46 (record_bytes 0 n (node 1 0 0)))) (3 ∷ 256 ∷ 65535 ∷ 65536 ∷ 65537 ∷ 262146 ∷ [])
    ≡ (3 ∷ 0 ∷ []) ∷ (0 ∷ 1 ∷ []) ∷ (255 ∷ 255 ∷ []) ∷ (0 ∷ 0 ∷ []) ∷ (1 ∷ 0 ∷ []) ∷ (2 ∷ 0 ∷ []) ∷ []

-- a vector record with all fields, and a feature record with all fields at the level NALL 2
abbrev pub full_vector : Rec
full_vector = V (record {
  name = name Vi 4294967295;
  rver = 258;
  attrs = attribute 65535 (codes "ab") ∷ [];
  ends = end_at 1 770 ∷ [];
  plane = (negsuc 1, pos 1) ∷ [];
  deep = soundings;
})

abbrev pub full_vector_bytes : List ℕ
full_vector_bytes =
    codes "00135 D     00073   2204" ++ codes "00010300VRID0903ATTV0612VRPT1018SG2D0928SG3D2537" ++ (30 ∷ [])
    ++ (3 ∷ 0 ∷ 30 ∷ [])
    ++ (110 ∷ 255 ∷ 255 ∷ 255 ∷ 255 ∷ 2 ∷ 1 ∷ 1 ∷ 30 ∷ [])
    ++ (255 ∷ 255 ∷ 97 ∷ 98 ∷ 31 ∷ 30 ∷ [])
    ++ (120 ∷ 2 ∷ 3 ∷ 0 ∷ 0 ∷ 255 ∷ 255 ∷ 1 ∷ 255 ∷ 30 ∷ [])
    ++ (254 ∷ 255 ∷ 255 ∷ 255 ∷ 1 ∷ 0 ∷ 0 ∷ 0 ∷ 30 ∷ [])
    ++ soundings_bytes

abbrev pub full_feature : Rec
full_feature = F (record (bare_feature 16909060 255 2 772) {
  foid = record { agen = 513; fidn = 67305985; fids = 1029 };
  attf = attribute 1 [] ∷ attribute 2 (codes "x") ∷ [];
  natf = wide_attribute ∷ [];
  partners = partners;
  places = outer 1 2 ∷ [];
})

abbrev pub full_feature_bytes : List ℕ
full_feature_bytes =
    codes "00160 D     00081   2204" ++ codes "00010300FRID1303FOID0916ATTF0825NATF1033FFPT2743FSPT0970" ++ (30 ∷ [])
    ++ (4 ∷ 0 ∷ 30 ∷ [])
    ++ (100 ∷ 4 ∷ 3 ∷ 2 ∷ 1 ∷ 255 ∷ 2 ∷ 4 ∷ 3 ∷ 1 ∷ 0 ∷ 1 ∷ 30 ∷ [])
    ++ (1 ∷ 2 ∷ 1 ∷ 2 ∷ 3 ∷ 4 ∷ 5 ∷ 4 ∷ 30 ∷ [])
    ++ (1 ∷ 0 ∷ 31 ∷ 2 ∷ 0 ∷ 120 ∷ 31 ∷ 30 ∷ [])
    ++ wide_attribute_bytes
    ++ partners_bytes
    ++ (130 ∷ 1 ∷ 0 ∷ 0 ∷ 0 ∷ 2 ∷ 1 ∷ 255 ∷ 30 ∷ [])

abbrev pub full_cell : Cell
full_cell = record { head = head 1 2; vi = full_vector ∷ []; vc = []; ve = []; fe = full_feature ∷ [] }

abbrev pub EveryFieldIsWritten : Type 0
EveryFieldIsWritten = drop 1785 (encoded_cell full_cell) ≡ full_vector_bytes ++ full_feature_bytes

abbrev pub EveryFieldIsRead : Type 0
EveryFieldIsRead = decoded_cell (encoded_cell full_cell) ≡ Ok full_cell
