-- The data descriptive record that a cell is written with: which fields a record may have, how their subfields are called
-- and which formats they have (ISO/IEC 8211; S-57 Part 3, 7.2.2, 7.3 to 7.7 and Annex A). The names of fields are this
-- project's own.
use Rattle.std.specs.Prelude.{ℕ, ◌==◌, List, [], ◌∷◌, ◌++◌, map, codes, if◌then◌else◌}
use Rattle.std.specs.List.{flat_map}
use Rattle.frame_spec.specs.RecordFrame.{Field}
use Rattle.s57_types.specs.Subfield.{unit_terminator, field_terminator}
use Rattle.file_spec.specs.FieldTags.{tag_text}
use Rattle.file_spec.specs.declared.tag.FieldTag.{FieldTag}
use Rattle.file_spec.specs.declared.tag.FieldTag.TheVariants.{RecordNumber, Dsid, Dssi, Dspm, Frid, Foid, Attf, Natf, Ffpt, Fspt, Vrid, Attv, Vrpt, Sg2d, Sg3d}

-- how a field is made: one number, one row of subfields, or rows of subfields
pub data Structure : Type 0 where
  one_number : Structure
  one_row : Structure
  rows : Structure

-- the description of a field: its tag, its structure, the lexical level of its texts, its name, the labels of its subfields
-- and their formats
pub record Description : Type 0 where
  pub tag : FieldTag
  pub structure : Structure
  pub level : ℕ
  pub name : List ℕ
  pub labels : List ℕ
  pub formats : List ℕ

abbrev pub described : FieldTag → Structure → ℕ → List ℕ → List ℕ → List ℕ → Description
described tag structure level name labels formats =
    record { tag = tag; structure = structure; level = level; name = name; labels = labels; formats = formats }

-- the descriptions at the levels AALL and NALL
abbrev pub descriptions : ℕ → ℕ → List Description
descriptions aall nall =
    described RecordNumber one_number 0 (codes "ISO 8211 Record Identifier") [] (codes "(b12)") ∷
    described Dsid one_row 0 (codes "Data set identification field")
    (codes "RCNM!RCID!EXPP!INTU!DSNM!EDTN!UPDN!UADT!ISDT!STED!PRSP!PSDN!PRED!PROF!AGEN!COMT") (codes "(b11,b14,2b11,3A,2A(8),R(4),b11,2A,b11,b12,A)") ∷
    described Dssi one_row 0 (codes "Data set structure information field")
    (codes "DSTR!AALL!NALL!NOMR!NOCR!NOGR!NOLR!NOIN!NOCN!NOED!NOFA") (codes "(3b11,8b14)") ∷
    described Dspm one_row 0 (codes "Data set parameter field")
    (codes "RCNM!RCID!HDAT!VDAT!SDAT!CSCL!DUNI!HUNI!PUNI!COUN!COMF!SOMF!COMT") (codes "(b11,b14,3b11,b14,4b11,2b14,A)") ∷
    described Frid one_row 0 (codes "Feature record identifier field") (codes "RCNM!RCID!PRIM!GRUP!OBJL!RVER!RUIN") (codes "(b11,b14,2b11,2b12,b11)") ∷
    described Foid one_row 0 (codes "Feature object identifier field") (codes "AGEN!FIDN!FIDS") (codes "(b12,b14,b12)") ∷
    described Attf rows aall (codes "Feature record attribute field") (codes "ATTL!ATVL") (codes "(b12,A)") ∷
    described Natf rows nall (codes "Feature record national attribute field") (codes "ATTL!ATVL") (codes "(b12,A)") ∷
    described Ffpt rows 0 (codes "Feature record to feature object pointer field") (codes "LNAM!RIND!COMT") (codes "(B(64),b11,A)") ∷
    described Fspt rows 0 (codes "Feature record to spatial record pointer field") (codes "NAME!ORNT!USAG!MASK") (codes "(B(40),3b11)") ∷
    described Vrid one_row 0 (codes "Vector record identifier field") (codes "RCNM!RCID!RVER!RUIN") (codes "(b11,b14,b12,b11)") ∷
    described Attv rows 0 (codes "Vector record attribute field") (codes "ATTL!ATVL") (codes "(b12,A)") ∷
    described Vrpt rows 0 (codes "Vector record pointer field") (codes "NAME!ORNT!USAG!TOPI!MASK") (codes "(B(40),4b11)") ∷
    described Sg2d rows 0 (codes "2-D coordinate field") (codes "YCOO!XCOO") (codes "(2b24)") ∷
    described Sg3d rows 0 (codes "3-D coordinate (sounding array) field") (codes "YCOO!XCOO!VE3D") (codes "(3b24)") ∷ []

-- which field stands under which in the tree of a record's fields
abbrev pub tag_pairs : List (FieldTag × FieldTag)
tag_pairs =
    (RecordNumber, Dsid) ∷ (Dsid, Dssi) ∷ (RecordNumber, Dspm) ∷
    (RecordNumber, Frid) ∷ (Frid, Foid) ∷ (Frid, Attf) ∷ (Frid, Natf) ∷ (Frid, Ffpt) ∷ (Frid, Fspt) ∷
    (RecordNumber, Vrid) ∷ (Vrid, Attv) ∷ (Vrid, Vrpt) ∷ (Vrid, Sg2d) ∷ (Vrid, Sg3d) ∷ []

-- the field controls: structure and type of the data, no auxiliary controls, and how terminators are printed
abbrev pub structure_controls : Structure → List ℕ
structure_controls one_number = codes "0500;&"
structure_controls one_row = codes "1600;&"
structure_controls rows = codes "2600;&"

-- the escape sequence of a lexical level, without its first byte: ASCII, Latin 1, and the universal character set in
-- two-byte units
abbrev pub level_controls : ℕ → List ℕ
level_controls level = if level == 2 then codes "%/A" else (if level == 1 then codes "-A " else codes "   ")

-- the labels of rows begin with a star
abbrev pub label_text : Structure → List ℕ → List ℕ
label_text one_number labels = labels
label_text one_row labels = labels
label_text rows labels = codes "*" ++ labels

abbrev pub description_field : Description → Field
description_field d = record {
  tag = tag_text d.tag;
  bytes = structure_controls d.structure ++ level_controls d.level ++ d.name ++ (unit_terminator ∷ []) ++ label_text d.structure d.labels
      ++ (unit_terminator ∷ []) ++ d.formats ++ (field_terminator ∷ []);
}

-- the file control field has no title
abbrev pub control_field : Field
control_field = record {
  tag = codes "0000";
  bytes = codes "0000;&   " ++ (unit_terminator ∷ []) ++ flat_map (λ (pair : FieldTag × FieldTag). tag_text pair.0 ++ tag_text pair.1) tag_pairs
      ++ (field_terminator ∷ []);
}

abbrev pub descriptive_fields : ℕ → ℕ → List Field
descriptive_fields aall nall = control_field ∷ map description_field (descriptions aall nall)
