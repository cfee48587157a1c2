-- The bytes of single fields, with the content or the fault of each, and with the fields that are written.
use Rattle.std.specs.Prelude.{◌≡◌, ℕ, List, [], ◌∷◌, ◌++◌, map, pos, negsuc, codes, Option, Some, None, Ok, Err}
use Rattle.std.specs.Prelude.{ℤ}
use Rattle.s57_types.specs.FieldRows.{attribute_row, partner_row, deep_row}
use Rattle.s57_types.specs.RecordFields.{rows_field}
use Rattle.s57_types.specs.declared.record.Attr.{Attr}
use Rattle.s57_types.specs.declared.record.Partner.{Partner}
use Rattle.field_spec.specs.Contents.{attribute_content, partner_content, deep_content}
use Rattle.field_spec.specs.declared.fault.FieldFault.{FieldFault}
use Rattle.field_spec.specs.declared.fault.FieldFault.TheVariants.{BadField, BadText}
use Rattle.file_spec.specs.RecordReading.{content_fault}
use Rattle.file_spec.specs.declared.tag.FieldTag.{FieldTag}
use Rattle.file_spec.specs.declared.tag.FieldTag.TheVariants as tags

abbrev pub attribute : ℕ → List ℕ → Attr
attribute code value = record { code = code; value = value }

-- national attributes of two-byte texts end with the field terminator as one unit or as one byte; the unit 1F 00 ends a
-- text, and other units with these bytes don't
abbrev pub wide_attribute : Attr
wide_attribute = attribute 300 (31 ∷ 1 ∷ 0 ∷ 30 ∷ [])

abbrev pub wide_attribute_bytes : List ℕ
wide_attribute_bytes = 44 ∷ 1 ∷ 31 ∷ 1 ∷ 0 ∷ 30 ∷ 31 ∷ 0 ∷ 30 ∷ 0 ∷ []

abbrev pub WideTextsAreRead : Type 0
WideTextsAreRead =
    map (attribute_content 2) (
    wide_attribute_bytes ∷ (44 ∷ 1 ∷ 31 ∷ 1 ∷ 0 ∷ 30 ∷ 31 ∷ 0 ∷ 30 ∷ []) ∷
    (30 ∷ []) ∷ (30 ∷ 0 ∷ []) ∷
    (1 ∷ 0 ∷ 31 ∷ 0 ∷ 2 ∷ 0 ∷ 65 ∷ 0 ∷ 31 ∷ 0 ∷ 30 ∷ 0 ∷ []) ∷
    (44 ∷ 1 ∷ 30 ∷ 0 ∷ 31 ∷ 0 ∷ 30 ∷ 0 ∷ []) ∷
    (44 ∷ 1 ∷ 65 ∷ 31 ∷ 0 ∷ 30 ∷ 0 ∷ []) ∷
    (44 ∷ 1 ∷ 65 ∷ 0 ∷ 31 ∷ 30 ∷ []) ∷
    (44 ∷ 1 ∷ 65 ∷ 0 ∷ 31 ∷ 0 ∷ 0 ∷ 30 ∷ []) ∷
    [] ∷ [])
    ≡ Ok (wide_attribute ∷ []) ∷ Ok (wide_attribute ∷ []) ∷
    Ok [] ∷ Ok [] ∷
    Ok (attribute 1 [] ∷ attribute 2 (65 ∷ 0 ∷ []) ∷ []) ∷
    Err BadText ∷
    Err BadField ∷
    Err BadField ∷
    Err BadField ∷
    Err BadField ∷ []

abbrev pub WideTextsAreWritten : Type 0
WideTextsAreWritten =
    rows_field 2 (codes "NATF") (attribute_row 2) (wide_attribute ∷ [])
    ≡ record { tag = codes "NATF"; bytes = wide_attribute_bytes } ∷ []

-- at the levels 0 and 1 a byte is a character
abbrev pub TextsAreRead : Type 0
TextsAreRead =
    map (attribute_content 1) (
    (44 ∷ 1 ∷ 228 ∷ 0 ∷ 31 ∷ 30 ∷ []) ∷
    (44 ∷ 1 ∷ 31 ∷ 1 ∷ 0 ∷ 65 ∷ 31 ∷ 30 ∷ []) ∷
    (30 ∷ []) ∷
    (44 ∷ 1 ∷ 65 ∷ 30 ∷ 31 ∷ 30 ∷ []) ∷
    (44 ∷ 1 ∷ 65 ∷ 30 ∷ []) ∷
    (44 ∷ 1 ∷ 65 ∷ 31 ∷ []) ∷
    (30 ∷ 0 ∷ []) ∷ [])
    ≡ Ok (attribute 300 (228 ∷ 0 ∷ []) ∷ []) ∷
    Ok (attribute 300 [] ∷ attribute 1 (65 ∷ []) ∷ []) ∷
    Ok [] ∷
    Err BadText ∷
    Err BadField ∷
    Err BadField ∷
    Err BadField ∷ []

-- coordinates and depths have their sign; pointers to features have a comment
abbrev pub soundings : List (ℤ × ℤ × ℤ)
soundings = (negsuc 0, pos 256, negsuc 2147483647) ∷ (pos 2147483647, pos 0, pos 52) ∷ []

abbrev pub soundings_bytes : List ℕ
soundings_bytes =
    255 ∷ 255 ∷ 255 ∷ 255 ∷ 0 ∷ 1 ∷ 0 ∷ 0 ∷ 0 ∷ 0 ∷ 0 ∷ 128 ∷
    255 ∷ 255 ∷ 255 ∷ 127 ∷ 0 ∷ 0 ∷ 0 ∷ 0 ∷ 52 ∷ 0 ∷ 0 ∷ 0 ∷ 30 ∷ []

abbrev pub partners : List Partner
partners = record { to = record { agen = 513; fidn = 67305985; fids = 65535 }; rind = 2; comt = codes "master" } ∷ record {
  to =
      record { agen = 1; fidn = 2; fids = 3 };
  rind = 3;
  comt = [];
} ∷ []

abbrev pub partners_bytes : List ℕ
partners_bytes = (1 ∷ 2 ∷ 1 ∷ 2 ∷ 3 ∷ 4 ∷ 255 ∷ 255 ∷ 2 ∷ []) ++ codes "master" ++ (31 ∷ 1 ∷ 0 ∷ 2 ∷ 0 ∷ 0 ∷ 0 ∷ 3 ∷ 0 ∷ 3 ∷ 31 ∷ 30 ∷ [])

abbrev pub RowsAreRead : Type 0
RowsAreRead = (deep_content soundings_bytes ≡ Ok soundings) × (partner_content partners_bytes ≡ Ok partners)

abbrev pub RowsAreWritten : Type 0
RowsAreWritten =
    rows_field 0 (codes "SG3D") deep_row soundings ++ rows_field 0 (codes "FFPT") partner_row partners
    ≡ record { tag = codes "SG3D"; bytes = soundings_bytes } ∷ record { tag = codes "FFPT"; bytes = partners_bytes } ∷ []

-- the faults of fields that are at fault, each beside its bytes, at the level NALL 0
abbrev pub identification_bytes : ℕ → ℕ → List ℕ → List ℕ
identification_bytes rcnm fixed_byte end =
    (rcnm ∷ 1 ∷ 0 ∷ 0 ∷ 0 ∷ 1 ∷ 5 ∷ 31 ∷ 31 ∷ 31 ∷ []) ++ codes "2024010120240101" ++ (48 ∷ 51 ∷ 46 ∷ fixed_byte ∷ 1 ∷ 31 ∷ 31 ∷ 1 ∷ 1 ∷ 0 ∷ []) ++ end

abbrev pub structure_bytes : ℕ → ℕ → List ℕ
structure_bytes aall nall =
    2 ∷ aall ∷ nall ∷ 0 ∷ 0 ∷ 0 ∷ 0 ∷ 0 ∷ 0 ∷ 0 ∷ 0 ∷ 0 ∷ 0 ∷ 0 ∷ 0 ∷ 0 ∷ 0 ∷ 0 ∷ 0 ∷
    0 ∷ 0 ∷ 0 ∷ 0 ∷ 0 ∷ 0 ∷ 0 ∷ 0 ∷ 0 ∷ 0 ∷ 0 ∷ 0 ∷ 0 ∷ 0 ∷ 0 ∷ 0 ∷ 30 ∷ []

abbrev pub field_faults : List ((FieldTag × List ℕ) × Option FieldFault)
field_faults =
    -- a record identifier may have any bytes
    ((tags.RecordNumber, []), None) ∷ ((tags.RecordNumber, 1 ∷ []), None) ∷
    -- a record name RCNM that is none of the field's
    ((tags.Dsid, identification_bytes 10 49 (31 ∷ 30 ∷ [])), None) ∷ ((tags.Dsid, identification_bytes 20 49 (31 ∷ 30 ∷ [])), Some BadField) ∷
    ((tags.Frid, 100 ∷ 1 ∷ 0 ∷ 0 ∷ 0 ∷ 1 ∷ 2 ∷ 42 ∷ 0 ∷ 1 ∷ 0 ∷ 1 ∷ 30 ∷ []), None) ∷
    ((tags.Frid, 110 ∷ 1 ∷ 0 ∷ 0 ∷ 0 ∷ 1 ∷ 2 ∷ 42 ∷ 0 ∷ 1 ∷ 0 ∷ 1 ∷ 30 ∷ []), Some BadField) ∷
    ((tags.Vrid, 110 ∷ 1 ∷ 0 ∷ 0 ∷ 0 ∷ 1 ∷ 0 ∷ 1 ∷ 30 ∷ []), None) ∷ ((tags.Vrid, 140 ∷ 1 ∷ 0 ∷ 0 ∷ 0 ∷ 1 ∷ 0 ∷ 1 ∷ 30 ∷ []), Some BadField) ∷
    ((tags.Vrid, 100 ∷ 1 ∷ 0 ∷ 0 ∷ 0 ∷ 1 ∷ 0 ∷ 1 ∷ 30 ∷ []), Some BadField) ∷ ((tags.Vrid, 10 ∷ 1 ∷ 0 ∷ 0 ∷ 0 ∷ 1 ∷ 0 ∷ 1 ∷ 30 ∷ []), Some BadField) ∷
    ((tags.Vrpt, 110 ∷ 1 ∷ 0 ∷ 0 ∷ 0 ∷ 255 ∷ 255 ∷ 1 ∷ 255 ∷ 100 ∷ 1 ∷ 0 ∷ 0 ∷ 0 ∷ 255 ∷ 255 ∷ 2 ∷ 255 ∷ 30 ∷ []), Some BadField) ∷
    ((tags.Vrpt, 10 ∷ 0 ∷ 0 ∷ 0 ∷ 0 ∷ 255 ∷ 255 ∷ 1 ∷ 255 ∷ 30 ∷ []), Some BadField) ∷ (
      (tags.Fspt, 10 ∷ 0 ∷ 0 ∷ 0 ∷ 0 ∷ 1 ∷ 1 ∷ 255 ∷ 30 ∷ []),
      Some BadField,
    ) ∷
    ((tags.Fspt, 130 ∷ 1 ∷ 0 ∷ 0 ∷ 0 ∷ 1 ∷ 1 ∷ 255 ∷ 30 ∷ []), None) ∷ ((tags.Fspt, 100 ∷ 1 ∷ 0 ∷ 0 ∷ 0 ∷ 1 ∷ 1 ∷ 255 ∷ 30 ∷ []), Some BadField) ∷
    -- lexical levels out of range
    ((tags.Dssi, structure_bytes 1 2), None) ∷ ((tags.Dssi, structure_bytes 2 0), Some BadField) ∷ ((tags.Dssi, structure_bytes 0 3), Some BadField) ∷
    -- no terminator, bytes left over, and half a row
    ((tags.Foid, 1 ∷ 0 ∷ 1 ∷ 0 ∷ 0 ∷ 0 ∷ 1 ∷ 0 ∷ 31 ∷ []), Some BadField) ∷ ((tags.Foid, 1 ∷ 0 ∷ 1 ∷ 0 ∷ 0 ∷ 0 ∷ 1 ∷ 0 ∷ 0 ∷ 30 ∷ []), Some BadField) ∷
    ((tags.Foid, 1 ∷ 0 ∷ 1 ∷ 0 ∷ 0 ∷ 0 ∷ 1 ∷ 30 ∷ []), Some BadField) ∷
    ((tags.Sg2d, 30 ∷ []), None) ∷ ((tags.Sg2d, 1 ∷ 2 ∷ 3 ∷ 4 ∷ 5 ∷ 6 ∷ 7 ∷ 30 ∷ []), Some BadField) ∷
    ((tags.Sg2d, 1 ∷ 2 ∷ 3 ∷ 4 ∷ 5 ∷ 6 ∷ 7 ∷ 8 ∷ []), Some BadField) ∷
    ((tags.Sg3d, 1 ∷ 2 ∷ 3 ∷ 4 ∷ 5 ∷ 6 ∷ 7 ∷ 8 ∷ 30 ∷ []), Some BadField) ∷
    -- a text without its end, and a control byte in a text and in a fixed text
    ((tags.Dsid, identification_bytes 10 49 (65 ∷ 30 ∷ [])), Some BadField) ∷ ((tags.Dsid, identification_bytes 10 49 (30 ∷ 31 ∷ 30 ∷ [])), Some BadText) ∷
    ((tags.Dsid, identification_bytes 10 31 (31 ∷ 30 ∷ [])), Some BadText) ∷ ((tags.Dsid, identification_bytes 10 30 (31 ∷ 30 ∷ [])), Some BadText) ∷
    ((tags.Attv, 1 ∷ 0 ∷ 30 ∷ 31 ∷ 30 ∷ []), Some BadText) ∷
    ((tags.Ffpt, 1 ∷ 0 ∷ 2 ∷ 0 ∷ 0 ∷ 0 ∷ 3 ∷ 0 ∷ 3 ∷ 30 ∷ 31 ∷ 30 ∷ []), Some BadText) ∷
    -- both: the record name and a text, and a text in the first row and half a row
    ((tags.Dsid, identification_bytes 20 31 (31 ∷ 30 ∷ [])), Some BadField) ∷ ((tags.Attf, 1 ∷ 0 ∷ 30 ∷ 31 ∷ 5 ∷ 30 ∷ []), Some BadField) ∷ []

abbrev pub FieldFaultsAreAsListed : Type 0
FieldFaultsAreAsListed =
    map (λ (row : (FieldTag × List ℕ) × Option FieldFault). content_fault 0 row.0.0 row.0.1) field_faults ≡ map
    (λ (row : (FieldTag × List ℕ) × Option FieldFault). row.1) field_faults
