-- The fields that a record is written with, in the order of S-57 Part 3, 7.3, 7.6 and 7.7. A field of rows that has none
-- is left out.
use Rattle.std.specs.Prelude.{ℕ, ◌==◌, List, [], ◌∷◌, ◌++◌, codes, if◌then◌else◌}
use Rattle.std.specs.List.{flat_map}
use Rattle.frame_spec.specs.RecordFrame.{Field}
use Rattle.frame_spec.specs.WrittenRecord.{record_length, field_lengths}
use Rattle.s57_types.specs.Subfield.{Subfield, row_bytes, field_terminator}
use Rattle.s57_types.specs.FieldRows.{number_row, dsid_row, dssi_row, dspm_row, frid_row, foid_row, attribute_row, partner_row, place_row, vrid_row, end_row}
use Rattle.s57_types.specs.FieldRows.{plane_row, deep_row}
use Rattle.s57_types.specs.declared.head.Head.{Head}
use Rattle.s57_types.specs.declared.record.Vector.{Vector}
use Rattle.s57_types.specs.declared.record.Feature.{Feature}
use Rattle.s57_types.specs.declared.record.Rec.{Rec}
use Rattle.s57_types.specs.declared.record.Rec.TheVariants.{V, F, H}
use Rattle.s57_types.specs.declared.field.Dsid.{Dsid}
use Rattle.s57_types.specs.declared.field.Dssi.{Dssi}
use Rattle.s57_types.specs.declared.field.Dspm.{Dspm}

-- the field terminator, of two bytes behind two-byte texts
abbrev pub terminator_of : ℕ → List ℕ
terminator_of level = if level == 2 then field_terminator ∷ 0 ∷ [] else field_terminator ∷ []

-- a field of one row
abbrev pub field_of : List ℕ → List Subfield → Field
field_of tag row = record { tag = tag; bytes = row_bytes row ++ (field_terminator ∷ []) }

-- a field of rows at a lexical level, or none
abbrev pub rows_field : {X : Type 0} → ℕ → List ℕ → (X → List Subfield) → List X → List Field
rows_field level tag row [] = []
rows_field level tag row (x ∷ xs) = record { tag = tag; bytes = flat_map (λ y. row_bytes (row y)) (x ∷ xs) ++ terminator_of level } ∷ []

-- what the head says in each of its fields; a base cell is new, and has chain-node topology (S-57 Appendix B.1)
abbrev pub dsid_of_head : Head → Dsid
dsid_of_head h = record {
  rcid = h.dsid_rcid;
  expp = 1;
  intu = h.intu;
  dsnm = h.dsnm;
  edtn = h.edtn;
  updn = h.updn;
  uadt = h.uadt;
  isdt = h.isdt;
  sted = h.sted;
  prsp = h.prsp;
  psdn = h.psdn;
  pred = h.pred;
  prof = h.prof;
  agen = h.agen;
  comt = h.dsid_comt;
}

abbrev pub dssi_of_head : Head → List ℕ → Dssi
dssi_of_head h counts = record { dstr = 2; aall = h.aall; nall = h.nall; counts = counts }

abbrev pub dspm_of_head : Head → Dspm
dspm_of_head h = record {
  rcid = h.dspm_rcid;
  hdat = h.hdat;
  vdat = h.vdat;
  sdat = h.sdat;
  cscl = h.cscl;
  duni = h.duni;
  huni = h.huni;
  puni = h.puni;
  coun = h.coun;
  comf = h.comf;
  somf = h.somf;
  comt = h.dspm_comt;
}

abbrev pub number_field : ℕ → Field
number_field number = field_of (codes "0001") (number_row number)

-- the two head records, with the counts of the data set structure information
abbrev pub identification_fields : ℕ → Head → List ℕ → List Field
identification_fields number h counts = number_field number ∷ field_of (codes "DSID") (dsid_row (dsid_of_head h)) ∷ field_of
    (codes "DSSI") (dssi_row (dssi_of_head h counts)) ∷ []

abbrev pub parameter_fields : ℕ → Head → List Field
parameter_fields number h = number_field number ∷ field_of (codes "DSPM") (dspm_row (dspm_of_head h)) ∷ []

abbrev pub vector_fields : ℕ → Vector → List Field
vector_fields number v = (number_field number ∷ field_of (codes "VRID") (vrid_row (record { name = v.name; rver = v.rver; ruin = 1 })) ∷ [])
    ++ rows_field 0 (codes "ATTV") (attribute_row 0) v.attrs ++ rows_field 0 (codes "VRPT") end_row v.ends
    ++ rows_field 0 (codes "SG2D") plane_row v.plane ++ rows_field 0 (codes "SG3D") deep_row v.deep

-- a feature's national attributes are at the level NALL
abbrev pub feature_fields : ℕ → ℕ → Feature → List Field
feature_fields nall number f =
    (number_field number ∷ field_of (codes "FRID") (frid_row
    (record { rcid = f.name.id; prim = f.prim; grup = f.grup; objl = f.objl; rver = f.rver; ruin = 1 }))
    ∷ field_of (codes "FOID") (foid_row f.foid) ∷ [])
    ++ rows_field 0 (codes "ATTF") (attribute_row 0) f.attf ++ rows_field nall (codes "NATF") (attribute_row nall) f.natf
    ++ rows_field 0 (codes "FFPT") partner_row f.partners ++ rows_field 0 (codes "FSPT") place_row f.places

-- a head is written as two records of its own
abbrev pub record_fields : ℕ → ℕ → Rec → List Field
record_fields nall number (V v) = vector_fields number v
record_fields nall number (F f) = feature_fields nall number f
record_fields nall number (H h) = []

-- how many bytes a record takes when it is written; its number takes two bytes whatever it is
abbrev pub written_length : ℕ → Rec → ℕ
written_length nall rec = record_length (field_lengths (record_fields nall 0 rec))

-- how many bytes the first head record takes, whatever its number and its counts are
abbrev pub identification_length : Head → ℕ
identification_length h = record_length (field_lengths (identification_fields 0 h (0 ∷ 0 ∷ 0 ∷ 0 ∷ 0 ∷ 0 ∷ 0 ∷ 0 ∷ [])))

-- the greatest length of a record
abbrev pub length_limit : ℕ
length_limit = 99999
