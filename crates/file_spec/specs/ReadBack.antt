-- A cell that is written is read again, where each of its fields is.
use Rattle.std.specs.Prelude.{◌≡◌, ℕ, List, [], ◌∷◌, ◌++◌, Result, Ok}
use Rattle.std.specs.List.{AllByRecursion, flat_map}
use Rattle.s57_types.specs.Subfield.{Subfield, row_bytes, field_terminator}
use Rattle.s57_types.specs.FieldRows.{dsid_row, dssi_row, dspm_row, frid_row, foid_row, attribute_row, partner_row, place_row, vrid_row, end_row, plane_row}
use Rattle.s57_types.specs.FieldRows.{deep_row}
use Rattle.s57_types.specs.RecordFields.{terminator_of, dsid_of_head, dssi_of_head, dspm_of_head}
use Rattle.s57_types.specs.declared.cell.Cell.{Cell}
use Rattle.s57_types.specs.declared.head.Head.{Head}
use Rattle.s57_types.specs.declared.field.Frid.{Frid}
use Rattle.s57_types.specs.declared.field.Vrid.{Vrid}
use Rattle.s57_types.specs.declared.record.Feature.{Feature}
use Rattle.s57_types.specs.declared.record.Vector.{Vector}
use Rattle.s57_types.specs.declared.record.Rec.{Rec}
use Rattle.s57_types.specs.declared.record.Rec.TheVariants.{V, F, H}
use Rattle.field_spec.specs.Contents.{dsid_content, dssi_content, dspm_content, frid_content, foid_content, attribute_content, partner_content}
use Rattle.field_spec.specs.Contents.{place_content, vrid_content, end_content, plane_content, deep_content}
use Rattle.field_spec.specs.declared.fault.FieldFault.{FieldFault}
use Rattle.cell_spec.specs.Lookup.{all_records}
use Rattle.cell_spec.specs.Writable.{IsWritable}
use Rattle.file_spec.specs.DecodedCell.{decoded_cell}
use Rattle.file_spec.specs.EncodedCell.{encoded_cell, record_counts}

-- a field of one row, and a field of rows at a lexical level, are read as what was written
abbrev pub RowIsReadBack : {X : Type 0} → (X → List Subfield) → (List ℕ → Result X FieldFault) → X → Type 0
RowIsReadBack row content x = content (row_bytes (row x) ++ (field_terminator ∷ [])) ≡ Ok x

abbrev pub RowsAreReadBack : {X : Type 0} → ℕ → (X → List Subfield) → (List ℕ → Result (List X) FieldFault) → List X → Type 0
RowsAreReadBack level row content xs = content (flat_map (λ y. row_bytes (row y)) xs ++ terminator_of level) ≡ Ok xs

abbrev pub vrid_of : Vector → Vrid
vrid_of v = record { name = v.name; rver = v.rver; ruin = 1 }

abbrev pub frid_of : Feature → Frid
frid_of f = record { rcid = f.name.id; prim = f.prim; grup = f.grup; objl = f.objl; rver = f.rver; ruin = 1 }

pub record VectorIsReadBack (v : Vector) : Type 0 where
  pub identifier : RowIsReadBack vrid_row vrid_content (vrid_of v)
  pub attrs : RowsAreReadBack 0 (attribute_row 0) (attribute_content 0) v.attrs
  pub ends : RowsAreReadBack 0 end_row end_content v.ends
  pub plane : RowsAreReadBack 0 plane_row plane_content v.plane
  pub deep : RowsAreReadBack 0 deep_row deep_content v.deep

pub record FeatureIsReadBack (nall : ℕ) (f : Feature) : Type 0 where
  pub identifier : RowIsReadBack frid_row frid_content (frid_of f)
  pub foid : RowIsReadBack foid_row foid_content f.foid
  pub attf : RowsAreReadBack 0 (attribute_row 0) (attribute_content 0) f.attf
  pub natf : RowsAreReadBack nall (attribute_row nall) (attribute_content nall) f.natf
  pub partners : RowsAreReadBack 0 partner_row partner_content f.partners
  pub places : RowsAreReadBack 0 place_row place_content f.places

abbrev pub RecordIsReadBack : ℕ → Rec → Type 0
RecordIsReadBack nall (V v) = VectorIsReadBack v
RecordIsReadBack nall (F f) = FeatureIsReadBack nall f
RecordIsReadBack nall (H h) = Unit {0}

pub record HeadIsReadBack (h : Head) (counts : List ℕ) : Type 0 where
  pub dsid : RowIsReadBack dsid_row dsid_content (dsid_of_head h)
  pub dssi : RowIsReadBack dssi_row dssi_content (dssi_of_head h counts)
  pub dspm : RowIsReadBack dspm_row dspm_content (dspm_of_head h)

-- each field of the cell's records
pub record FieldsAreReadBack (c : Cell) : Type 0 where
  pub head : HeadIsReadBack c.head (record_counts c)
  pub records : AllByRecursion (RecordIsReadBack c.head.nall) (all_records c)

abbrev pub CellIsReadBack : Type 0
CellIsReadBack = (c : Cell) → IsWritable c → FieldsAreReadBack c → decoded_cell (encoded_cell c) ≡ Ok c
