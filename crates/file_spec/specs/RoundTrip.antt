-- What is written of a writable cell is that cell when it is read.
use Rattle.std.specs.Prelude.{◌≡◌, ◌<◌, ◌^◌, ℕ, List, map, Ok, FitsSigned}
use Rattle.std.specs.Int.{w32}
use Rattle.std.specs.List.{AllByRecursion}
use Rattle.s57_types.specs.Subfield.{Form, Subfield, form_of, unsigned_of, signed_of, text_of, wide_text_of, fixed_of}
use Rattle.s57_types.specs.FieldRows.{dsid_forms, dspm_forms, frid_forms, foid_forms, attribute_forms, partner_forms, place_forms, vrid_forms, end_forms}
use Rattle.s57_types.specs.FieldRows.{plane_forms, deep_forms, dsid_row, dspm_row, frid_row, foid_row, attribute_row, partner_row, place_row, vrid_row}
use Rattle.s57_types.specs.FieldRows.{end_row, plane_row, deep_row}
use Rattle.s57_types.specs.RecordFields.{dsid_of_head, dspm_of_head}
use Rattle.s57_types.specs.declared.cell.Cell.{Cell}
use Rattle.s57_types.specs.declared.record.Attr.{Attr}
use Rattle.s57_types.specs.declared.record.Feature.{Feature}
use Rattle.s57_types.specs.declared.record.Vector.{Vector}
use Rattle.s57_types.specs.declared.record.Rec.{Rec}
use Rattle.s57_types.specs.declared.record.Rec.TheVariants.{V, F, H}
use Rattle.cell_spec.specs.Lookup.{all_records}
use Rattle.cell_spec.specs.Writable.{IsWritable}
use Rattle.file_spec.specs.DecodedCell.{decoded_cell}
use Rattle.file_spec.specs.EncodedCell.{encoded_cell}
use Rattle.file_spec.specs.ReadBack.{vrid_of, frid_of}

-- a number that its bytes can say
abbrev pub IsInRange : Subfield → Type 0
IsInRange (unsigned_of w n) = n < 256 ^ w
IsInRange (signed_of z) = FitsSigned w32 z
IsInRange (text_of t) = Unit {0}
IsInRange (wide_text_of t) = Unit {0}
IsInRange (fixed_of t) = Unit {0}

-- the subfields have these forms, and numbers that their bytes can say
pub record HasForms (forms : List Form) (row : List Subfield) : Type 0 where
  pub forms_are : map form_of row ≡ forms
  pub each : AllByRecursion IsInRange row

-- attributes at each level, since no number of theirs depends on it
abbrev pub AttributeHasForms : Attr → Type 0
AttributeHasForms a = (level : ℕ) → HasForms (attribute_forms level) (attribute_row level a)

pub record VectorHasForms (v : Vector) : Type 0 where
  pub identifier : HasForms vrid_forms (vrid_row (vrid_of v))
  pub attrs : AllByRecursion (λ a. HasForms (attribute_forms 0) (attribute_row 0 a)) v.attrs
  pub ends : AllByRecursion (λ e. HasForms end_forms (end_row e)) v.ends
  pub plane : AllByRecursion (λ p. HasForms plane_forms (plane_row p)) v.plane
  pub deep : AllByRecursion (λ p. HasForms deep_forms (deep_row p)) v.deep

pub record FeatureHasForms (nall : ℕ) (f : Feature) : Type 0 where
  pub identifier : HasForms frid_forms (frid_row (frid_of f))
  pub foid : HasForms foid_forms (foid_row f.foid)
  pub attf : AllByRecursion (λ a. HasForms (attribute_forms 0) (attribute_row 0 a)) f.attf
  pub natf : AllByRecursion (λ a. HasForms (attribute_forms nall) (attribute_row nall a)) f.natf
  pub partners : AllByRecursion (λ p. HasForms partner_forms (partner_row p)) f.partners
  pub places : AllByRecursion (λ s. HasForms place_forms (place_row s)) f.places

abbrev pub RecordHasForms : ℕ → Rec → Type 0
RecordHasForms nall (V v) = VectorHasForms v
RecordHasForms nall (F f) = FeatureHasForms nall f
RecordHasForms nall (H h) = Unit {0}

-- a cell as its types have it: numbers that fit their types, and dates and editions of their length
pub record HasItsTypes (c : Cell) : Type 0 where
  pub dsid : HasForms dsid_forms (dsid_row (dsid_of_head c.head))
  pub dspm : HasForms dspm_forms (dspm_row (dspm_of_head c.head))
  pub records : AllByRecursion (RecordHasForms c.head.nall) (all_records c)

abbrev pub RoundTrip : Type 0
RoundTrip = (c : Cell) → IsWritable c → HasItsTypes c → decoded_cell (encoded_cell c) ≡ Ok c
