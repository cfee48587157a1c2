-- Good files of unusual form: records in any order, record identifiers anywhere, fields that join, fields without a row.
use Rattle.std.specs.Prelude.{ℕ, List, [], ◌∷◌, pos, codes, Ok}
use Rattle.s57_types.specs.declared.cell.Cell.{Cell}
use Rattle.s57_types.specs.declared.name.Kind.{Kind}
use Rattle.s57_types.specs.declared.name.Kind.TheVariants.{Vi, Vc, Ve}
use Rattle.s57_types.specs.declared.record.Attr.{Attr}
use Rattle.s57_types.specs.declared.record.Partner.{Partner}
use Rattle.s57_types.specs.declared.record.Rec.{Rec}
use Rattle.s57_types.specs.declared.record.Rec.TheVariants.{V, F}
use Rattle.s57_types.specs.declared.record.Spot.{Spot}
use Rattle.frame_spec.specs.RecordFrame.{Field}
use Rattle.cell_parts.specs.Parts.{bare_feature, bare_head, name, end_at, outer}
use Rattle.file_samples.specs.Fields.{attribute}
use Rattle.file_samples.specs.SmallFiles.{AreDecoded, field, number, dsid, dssi, dspm, vrid, frid, foid, attributes, file, file_with, geographic}

abbrev pub small_cell : Cell
small_cell = record { head = bare_head; vi = []; vc = []; ve = []; fe = [] }

abbrev pub bare_vector : Kind → ℕ → Rec
bare_vector kind n = V (record { name = name kind n; rver = 1; attrs = []; ends = []; plane = []; deep = [] })

-- a feature without geometry, with its attributes, partners and places
abbrev pub plain_feature : List Attr → List Attr → List Partner → List Spot → Rec
plain_feature attf natf partners places = F (record (bare_feature 1 255 2 42) { attf = attf; natf = natf; partners = partners; places = places })

-- points, soundings and pointers of one row each
abbrev pub point : ℕ → Field
point y = field (codes "SG2D") (y ∷ 0 ∷ 0 ∷ 0 ∷ 0 ∷ 0 ∷ 0 ∷ 0 ∷ 30 ∷ [])

abbrev pub sounding : ℕ → Field
sounding y = field (codes "SG3D") (y ∷ 0 ∷ 0 ∷ 0 ∷ 0 ∷ 0 ∷ 0 ∷ 0 ∷ 9 ∷ 0 ∷ 0 ∷ 0 ∷ 30 ∷ [])

abbrev pub pointer : ℕ → ℕ → Field
pointer topi id = field (codes "VRPT") (120 ∷ id ∷ 0 ∷ 0 ∷ 0 ∷ 255 ∷ 255 ∷ topi ∷ 255 ∷ 30 ∷ [])

abbrev pub spatial_pointer : ℕ → ℕ → Field
spatial_pointer id ornt = field (codes "FSPT") (130 ∷ id ∷ 0 ∷ 0 ∷ 0 ∷ ornt ∷ 1 ∷ 255 ∷ 30 ∷ [])

abbrev pub feature_pointer : ℕ → Field
feature_pointer fidn = field (codes "FFPT") (1 ∷ 0 ∷ fidn ∷ 0 ∷ 0 ∷ 0 ∷ 1 ∷ 0 ∷ 2 ∷ 31 ∷ 30 ∷ [])

abbrev pub partner : ℕ → Partner
partner fidn = record { to = record { agen = 1; fidn = fidn; fids = 1 }; rind = 2; comt = [] }

-- records of each kind may have one number, in any order; each list keeps the order of the file
abbrev pub RecordsMayMix : Type 0
RecordsMayMix = AreDecoded (
    (file_with [], Ok small_cell) ∷ (
      file_with ((frid 1 1 ∷ foid ∷ []) ∷ (vrid 130 1 1 ∷ []) ∷ (vrid 120 9 1 ∷ []) ∷ (vrid 110 1 1 ∷ []) ∷ (vrid 120 1 1 ∷ []) ∷ []),
      Ok (record small_cell {
        vi = bare_vector Vi 1 ∷ [];
        vc = bare_vector Vc 9 ∷ bare_vector Vc 1 ∷ [];
        ve = bare_vector Ve 1 ∷ [];
        fe = plain_feature [] [] [] [] ∷ [];
      }),
    ) ∷ [])

-- record identifiers may be missing, repeated, anywhere and of any bytes; the fields behind the leading one have any order
abbrev pub FieldsMayMix : Type 0
FieldsMayMix = AreDecoded (
    (file ((number ∷ dsid 1 ∷ number ∷ dssi 2 0 ∷ []) ∷ (dspm ∷ number ∷ []) ∷ []), Ok small_cell) ∷
    (file ((field (codes "0001") (31 ∷ []) ∷ field (codes "0001") (30 ∷ 30 ∷ []) ∷ dsid 1 ∷ dssi 2 0 ∷ []) ∷ geographic ∷ []), Ok small_cell) ∷ (
      file_with ((number ∷ frid 1 1 ∷ spatial_pointer 5 1 ∷ attributes (codes "NATF") 65 ∷ attributes (codes "ATTF") 66 ∷ number ∷ foid ∷ []) ∷ []),
      Ok (record small_cell { fe = plain_feature (attribute 1 (66 ∷ []) ∷ []) (attribute 1 (65 ∷ []) ∷ []) [] (outer 5 1 ∷ []) ∷ [] }),
    ) ∷ [])

-- repeated coordinates and pointers join in order; a field without a row is as if left out
abbrev pub FieldsJoin : Type 0
FieldsJoin = AreDecoded ((
  file_with ((vrid 130 1 1 ∷ point 3 ∷ sounding 1 ∷ pointer 2 8 ∷ point 1 ∷ pointer 1 7 ∷ field (codes "SG2D") (30 ∷ []) ∷ sounding 2 ∷ point 2 ∷ []) ∷ []),
  Ok (record small_cell {
    ve = V (record {
      name = name Ve 1;
      rver = 1;
      attrs = [];
      ends = end_at 2 8 ∷ end_at 1 7 ∷ [];
      plane = (pos 3, pos 0) ∷ (pos 1, pos 0) ∷ (pos 2, pos 0) ∷ [];
      deep = (pos 1, pos 0, pos 9) ∷ (pos 2, pos 0, pos 9) ∷ [];
    }) ∷ [];
  }),
) ∷ (
  file_with ((frid 1 1 ∷ foid ∷ spatial_pointer 2 2 ∷ feature_pointer 9 ∷ field (codes "ATTF")
      (30 ∷ []) ∷ spatial_pointer 1 1 ∷ feature_pointer 8 ∷ field (codes "NATF") (30 ∷ []) ∷ []) ∷ []),
  Ok (record small_cell { fe = plain_feature [] [] (partner 9 ∷ partner 8 ∷ []) (outer 2 2 ∷ outer 1 1 ∷ []) ∷ [] }),
) ∷ [])
