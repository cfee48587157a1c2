-- The fields of a cell: for each tag the forms of its subfields, and the subfields of a value (S-57 Part 3, 7.3, 7.6 and
-- 7.7). The record name is RCNM; it isn't kept where the field fixes it.
use Rattle.std.specs.Prelude.{ℕ, List, [], ◌∷◌, ◌++◌, map, ◌==◌, if◌then◌else◌}
use Rattle.s57_types.specs.Subfield.{Form, Subfield, signed, text, wide_text, fixed, b11, b12, b14, unsigned_of, signed_of, text_of, wide_text_of, fixed_of}
use Rattle.s57_types.specs.declared.name.Kind.{Kind}
use Rattle.s57_types.specs.declared.name.Kind.TheVariants.{Vi, Vc, Ve, Fe, Head}
use Rattle.s57_types.specs.declared.name.RecName.{RecName}
use Rattle.s57_types.specs.declared.name.Lnam.{Lnam}
use Rattle.s57_types.specs.declared.record.Attr.{Attr}
use Rattle.s57_types.specs.declared.record.End.{End}
use Rattle.s57_types.specs.declared.record.Spot.{Spot}
use Rattle.s57_types.specs.declared.record.Partner.{Partner}
use Rattle.s57_types.specs.declared.field.Dsid.{Dsid}
use Rattle.s57_types.specs.declared.field.Dssi.{Dssi}
use Rattle.s57_types.specs.declared.field.Dspm.{Dspm}
use Rattle.s57_types.specs.declared.field.Frid.{Frid}
use Rattle.s57_types.specs.declared.field.Vrid.{Vrid}
use Rattle.std.specs.Prelude.{ℤ}

-- the record name RCNM of each kind (S-57 Part 3, 2.2)
abbrev pub rcnm_of : Kind → ℕ
rcnm_of Vi = 110
rcnm_of Vc = 120
rcnm_of Ve = 130
rcnm_of Fe = 100
rcnm_of Head = 10

-- a text at a lexical level: one byte a character at the levels 0 and 1, two at level 2 (S-57 Part 3, 2.4)
abbrev pub level_form : ℕ → Form
level_form level = if level == 2 then wide_text else text

abbrev pub level_text : ℕ → List ℕ → Subfield
level_text level value = if level == 2 then wide_text_of value else text_of value

-- 0001, the record identifier: the record number
abbrev pub number_forms : List Form
number_forms = b12 ∷ []

abbrev pub number_row : ℕ → List Subfield
number_row n = unsigned_of 2 n ∷ []

-- DSID, data set identification: RCNM, RCID, EXPP, INTU, DSNM, EDTN, UPDN, UADT, ISDT, STED, PRSP, PSDN, PRED, PROF, AGEN,
-- COMT
abbrev pub dsid_forms : List Form
dsid_forms = b11 ∷ b14 ∷ b11 ∷ b11 ∷ text ∷ text ∷ text ∷ fixed 8 ∷ fixed 8 ∷ fixed 4 ∷ b11 ∷ text ∷ text ∷ b11 ∷ b12 ∷ text ∷ []

abbrev pub dsid_row : Dsid → List Subfield
dsid_row d = unsigned_of 1 10 ∷ unsigned_of 4 d.rcid ∷ unsigned_of 1 d.expp ∷ unsigned_of 1 d.intu ∷ text_of d.dsnm ∷ text_of d.edtn ∷ text_of d.updn
    ∷ fixed_of d.uadt ∷ fixed_of d.isdt ∷ fixed_of d.sted ∷ unsigned_of 1 d.prsp ∷ text_of d.psdn ∷ text_of d.pred ∷ unsigned_of 1 d.prof ∷ unsigned_of 2 d.agen
    ∷ text_of d.comt ∷ []

-- DSSI, data set structure information: DSTR, AALL, NALL, and the counts NOMR, NOCR, NOGR, NOLR, NOIN, NOCN, NOED, NOFA
abbrev pub dssi_forms : List Form
dssi_forms = b11 ∷ b11 ∷ b11 ∷ b14 ∷ b14 ∷ b14 ∷ b14 ∷ b14 ∷ b14 ∷ b14 ∷ b14 ∷ []

abbrev pub dssi_row : Dssi → List Subfield
dssi_row d = unsigned_of 1 d.dstr ∷ unsigned_of 1 d.aall ∷ unsigned_of 1 d.nall ∷ map (unsigned_of 4) d.counts

-- DSPM, data set parameters: RCNM, RCID, HDAT, VDAT, SDAT, CSCL, DUNI, HUNI, PUNI, COUN, COMF, SOMF, COMT
abbrev pub dspm_forms : List Form
dspm_forms = b11 ∷ b14 ∷ b11 ∷ b11 ∷ b11 ∷ b14 ∷ b11 ∷ b11 ∷ b11 ∷ b11 ∷ b14 ∷ b14 ∷ text ∷ []

abbrev pub dspm_row : Dspm → List Subfield
dspm_row d = unsigned_of 1 20 ∷ unsigned_of 4 d.rcid ∷ unsigned_of 1 d.hdat ∷ unsigned_of 1 d.vdat ∷ unsigned_of 1 d.sdat
    ∷ unsigned_of 4 d.cscl ∷ unsigned_of 1 d.duni
    ∷ unsigned_of 1 d.huni ∷ unsigned_of 1 d.puni ∷ unsigned_of 1 d.coun ∷ unsigned_of 4 d.comf ∷ unsigned_of 4 d.somf ∷ text_of d.comt ∷ []

-- FRID, feature record identifier: RCNM, RCID, PRIM, GRUP, OBJL, RVER, RUIN
abbrev pub frid_forms : List Form
frid_forms = b11 ∷ b14 ∷ b11 ∷ b11 ∷ b12 ∷ b12 ∷ b11 ∷ []

abbrev pub frid_row : Frid → List Subfield
frid_row d = unsigned_of 1 100 ∷ unsigned_of 4 d.rcid ∷ unsigned_of 1 d.prim ∷ unsigned_of 1 d.grup ∷ unsigned_of 2 d.objl
    ∷ unsigned_of 2 d.rver ∷ unsigned_of 1 d.ruin ∷ []

-- FOID, feature object identifier: AGEN, FIDN, FIDS
abbrev pub foid_forms : List Form
foid_forms = b12 ∷ b14 ∷ b12 ∷ []

abbrev pub foid_row : Lnam → List Subfield
foid_row l = unsigned_of 2 l.agen ∷ unsigned_of 4 l.fidn ∷ unsigned_of 2 l.fids ∷ []

-- ATTF, NATF, ATTV, attributes: ATTL and ATVL in each row
abbrev pub attribute_forms : ℕ → List Form
attribute_forms level = b12 ∷ level_form level ∷ []

abbrev pub attribute_row : ℕ → Attr → List Subfield
attribute_row level a = unsigned_of 2 a.code ∷ level_text level a.value ∷ []

-- NAME, the name of a record in a pointer: RCNM and RCID
abbrev pub name_row : RecName → List Subfield
name_row n = unsigned_of 1 (rcnm_of n.kind) ∷ unsigned_of 4 n.id ∷ []

-- FFPT, pointers to feature objects: LNAM, RIND and COMT in each row
abbrev pub partner_forms : List Form
partner_forms = foid_forms ++ (b11 ∷ text ∷ [])

abbrev pub partner_row : Partner → List Subfield
partner_row p = foid_row p.to ++ (unsigned_of 1 p.rind ∷ text_of p.comt ∷ [])

-- FSPT, pointers to spatial records: NAME, ORNT, USAG and MASK in each row
abbrev pub place_forms : List Form
place_forms = b11 ∷ b14 ∷ b11 ∷ b11 ∷ b11 ∷ []

abbrev pub place_row : Spot → List Subfield
place_row s = name_row s.to ++ (unsigned_of 1 s.ornt ∷ unsigned_of 1 s.usag ∷ unsigned_of 1 s.mask ∷ [])

-- VRID, vector record identifier: RCNM, RCID, RVER, RUIN
abbrev pub vrid_forms : List Form
vrid_forms = b11 ∷ b14 ∷ b12 ∷ b11 ∷ []

abbrev pub vrid_row : Vrid → List Subfield
vrid_row d = name_row d.name ++ (unsigned_of 2 d.rver ∷ unsigned_of 1 d.ruin ∷ [])

-- VRPT, pointers of a vector record: NAME, ORNT, USAG, TOPI and MASK in each row
abbrev pub end_forms : List Form
end_forms = b11 ∷ b14 ∷ b11 ∷ b11 ∷ b11 ∷ b11 ∷ []

abbrev pub end_row : End → List Subfield
end_row e = name_row e.to ++ (unsigned_of 1 e.ornt ∷ unsigned_of 1 e.usag ∷ unsigned_of 1 e.topi ∷ unsigned_of 1 e.mask ∷ [])

-- SG2D, 2-D coordinates: YCOO and XCOO in each row
abbrev pub plane_forms : List Form
plane_forms = signed ∷ signed ∷ []

abbrev pub plane_row : ℤ × ℤ → List Subfield
plane_row p = signed_of p.0 ∷ signed_of p.1 ∷ []

-- SG3D, soundings: YCOO, XCOO and VE3D in each row
abbrev pub deep_forms : List Form
deep_forms = signed ∷ signed ∷ signed ∷ []

abbrev pub deep_row : ℤ × ℤ × ℤ → List Subfield
deep_row p = signed_of p.0 ∷ signed_of p.1 ∷ signed_of p.2 ∷ []
