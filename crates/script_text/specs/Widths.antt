-- Values of the parts of edits that fit their fields (S-57 Part 3, 7.6 and 7.7.1). This project's own.
use Rattle.std.specs.Prelude.{ℕ, ℤ, ◌<◌, ◌^◌, FitsSigned, List, All}
use Rattle.std.specs.Int.{w32}
use Rattle.s57_types.specs.declared.name.RecName.{RecName}
use Rattle.s57_types.specs.declared.name.Lnam.{Lnam}
use Rattle.s57_types.specs.declared.record.Attr.{Attr}
use Rattle.s57_types.specs.declared.record.End.{End}
use Rattle.s57_types.specs.declared.record.Spot.{Spot}
use Rattle.s57_types.specs.declared.record.Partner.{Partner}
use Rattle.s57_types.specs.declared.record.Vector.{Vector}
use Rattle.s57_types.specs.declared.record.Feature.{Feature}
use Rattle.s57_types.specs.declared.record.Rec.{Rec}
use Rattle.s57_types.specs.declared.record.Rec.TheVariants.{V, F, H}

abbrev pub IsNameOfWidth : RecName → Type 0
IsNameOfWidth n = n.id < 2 ^ 32

-- texts are bytes
abbrev pub IsTextOfWidth : List ℕ → Type 0
IsTextOfWidth = All (λ b. b < 256)

pub record IsIdentityOfWidth (l : Lnam) : Type 0 where
  pub agen : l.agen < 2 ^ 16
  pub fidn : l.fidn < 2 ^ 32
  pub fids : l.fids < 2 ^ 16

pub record IsAttributeOfWidth (a : Attr) : Type 0 where
  pub code : a.code < 2 ^ 16
  pub value : IsTextOfWidth a.value

-- what both kinds of pointers to vector records have: the name, ORNT, USAG and MASK
pub record IsPointerOfWidth (name : RecName) (orientation usage masking : ℕ) : Type 0 where
  pub to : IsNameOfWidth name
  pub ornt : orientation < 2 ^ 8
  pub usag : usage < 2 ^ 8
  pub mask : masking < 2 ^ 8

pub record IsEndOfWidth (e : End) : Type 0 where
  pub pointer : IsPointerOfWidth e.to e.ornt e.usag e.mask
  pub topi : e.topi < 2 ^ 8

pub record IsPointOfWidth (p : ℤ × ℤ) : Type 0 where
  pub latitude : FitsSigned w32 p.0
  pub longitude : FitsSigned w32 p.1

pub record IsSoundingOfWidth (p : ℤ × ℤ × ℤ) : Type 0 where
  pub latitude : FitsSigned w32 p.0
  pub longitude : FitsSigned w32 p.1
  pub depth : FitsSigned w32 p.2

pub record IsPartnerOfWidth (p : Partner) : Type 0 where
  pub to : IsIdentityOfWidth p.to
  pub rind : p.rind < 2 ^ 8
  pub comt : IsTextOfWidth p.comt

abbrev pub IsPlaceOfWidth : Spot → Type 0
IsPlaceOfWidth s = IsPointerOfWidth s.to s.ornt s.usag s.mask

pub record IsVectorOfWidth (v : Vector) : Type 0 where
  pub name : IsNameOfWidth v.name
  pub rver : v.rver < 2 ^ 16
  pub attrs : All IsAttributeOfWidth v.attrs
  pub ends : All IsEndOfWidth v.ends
  pub plane : All IsPointOfWidth v.plane
  pub deep : All IsSoundingOfWidth v.deep

pub record IsFeatureOfWidth (f : Feature) : Type 0 where
  pub name : IsNameOfWidth f.name
  pub rver : f.rver < 2 ^ 16
  pub prim : f.prim < 2 ^ 8
  pub grup : f.grup < 2 ^ 8
  pub objl : f.objl < 2 ^ 16
  pub foid : IsIdentityOfWidth f.foid
  pub attf : All IsAttributeOfWidth f.attf
  pub natf : All IsAttributeOfWidth f.natf
  pub partners : All IsPartnerOfWidth f.partners
  pub places : All IsPlaceOfWidth f.places

abbrev pub IsRecordOfWidth : Rec → Type 0
IsRecordOfWidth (V v) = IsVectorOfWidth v
IsRecordOfWidth (F f) = IsFeatureOfWidth f
IsRecordOfWidth (H h) = Unit {0}
