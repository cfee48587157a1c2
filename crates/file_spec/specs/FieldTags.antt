-- The tags of the fields of a cell file, and the records in which they stand (S-57 Part 3, 7.1).
use Rattle.std.specs.Prelude.{ℕ, Bool, true, false, List, [], ◌∷◌, codes, find, Option, nat_eq}
use Rattle.std.specs.Cmp.Lexicographic.{pointwise}
use Rattle.frame_spec.specs.RecordFrame.{Field}
use Rattle.file_spec.specs.declared.tag.FieldTag.{FieldTag}
use Rattle.file_spec.specs.declared.tag.FieldTag.TheVariants.{RecordNumber, Dsid, Dssi, Dspm, Frid, Foid, Attf, Natf, Ffpt, Fspt, Vrid, Attv, Vrpt, Sg2d, Sg3d}
use Rattle.file_spec.specs.declared.tag.RecordType.{RecordType}
use Rattle.file_spec.specs.declared.tag.RecordType.TheVariants.{GeneralInformation, GeographicReference, Vector, Feature}

abbrev pub tag_text : FieldTag → List ℕ
tag_text RecordNumber = codes "0001"
tag_text Dsid = codes "DSID"
tag_text Dssi = codes "DSSI"
tag_text Dspm = codes "DSPM"
tag_text Frid = codes "FRID"
tag_text Foid = codes "FOID"
tag_text Attf = codes "ATTF"
tag_text Natf = codes "NATF"
tag_text Ffpt = codes "FFPT"
tag_text Fspt = codes "FSPT"
tag_text Vrid = codes "VRID"
tag_text Attv = codes "ATTV"
tag_text Vrpt = codes "VRPT"
tag_text Sg2d = codes "SG2D"
tag_text Sg3d = codes "SG3D"

-- the fields that may stand in a record. Other fields of the standard aren't read, and are refused by their tags
abbrev pub tags_of : RecordType → List FieldTag
tags_of GeneralInformation = RecordNumber ∷ Dsid ∷ Dssi ∷ []
tags_of GeographicReference = RecordNumber ∷ Dspm ∷ []
tags_of Vector = RecordNumber ∷ Vrid ∷ Attv ∷ Vrpt ∷ Sg2d ∷ Sg3d ∷ []
tags_of Feature = RecordNumber ∷ Frid ∷ Foid ∷ Attf ∷ Natf ∷ Ffpt ∷ Fspt ∷ []

abbrev pub is_tagged : FieldTag → Field → Bool
is_tagged tag field = pointwise nat_eq field.tag (tag_text tag)

-- the tag of a field of a record, if it is one of the record's
abbrev pub tag_in : RecordType → Field → Option FieldTag
tag_in type field = find (λ tag. is_tagged tag field) (tags_of type)

-- whether a record may have several fields of a tag, whose rows then join
abbrev pub may_repeat : FieldTag → Bool
may_repeat RecordNumber = true
may_repeat Dsid = false
may_repeat Dssi = false
may_repeat Dspm = false
may_repeat Frid = false
may_repeat Foid = false
may_repeat Attf = false
may_repeat Natf = false
may_repeat Ffpt = true
may_repeat Fspt = true
may_repeat Vrid = false
may_repeat Attv = false
may_repeat Vrpt = true
may_repeat Sg2d = true
may_repeat Sg3d = true
