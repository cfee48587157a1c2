-- What the bytes of each field say, or the field's fault (S-57 Part 3, 7.3, 7.6 and 7.7). A bad field goes before a bad text.
use Rattle.std.specs.Prelude.{ℕ, ◌==◌, ◌&&◌, ◌||◌, Bool, true, not, nat_le, List, [], ◌∷◌, map, Option, Some, None, Result, Ok, Err, slice_get, if◌then◌else◌}
use Rattle.std.specs.Prelude.{ℤ, pos}
use Rattle.std.specs.List.{list_all}
use Rattle.std.specs.Result.{result_map_both}
use Rattle.s57_types.specs.Subfield.{Form, Subfield, unsigned_of, signed_of, text_of, wide_text_of, fixed_of, is_plain}
use Rattle.s57_types.specs.FieldRows.{number_forms, dsid_forms, dssi_forms, dspm_forms, frid_forms, foid_forms, attribute_forms, partner_forms, place_forms}
use Rattle.s57_types.specs.FieldRows.{vrid_forms, end_forms, plane_forms, deep_forms}
use Rattle.field_spec.specs.Cutting.{field_row, field_rows}
use Rattle.field_spec.specs.declared.fault.FieldFault.{FieldFault}
use Rattle.field_spec.specs.declared.fault.FieldFault.TheVariants.{BadField, BadText}
use Rattle.s57_types.specs.declared.name.Kind.{Kind}
use Rattle.s57_types.specs.declared.name.Kind.TheVariants.{Vi, Vc, Ve, Fe}
use Rattle.s57_types.specs.declared.name.RecName.{RecName}
use Rattle.s57_types.specs.declared.name.Lnam.{Lnam}
use Rattle.s57_types.specs.declared.record.Attr.{Attr}
use Rattle.s57_types.specs.declared.record.End.{End}
use Rattle.s57_types.specs.declared.record.Spot.{Spot}
use Rattle.s57_types.specs.declared.record.Partner.{Partner}
use Rattle.s57_types.specs.declared.field.Dsid.{Dsid}
use Rattle.s57_types.specs.declared.field.Dssi.{Dssi}
use Rattle.s57_types.specs.declared.field.Dspm.{Dspm}
use Rattle.s57_types.specs.declared.field.Frid.{Frid}
use Rattle.s57_types.specs.declared.field.Vrid.{Vrid}

-- a subfield of a row, by its place from 0
abbrev pub number_value : Option Subfield → ℕ
number_value (Some (unsigned_of w n)) = n
number_value other = 0

abbrev pub signed_value : Option Subfield → ℤ
signed_value (Some (signed_of z)) = z
signed_value other = pos 0

abbrev pub text_value : Option Subfield → List ℕ
text_value (Some (text_of t)) = t
text_value (Some (wide_text_of t)) = t
text_value (Some (fixed_of t)) = t
text_value other = []

abbrev pub number_in : List Subfield → ℕ → ℕ
number_in row k = number_value (slice_get row k)

abbrev pub signed_in : List Subfield → ℕ → ℤ
signed_in row k = signed_value (slice_get row k)

abbrev pub text_in : List Subfield → ℕ → List ℕ
text_in row k = text_value (slice_get row k)

-- rows whose numbers pass a test and whose texts are plain
abbrev pub judged : (List Subfield → Bool) → Option (List (List Subfield)) → Result (List (List Subfield)) FieldFault
judged good None = Err BadField
judged good (Some rows) = if not (list_all good rows) then Err BadField else (if not (list_all (list_all is_plain) rows) then Err BadText else Ok rows)

abbrev pub judged_row : (List Subfield → Bool) → Option (List Subfield) → Result (List Subfield) FieldFault
judged_row good None = Err BadField
judged_row good (Some row) = if not (good row) then Err BadField else (if not (list_all is_plain row) then Err BadText else Ok row)

abbrev pub any_row : List Subfield → Bool
any_row row = true

-- a field of one row as a value, and a field of rows as a list of values
abbrev pub row_as : {X : Type 0} → (List Subfield → X) → List Form → (List Subfield → Bool) → List ℕ → Result X FieldFault
row_as value forms good b = result_map_both value (λ e. e) (judged_row good (field_row forms b))

abbrev pub rows_as : {X : Type 0} → (List Subfield → X) → ℕ → List Form → (List Subfield → Bool) → List ℕ → Result (List X) FieldFault
rows_as value level forms good b = result_map_both (map value) (λ e. e) (judged good (field_rows level forms b))

-- the kind of a record name RCNM (S-57 Part 3, 2.2)
abbrev pub is_vector_rcnm : ℕ → Bool
is_vector_rcnm n = (n == 110) || (n == 120) || (n == 130)

abbrev pub kind_of_rcnm : ℕ → Kind
kind_of_rcnm n = if n == 110 then Vi else (if n == 120 then Vc else (if n == 130 then Ve else Fe))

abbrev pub name_in : List Subfield → RecName
name_in row = record { kind = kind_of_rcnm (number_in row 0); id = number_in row 1 }

abbrev pub names_a_vector : List Subfield → Bool
names_a_vector row = is_vector_rcnm (number_in row 0)

abbrev pub lnam_in : List Subfield → Lnam
lnam_in row = record { agen = number_in row 0; fidn = number_in row 1; fids = number_in row 2 }

-- the record identifier 0001: the record number (S-57 Part 3, 7.2.1)
unfoldable pub number_content : List ℕ → Result ℕ FieldFault
number_content = row_as (λ row. number_in row 0) number_forms any_row

abbrev pub dsid_value : List Subfield → Dsid
dsid_value row = record {
  rcid = number_in row 1;
  expp = number_in row 2;
  intu = number_in row 3;
  dsnm = text_in row 4;
  edtn = text_in row 5;
  updn = text_in row 6;
  uadt = text_in row 7;
  isdt = text_in row 8;
  sted = text_in row 9;
  prsp = number_in row 10;
  psdn = text_in row 11;
  pred = text_in row 12;
  prof = number_in row 13;
  agen = number_in row 14;
  comt = text_in row 15;
}

unfoldable pub dsid_content : List ℕ → Result Dsid FieldFault
dsid_content = row_as dsid_value dsid_forms (λ row. number_in row 0 == 10)

abbrev pub dssi_value : List Subfield → Dssi
dssi_value row = record {
  dstr = number_in row 0;
  aall = number_in row 1;
  nall = number_in row 2;
  counts = number_in row 3 ∷ number_in row 4 ∷ number_in row 5 ∷ number_in row 6 ∷ number_in row 7 ∷ number_in row 8 ∷ number_in row 9 ∷ number_in row 10 ∷ [];
}

-- the lexical levels are AALL, 0 or 1, and NALL, from 0 to 2 (S-57 Part 3, 2.4)
abbrev pub has_good_levels : List Subfield → Bool
has_good_levels row = nat_le (number_in row 1) 1 && nat_le (number_in row 2) 2

unfoldable pub dssi_content : List ℕ → Result Dssi FieldFault
dssi_content = row_as dssi_value dssi_forms has_good_levels

abbrev pub dspm_value : List Subfield → Dspm
dspm_value row = record {
  rcid = number_in row 1;
  hdat = number_in row 2;
  vdat = number_in row 3;
  sdat = number_in row 4;
  cscl = number_in row 5;
  duni = number_in row 6;
  huni = number_in row 7;
  puni = number_in row 8;
  coun = number_in row 9;
  comf = number_in row 10;
  somf = number_in row 11;
  comt = text_in row 12;
}

unfoldable pub dspm_content : List ℕ → Result Dspm FieldFault
dspm_content = row_as dspm_value dspm_forms (λ row. number_in row 0 == 20)

abbrev pub frid_value : List Subfield → Frid
frid_value row = record {
  rcid = number_in row 1;
  prim = number_in row 2;
  grup = number_in row 3;
  objl = number_in row 4;
  rver = number_in row 5;
  ruin = number_in row 6;
}

unfoldable pub frid_content : List ℕ → Result Frid FieldFault
frid_content = row_as frid_value frid_forms (λ row. number_in row 0 == 100)

unfoldable pub foid_content : List ℕ → Result Lnam FieldFault
foid_content = row_as lnam_in foid_forms any_row

abbrev pub attribute_value : List Subfield → Attr
attribute_value row = record { code = number_in row 0; value = text_in row 1 }

-- attributes at a lexical level: ATTF and ATTV with one-byte texts, NATF at the level NALL
unfoldable pub attribute_content : ℕ → List ℕ → Result (List Attr) FieldFault
attribute_content level = rows_as attribute_value level (attribute_forms level) any_row

abbrev pub partner_value : List Subfield → Partner
partner_value row = record { to = lnam_in row; rind = number_in row 3; comt = text_in row 4 }

unfoldable pub partner_content : List ℕ → Result (List Partner) FieldFault
partner_content = rows_as partner_value 0 partner_forms any_row

abbrev pub place_value : List Subfield → Spot
place_value row = record { to = name_in row; ornt = number_in row 2; usag = number_in row 3; mask = number_in row 4 }

unfoldable pub place_content : List ℕ → Result (List Spot) FieldFault
place_content = rows_as place_value 0 place_forms names_a_vector

abbrev pub vrid_value : List Subfield → Vrid
vrid_value row = record { name = name_in row; rver = number_in row 2; ruin = number_in row 3 }

unfoldable pub vrid_content : List ℕ → Result Vrid FieldFault
vrid_content = row_as vrid_value vrid_forms names_a_vector

abbrev pub end_value : List Subfield → End
end_value row = record { to = name_in row; ornt = number_in row 2; usag = number_in row 3; topi = number_in row 4; mask = number_in row 5 }

unfoldable pub end_content : List ℕ → Result (List End) FieldFault
end_content = rows_as end_value 0 end_forms names_a_vector

abbrev pub plane_value : List Subfield → ℤ × ℤ
plane_value row = (signed_in row 0, signed_in row 1)

unfoldable pub plane_content : List ℕ → Result (List (ℤ × ℤ)) FieldFault
plane_content = rows_as plane_value 0 plane_forms any_row

abbrev pub deep_value : List Subfield → ℤ × ℤ × ℤ
deep_value row = (signed_in row 0, signed_in row 1, signed_in row 2)

unfoldable pub deep_content : List ℕ → Result (List (ℤ × ℤ × ℤ)) FieldFault
deep_content = rows_as deep_value 0 deep_forms any_row
