-- The widths of the values of edits.
use Rattle.std.proofs.Common.{ℤ, ◌<◌, List, [], ◌∷◌, ◌++◌, All, arith}
use Rattle.std.specs.List.{flat_map}
use Rattle.std.proofs.lemmas.List.Elements.{All-nil, All-cons, All-head, All-tail, All-append, All-from_recursion, recursion_from_All}
use Rattle.s57_types.specs.Subfield.{Subfield, unsigned_of}
use Rattle.s57_types.specs.FieldRows.{rcnm_of, name_row, attribute_row, end_row, plane_row, deep_row, frid_row, foid_row, partner_row, place_row}
use Rattle.s57_types.specs.declared.name.Kind.{Kind}
use Rattle.s57_types.specs.declared.name.Kind.TheVariants.{Vi, Vc, Ve, Fe, Head as HeadKind}
use Rattle.s57_types.specs.declared.name.RecName.{RecName}
use Rattle.s57_types.specs.declared.name.Lnam.{Lnam}
use Rattle.s57_types.specs.declared.record.Attr.{Attr}
use Rattle.s57_types.specs.declared.record.End.{End}
use Rattle.s57_types.specs.declared.record.Spot.{Spot}
use Rattle.s57_types.specs.declared.record.Partner.{Partner}
use Rattle.s57_types.specs.declared.record.Vector.{Vector}
use Rattle.s57_types.specs.declared.record.Feature.{Feature}
use Rattle.s57_types.specs.declared.record.Rec.{Rec}
use Rattle.s57_types.specs.declared.record.Rec.TheVariants.{V, F, H}
use Rattle.text_spec.specs.ScriptLines.{IsOfWidth, vector_subfields, feature_subfields, record_subfields}
use Rattle.script_text.specs.Widths.{IsNameOfWidth, IsIdentityOfWidth, IsAttributeOfWidth, IsEndOfWidth, IsPointOfWidth, IsSoundingOfWidth, IsPartnerOfWidth}
use Rattle.script_text.specs.Widths.{IsPlaceOfWidth, IsVectorOfWidth, IsFeatureOfWidth, IsRecordOfWidth}

-- what holds of each element of two lists
pub all_back : {X : Type 0} (P : X → Type 0) (xs ys : List X) → All P (xs ++ ys) → All P ys
all_back P [] ys all = all
all_back P (x ∷ xs) ys all = all_back P xs ys (All-tail P x (xs ++ ys) all)

pub all_front : {X : Type 0} (P : X → Type 0) (xs ys : List X) → All P (xs ++ ys) → All P xs
all_front P [] ys all = All-nil P
all_front P (x ∷ xs) ys all = All-cons P x xs (All-head P x (xs ++ ys) all) (all_front P xs ys (All-tail P x (xs ++ ys) all))

all_of_rows : {X Y : Type 0} (P : Y → Type 0) (Q : X → Type 0) (row : X → List Y) → ((x : X) → All P (row x) → Q x) → (xs : List X)
    → All P (flat_map row xs) → All Q xs
all_of_rows P Q row each [] all = All-nil Q
all_of_rows P Q row each (x ∷ xs) all =
    All-cons Q x xs (each x (all_front P (row x) (flat_map row xs) all)) (all_of_rows P Q row each xs (all_back P (row x) (flat_map row xs) all))

rows_of_all : {X Y : Type 0} (P : Y → Type 0) (Q : X → Type 0) (row : X → List Y) → ((x : X) → Q x → All P (row x)) → (xs : List X)
    → All Q xs → All P (flat_map row xs)
rows_of_all P Q row each [] all = All-nil P
rows_of_all P Q row each (x ∷ xs) all =
    All-append P (row x) (flat_map row xs) (each x (All-head Q x xs all)) (rows_of_all P Q row each xs (All-tail Q x xs all))

-- the widths of names and items
rcnm_fits : (kind : Kind) → rcnm_of kind < 256
rcnm_fits Vi = omega arith
rcnm_fits Vc = omega arith
rcnm_fits Ve = omega arith
rcnm_fits Fe = omega arith
rcnm_fits HeadKind = omega arith

pub name_of_width : (n : RecName) → All IsOfWidth (name_row n) → IsNameOfWidth n
name_of_width n all = (recursion_from_All IsOfWidth (name_row n) all).1.0

pub width_of_name : (n : RecName) → IsNameOfWidth n → All IsOfWidth (name_row n)
width_of_name n width = All-from_recursion IsOfWidth (name_row n) (rcnm_fits n.kind, (width, tt))

identity_of_width : (l : Lnam) → All IsOfWidth (foid_row l) → IsIdentityOfWidth l
identity_of_width l all = let parts = recursion_from_All IsOfWidth (foid_row l) all in record { agen = parts.0; fidn = parts.1.0; fids = parts.1.1.0 }

width_of_identity : (l : Lnam) → IsIdentityOfWidth l → All IsOfWidth (foid_row l)
width_of_identity l width = All-from_recursion IsOfWidth (foid_row l) (width.agen, (width.fidn, (width.fids, tt)))

attribute_of_width : (a : Attr) → All IsOfWidth (attribute_row 0 a) → IsAttributeOfWidth a
attribute_of_width a all = let parts = recursion_from_All IsOfWidth (attribute_row 0 a) all in record { code = parts.0; value = parts.1.0 }

width_of_attribute : (a : Attr) → IsAttributeOfWidth a → All IsOfWidth (attribute_row 0 a)
width_of_attribute a width = All-from_recursion IsOfWidth (attribute_row 0 a) (width.code, (width.value, tt))

end_of_width : (e : End) → All IsOfWidth (end_row e) → IsEndOfWidth e
end_of_width e all =
    let parts = recursion_from_All IsOfWidth (end_row e) all in
    record { pointer = record { to = parts.1.0; ornt = parts.1.1.0; usag = parts.1.1.1.0; mask = parts.1.1.1.1.1.0 }; topi = parts.1.1.1.1.0 }

width_of_end : (e : End) → IsEndOfWidth e → All IsOfWidth (end_row e)
width_of_end e width = let pointer = width.pointer in
    All-from_recursion IsOfWidth (end_row e) (rcnm_fits e.to.kind, (pointer.to, (pointer.ornt, (pointer.usag, (width.topi, (pointer.mask, tt))))))

point_of_width : (p : ℤ × ℤ) → All IsOfWidth (plane_row p) → IsPointOfWidth p
point_of_width p all = let parts = recursion_from_All IsOfWidth (plane_row p) all in record { latitude = parts.0; longitude = parts.1.0 }

width_of_point : (p : ℤ × ℤ) → IsPointOfWidth p → All IsOfWidth (plane_row p)
width_of_point p width = All-from_recursion IsOfWidth (plane_row p) (width.latitude, (width.longitude, tt))

sounding_of_width : (p : ℤ × ℤ × ℤ) → All IsOfWidth (deep_row p) → IsSoundingOfWidth p
sounding_of_width p all = let parts = recursion_from_All IsOfWidth (deep_row p) all in record { latitude = parts.0; longitude = parts.1.0; depth = parts.1.1.0 }

width_of_sounding : (p : ℤ × ℤ × ℤ) → IsSoundingOfWidth p → All IsOfWidth (deep_row p)
width_of_sounding p width = All-from_recursion IsOfWidth (deep_row p) (width.latitude, (width.longitude, (width.depth, tt)))

partner_of_width : (p : Partner) → All IsOfWidth (partner_row p) → IsPartnerOfWidth p
partner_of_width p all =
    let parts = recursion_from_All IsOfWidth (partner_row p) all in
    record { to = record { agen = parts.0; fidn = parts.1.0; fids = parts.1.1.0 }; rind = parts.1.1.1.0; comt = parts.1.1.1.1.0 }

width_of_partner : (p : Partner) → IsPartnerOfWidth p → All IsOfWidth (partner_row p)
width_of_partner p width = All-from_recursion IsOfWidth (partner_row p) (width.to.agen, (width.to.fidn, (width.to.fids, (width.rind, (width.comt, tt)))))

place_of_width : (s : Spot) → All IsOfWidth (place_row s) → IsPlaceOfWidth s
place_of_width s all =
    let parts = recursion_from_All IsOfWidth (place_row s) all in
    record { to = parts.1.0; ornt = parts.1.1.0; usag = parts.1.1.1.0; mask = parts.1.1.1.1.0 }

width_of_place : (s : Spot) → IsPlaceOfWidth s → All IsOfWidth (place_row s)
width_of_place s width = All-from_recursion IsOfWidth (place_row s) (rcnm_fits s.to.kind, (width.to, (width.ornt, (width.usag, (width.mask, tt)))))

-- five lists one after the other
record AreEach (a b c d e : List Subfield) : Type 0 where
  first : All IsOfWidth a
  second : All IsOfWidth b
  third : All IsOfWidth c
  fourth : All IsOfWidth d
  fifth : All IsOfWidth e

each_of : (a b c d e : List Subfield) → All IsOfWidth (a ++ b ++ c ++ d ++ e) → AreEach a b c d e
each_of a b c d e all =
    let four = all_front IsOfWidth (a ++ b ++ c ++ d) e all in
    let three = all_front IsOfWidth (a ++ b ++ c) d four in
    let two = all_front IsOfWidth (a ++ b) c three in
    record {
      first = all_front IsOfWidth a b two;
      second = all_back IsOfWidth a b two;
      third = all_back IsOfWidth (a ++ b) c three;
      fourth = all_back IsOfWidth (a ++ b ++ c) d four;
      fifth = all_back IsOfWidth (a ++ b ++ c ++ d) e all;
    }

of_each : (a b c d e : List Subfield) → AreEach a b c d e → All IsOfWidth (a ++ b ++ c ++ d ++ e)
of_each a b c d e each =
    All-append IsOfWidth (a ++ b ++ c ++ d) e (All-append IsOfWidth (a ++ b ++ c) d
    (All-append IsOfWidth (a ++ b) c (All-append IsOfWidth a b each.first each.second) each.third) each.fourth) each.fifth

-- the widths of records
vector_of_width : (v : Vector) → All IsOfWidth (vector_subfields v) → IsVectorOfWidth v
vector_of_width v all =
    let front = name_row v.name ++ (unsigned_of 2 v.rver ∷ []) in
    let each = each_of front (flat_map (attribute_row 0) v.attrs) (flat_map end_row v.ends) (flat_map plane_row v.plane) (flat_map deep_row v.deep) all in
    let head = recursion_from_All IsOfWidth front each.first in
    record {
      name = head.1.0;
      rver = head.1.1.0;
      attrs = all_of_rows IsOfWidth IsAttributeOfWidth (attribute_row 0) attribute_of_width v.attrs each.second;
      ends = all_of_rows IsOfWidth IsEndOfWidth end_row end_of_width v.ends each.third;
      plane = all_of_rows IsOfWidth IsPointOfWidth plane_row point_of_width v.plane each.fourth;
      deep = all_of_rows IsOfWidth IsSoundingOfWidth deep_row sounding_of_width v.deep each.fifth;
    }

width_of_vector : (v : Vector) → IsVectorOfWidth v → All IsOfWidth (vector_subfields v)
width_of_vector v width =
    let front = name_row v.name ++ (unsigned_of 2 v.rver ∷ []) in
    of_each front (flat_map (attribute_row 0) v.attrs) (flat_map end_row v.ends) (flat_map plane_row v.plane) (flat_map deep_row v.deep) (record {
      first = All-from_recursion IsOfWidth front (rcnm_fits v.name.kind, (width.name, (width.rver, tt)));
      second = rows_of_all IsOfWidth IsAttributeOfWidth (attribute_row 0) width_of_attribute v.attrs width.attrs;
      third = rows_of_all IsOfWidth IsEndOfWidth end_row width_of_end v.ends width.ends;
      fourth = rows_of_all IsOfWidth IsPointOfWidth plane_row width_of_point v.plane width.plane;
      fifth = rows_of_all IsOfWidth IsSoundingOfWidth deep_row width_of_sounding v.deep width.deep;
    })

abbrev front_of : Feature → List Subfield
front_of f = frid_row (record { rcid = f.name.id; prim = f.prim; grup = f.grup; objl = f.objl; rver = f.rver; ruin = 1 }) ++ foid_row f.foid

feature_of_width : (f : Feature) → All IsOfWidth (feature_subfields f) → IsFeatureOfWidth f
feature_of_width f all =
    let each = each_of (front_of f) (flat_map (attribute_row 0) f.attf) (flat_map (attribute_row 0) f.natf) (flat_map partner_row f.partners)
    (flat_map place_row f.places) all in
    let head = recursion_from_All IsOfWidth (front_of f) each.first in
    record {
      name = head.1.0;
      prim = head.1.1.0;
      grup = head.1.1.1.0;
      objl = head.1.1.1.1.0;
      rver = head.1.1.1.1.1.0;
      foid = record { agen = head.1.1.1.1.1.1.1.0; fidn = head.1.1.1.1.1.1.1.1.0; fids = head.1.1.1.1.1.1.1.1.1.0 };
      attf = all_of_rows IsOfWidth IsAttributeOfWidth (attribute_row 0) attribute_of_width f.attf each.second;
      natf = all_of_rows IsOfWidth IsAttributeOfWidth (attribute_row 0) attribute_of_width f.natf each.third;
      partners = all_of_rows IsOfWidth IsPartnerOfWidth partner_row partner_of_width f.partners each.fourth;
      places = all_of_rows IsOfWidth IsPlaceOfWidth place_row place_of_width f.places each.fifth;
    }

width_of_feature : (f : Feature) → IsFeatureOfWidth f → All IsOfWidth (feature_subfields f)
width_of_feature f width =
    of_each (front_of f) (flat_map (attribute_row 0) f.attf) (flat_map (attribute_row 0) f.natf) (flat_map partner_row f.partners)
    (flat_map place_row f.places) (record {
      first = All-from_recursion IsOfWidth (front_of f) (
        omega arith,
        (
          width.name,
          (
            width.prim,
            (
              width.grup,
              (
                width.objl,
                (width.rver, (omega arith, (width.foid.agen, (width.foid.fidn, (width.foid.fids, tt))))),
              ),
            ),
          ),
        ),
      );
      second = rows_of_all IsOfWidth IsAttributeOfWidth (attribute_row 0) width_of_attribute f.attf width.attf;
      third = rows_of_all IsOfWidth IsAttributeOfWidth (attribute_row 0) width_of_attribute f.natf width.natf;
      fourth = rows_of_all IsOfWidth IsPartnerOfWidth partner_row width_of_partner f.partners width.partners;
      fifth = rows_of_all IsOfWidth IsPlaceOfWidth place_row width_of_place f.places width.places;
    })

pub record_of_width : (r : Rec) → All IsOfWidth (record_subfields r) → IsRecordOfWidth r
record_of_width (V v) all = vector_of_width v all
record_of_width (F f) all = feature_of_width f all
record_of_width (H h) all = tt

pub width_of_record : (r : Rec) → IsRecordOfWidth r → All IsOfWidth (record_subfields r)
width_of_record (V v) width = width_of_vector v width
width_of_record (F f) width = width_of_feature f width
width_of_record (H h) width = All-nil IsOfWidth
