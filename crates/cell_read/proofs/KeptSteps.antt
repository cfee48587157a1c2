-- What is kept of rows and of values, with one field more.
use Rattle.std.proofs.Common.{◌≡◌, ◌≤◌, ℕ, Bool, true, false, nat_le, List, [], ◌++◌, length, refl, ap, arith, length-append}
use Rattle.std.specs.Prelude.{if◌then◌else◌}
use Rattle.std.specs.Result.{result_ok, result_unwrap_or}
use Rattle.std.proofs.lemmas.Bool.Decides.{nat_tests}
use Rattle.field_spec.specs.Contents.{dsid_content, dssi_content, dspm_content, frid_content, foid_content, attribute_content, partner_content}
use Rattle.field_spec.specs.Contents.{place_content, vrid_content, end_content, plane_content, deep_content}
use Rattle.file_spec.specs.declared.tag.FieldTag.{FieldTag}
use Rattle.file_spec.specs.declared.tag.FieldTag.TheVariants as tags
use Rattle.cell_read.specs.Kept.{row_limit, kept_with, IsKept, all, enough, AreKept}
use Rattle.cell_read.specs.ValuesOf.{with_content}
use Rattle.cell_read.specs.declared.values.FieldValues.{FieldValues}
use Rattle.cell_read.proofs.ValueSteps.{with_all}

-- rows behind others
kept_rows : {X : Type 0} (kept rows more : List X) → IsKept row_limit kept rows → IsKept row_limit (kept_with kept more) (rows ++ more)
kept_rows {X} kept rows more is = by (nat_le row_limit (length kept)) refl is
  where
    by : (b : Bool) → nat_le row_limit (length kept) ≡ b → IsKept row_limit kept rows → IsKept row_limit (if b then kept else kept ++ more) (rows ++ more)
    by true many (all e) = let long : row_limit ≤ length kept = grind (arith, nat_tests) in
        enough long (omega (arith, long, length-append rows more, ap length e))
    by true many (enough k r) = enough k (omega (arith, r, length-append rows more))
    by false few (all e) = all (ap (λ xs. xs ++ more) e)
    by false few (enough k r) = absurd (grind (arith, nat_tests))

-- all values are kept of what is kept whole
pub kept_whole : (kept values : FieldValues) → kept ≡ values → AreKept kept values
kept_whole kept values is = record {
  partners = all (ap (λ (v : FieldValues). v.partners) is);
  places = all (ap (λ (v : FieldValues). v.places) is);
  ends = all (ap (λ (v : FieldValues). v.ends) is);
  plane = all (ap (λ (v : FieldValues). v.plane) is);
  deep = all (ap (λ (v : FieldValues). v.deep) is);
  others = rw is refl;
}

-- values by what is kept of each list of rows, and by the others
as_kept : {kept values : FieldValues} → IsKept row_limit kept.partners values.partners → IsKept row_limit kept.places values.places
    → IsKept row_limit kept.ends values.ends → IsKept row_limit kept.plane values.plane → IsKept row_limit kept.deep values.deep
    → record kept { partners = values.partners; places = values.places; ends = values.ends; plane = values.plane; deep = values.deep } ≡ values
    → AreKept kept values
as_kept r p e x d o = record { partners = r; places = p; ends = e; plane = x; deep = d; others = o }

-- a field more
pub kept_more : (nall : ℕ) (tag : FieldTag) (b : List ℕ) (kept values : FieldValues) → AreKept kept values
    → AreKept (with_content nall tag b kept) (with_all nall tag b values)
unfolding with_content with_all
kept_more nall tags.RecordNumber b k v is = is
kept_more nall tags.Dsid b k v is = as_kept is.partners is.places is.ends is.plane is.deep
    (ap (λ (u : FieldValues). record u { dsid = result_ok (dsid_content b) }) is.others)
kept_more nall tags.Dssi b k v is = as_kept is.partners is.places is.ends is.plane is.deep
    (ap (λ (u : FieldValues). record u { dssi = result_ok (dssi_content b) }) is.others)
kept_more nall tags.Dspm b k v is = as_kept is.partners is.places is.ends is.plane is.deep
    (ap (λ (u : FieldValues). record u { dspm = result_ok (dspm_content b) }) is.others)
kept_more nall tags.Frid b k v is = as_kept is.partners is.places is.ends is.plane is.deep
    (ap (λ (u : FieldValues). record u { frid = result_ok (frid_content b) }) is.others)
kept_more nall tags.Foid b k v is = as_kept is.partners is.places is.ends is.plane is.deep
    (ap (λ (u : FieldValues). record u { foid = result_ok (foid_content b) }) is.others)
kept_more nall tags.Attf b k v is = as_kept is.partners is.places is.ends is.plane is.deep
    (ap (λ (u : FieldValues). record u { attf = u.attf ++ result_unwrap_or (attribute_content 0 b) [] }) is.others)
kept_more nall tags.Natf b k v is = as_kept is.partners is.places is.ends is.plane is.deep
    (ap (λ (u : FieldValues). record u { natf = u.natf ++ result_unwrap_or (attribute_content nall b) [] }) is.others)
kept_more nall tags.Ffpt b k v is = let more = result_unwrap_or (partner_content b) [] in
    as_kept (kept_rows k.partners v.partners more is.partners) is.places is.ends is.plane is.deep
    (ap (λ (u : FieldValues). record u { partners = v.partners ++ more }) is.others)
kept_more nall tags.Fspt b k v is = let more = result_unwrap_or (place_content b) [] in
    as_kept is.partners (kept_rows k.places v.places more is.places) is.ends is.plane is.deep
    (ap (λ (u : FieldValues). record u { places = v.places ++ more }) is.others)
kept_more nall tags.Vrid b k v is = as_kept is.partners is.places is.ends is.plane is.deep
    (ap (λ (u : FieldValues). record u { vrid = result_ok (vrid_content b) }) is.others)
kept_more nall tags.Attv b k v is = as_kept is.partners is.places is.ends is.plane is.deep
    (ap (λ (u : FieldValues). record u { attv = u.attv ++ result_unwrap_or (attribute_content 0 b) [] }) is.others)
kept_more nall tags.Vrpt b k v is = let more = result_unwrap_or (end_content b) [] in
    as_kept is.partners is.places (kept_rows k.ends v.ends more is.ends) is.plane is.deep
    (ap (λ (u : FieldValues). record u { ends = v.ends ++ more }) is.others)
kept_more nall tags.Sg2d b k v is = let more = result_unwrap_or (plane_content b) [] in
    as_kept is.partners is.places is.ends (kept_rows k.plane v.plane more is.plane) is.deep
    (ap (λ (u : FieldValues). record u { plane = v.plane ++ more }) is.others)
kept_more nall tags.Sg3d b k v is = let more = result_unwrap_or (deep_content b) [] in
    as_kept is.partners is.places is.ends is.plane (kept_rows k.deep v.deep more is.deep)
    (ap (λ (u : FieldValues). record u { deep = v.deep ++ more }) is.others)
