-- The cell of a file fits its types from its head on, record by record.
use Rattle.std.proofs.Common.{◌≡◌, ℕ, ◌+◌, ◌^◌, ◌<◌, List, [], ◌∷◌, ◌++◌, length, Result, Ok, Err, subst, arith}
use Rattle.std.specs.List.{AllByRecursion}
use Rattle.std.specs.Result.{result_map_both}
use Rattle.frame_spec.specs.RecordFrame.{Field, FrameView}
use Rattle.frame_spec.specs.declared.fault.FrameFault.{FrameFault}
use Rattle.s57_types.specs.FieldRows.{dsid_forms, dsid_row, dspm_forms, dspm_row}
use Rattle.s57_types.specs.declared.cell.Cell.{Cell}
use Rattle.s57_types.specs.declared.field.Dsid.{Dsid}
use Rattle.s57_types.specs.declared.field.Dssi.{Dssi}
use Rattle.s57_types.specs.declared.field.Dspm.{Dspm}
use Rattle.s57_types.specs.declared.name.Kind.{Kind}
use Rattle.s57_types.specs.declared.name.Kind.TheVariants.{Vi, Vc, Ve, Fe, Head as HeadKind}
use Rattle.s57_types.specs.declared.record.Rec.{Rec}
use Rattle.field_spec.specs.Contents.{dsid_content, dspm_content}
use Rattle.cell_spec.specs.Edits.{list_of_kind}
use Rattle.cell_spec.specs.Lookup.{name_of}
use Rattle.file_spec.specs.CellRecords.{empty_cell, head_with, with_record, with_record_of_kind}
use Rattle.file_spec.specs.DecodedCell.{general_information, geographic_reference}
use Rattle.file_spec.specs.DecodedCell.{record_behind, said_by, said_by_next, with_following}
use Rattle.file_spec.specs.FileRecords.{FileRecord, file_records}
use Rattle.file_spec.specs.RecordFaults.{◌>>=◌, fault_at, of_frame}
use Rattle.file_spec.specs.RoundTrip.{HasForms, RecordHasForms, HasItsTypes}
use Rattle.file_spec.specs.declared.fault.RecordFault.{RecordFault}
use Rattle.file_spec.specs.declared.tag.FieldTag.TheVariants as tags
use Rattle.decode_laws.proofs.Contents.{mapped_ok}
use Rattle.decode_laws.proofs.DecodedCells.{general_said, geographic_said, decoded_said, unplaced}
use Rattle.decode_laws.proofs.Records.{step}
use Rattle.cell_spec.proofs.EachItem.{each_append}
use Rattle.answer_laws.proofs.EditedCell.{each_of_kind}
use Rattle.export_laws.specs.DecodedTypes.{DecodedHasItsTypes}
use Rattle.export_laws.proofs.FileBytes.{AreOfBytes, FoundOfBytes, RecordIsOfBytes, file_is_of_bytes}
use Rattle.export_laws.proofs.TypedRecords.{first_tagged, behind_is_typed}
use Rattle.export_laws.proofs.TypedRows.{dsid_typed, dspm_typed}

-- ---- the head
general_is_typed : (fields : List Field) (x : Dsid × Dssi) → AreOfBytes fields → general_information fields ≡ Ok x → HasForms dsid_forms (dsid_row x.0)
general_is_typed fields x bytes is = first_tagged tags.Dsid dsid_content _ dsid_typed fields x.0 bytes (general_said fields x is).dsid

geographic_is_typed : (fields : List Field) (x : Dspm) → AreOfBytes fields → geographic_reference fields ≡ Ok x → HasForms dspm_forms (dspm_row x)
geographic_is_typed fields x bytes is = first_tagged tags.Dspm dspm_content _ dspm_typed fields x bytes (geographic_said fields x is).dspm

head_is_typed : (d : Dsid) (s : Dssi) (p : Dspm) → HasForms dsid_forms (dsid_row d) → HasForms dspm_forms (dspm_row p)
    → HasItsTypes (empty_cell (head_with d s p))
head_is_typed d s p dsid dspm =
    let new : 1 < 256 ^ 1 = omega arith in
    record {
      dsid = record { forms_are = dsid.forms_are; each = (dsid.each.0, (dsid.each.1.0, (new, dsid.each.1.1.1))) };
      dspm = dspm;
      records = tt;
    }

-- ---- one record more
joined : (P : Rec → Type 0) (vi vc ve fe : List Rec) → AllByRecursion P vi → AllByRecursion P vc → AllByRecursion P ve → AllByRecursion P fe
    → AllByRecursion P (vi ++ vc ++ ve ++ fe)
joined P vi vc ve fe i c e f = each_append P (vi ++ vc ++ ve) fe (each_append P (vi ++ vc) ve (each_append P vi vc i c) e) f

with_kind : (kind : Kind) (r : Rec) (c : Cell) → HasItsTypes c → RecordHasForms c.head.nall r → HasItsTypes (with_record_of_kind kind r c)
with_kind kind r c typed new = by kind
  where
    P : Rec → Type 0
    P = RecordHasForms c.head.nall

    each : (k : Kind) → AllByRecursion P (list_of_kind k c)
    each k = each_of_kind P k c typed.records

    grown : (rs : List Rec) → AllByRecursion P rs → AllByRecursion P (rs ++ (r ∷ []))
    grown rs all = each_append P rs (r ∷ []) all (new, tt)

    by : (k : Kind) → HasItsTypes (with_record_of_kind k r c)
    by Vi = record {
      dsid = typed.dsid;
      dspm = typed.dspm;
      records = joined P (c.vi ++ (r ∷ [])) c.vc c.ve c.fe (grown c.vi (each Vi)) (each Vc) (each Ve) (each Fe);
    }
    by Vc = record {
      dsid = typed.dsid;
      dspm = typed.dspm;
      records = joined P c.vi (c.vc ++ (r ∷ [])) c.ve c.fe (each Vi) (grown c.vc (each Vc)) (each Ve) (each Fe);
    }
    by Ve = record {
      dsid = typed.dsid;
      dspm = typed.dspm;
      records = joined P c.vi c.vc (c.ve ++ (r ∷ [])) c.fe (each Vi) (each Vc) (grown c.ve (each Ve)) (each Fe);
    }
    by Fe = record {
      dsid = typed.dsid;
      dspm = typed.dspm;
      records = joined P c.vi c.vc c.ve (c.fe ++ (r ∷ [])) (each Vi) (each Vc) (each Ve) (grown c.fe (each Fe));
    }
    by HeadKind = typed

-- ---- the file
-- what a record says is said by fields of bytes
record IsSaid {X : Type 0} (meaning : List Field → Result X RecordFault) (x : X) : Type 0 where
  fields : List Field
  bytes : AreOfBytes fields
  is : meaning fields ≡ Ok x

of_found : {X : Type 0} (meaning : List Field → Result X RecordFault) (found : Result FrameView FrameFault) (x : X) → FoundOfBytes found
    → (result_map_both (λ (frame : FrameView). frame.fields) of_frame found >>= meaning) ≡ Ok x → IsSaid meaning x
of_found meaning (Ok frame) x bytes is = record { fields = frame.fields; bytes = bytes; is = is }
of_found meaning (Err fault) x bytes is = absurd cc

said_is : {X : Type 0} (number : ℕ) (meaning : List Field → Result X RecordFault) (r : FileRecord) (x : X) → RecordIsOfBytes r
    → said_by number meaning r ≡ Ok x → IsSaid meaning x
said_is number meaning r x bytes is = of_found meaning r.found x bytes (unplaced (fault_at number r.offset) _ x is)

record IsSaidByNext {X : Type 0} (meaning : List Field → Result X RecordFault) (x : X × List FileRecord) : Type 0 where
  said : IsSaid meaning x.0
  others : AllByRecursion RecordIsOfBytes x.1

next_is : {X : Type 0} (number end : ℕ) (meaning : List Field → Result X RecordFault) (file : List FileRecord) (x : X × List FileRecord)
    → AllByRecursion RecordIsOfBytes file
    → said_by_next number end meaning file ≡ Ok x → IsSaidByNext meaning x
next_is number end meaning [] x bytes is = absurd cc
next_is number end meaning (r ∷ file) x bytes is =
    let said = mapped_ok (λ y. (y, file)) (said_by number meaning r) x is in
    subst (IsSaidByNext meaning) said.2 (record { said = said_is number meaning r said.0 bytes.0 said.1; others = bytes.1 })

stays_typed : (number : ℕ) (c d : Cell) (file : List FileRecord) → AllByRecursion RecordIsOfBytes file → HasItsTypes c
    → with_following number c file ≡ Ok d → HasItsTypes d
unfolding with_following
stays_typed number c d [] bytes typed is = let same : c ≡ d = cc in subst HasItsTypes same typed
stays_typed number c d (r ∷ file) bytes typed is =
    let said = step (said_by number (record_behind c) r) (λ rec. with_following (number + 1) (with_record rec c) file) d is in
    let found = said_is number (record_behind c) r said.0 bytes.0 said.1 in
    stays_typed (number + 1) (with_record said.0 c) d file bytes.1
    (with_kind (name_of said.0).kind said.0 c typed (behind_is_typed c found.fields said.0 found.bytes found.is)) said.2

pub decoded_has_its_types : DecodedHasItsTypes
decoded_has_its_types b c bytes is =
    let said = decoded_said b c is in
    let g = said.g.0 in
    let p = said.p.0 in
    let descriptive = next_is 1 (length b) Ok (file_records b) said.d (file_is_of_bytes b bytes) said.descriptive in
    let general = next_is 2 (length b) general_information said.d.1 said.g descriptive.others said.general in
    let geographic = next_is 3 (length b) geographic_reference said.g.1 said.p general.others said.geographic in
    let dsid = general_is_typed general.said.fields g general.said.bytes general.said.is in
    let dspm = geographic_is_typed geographic.said.fields p geographic.said.bytes geographic.said.is in
    stays_typed 4 (empty_cell (head_with g.0 g.1 p)) c said.p.1 geographic.others (head_is_typed g.0 g.1 p dsid dspm) said.following
