-- A file for each fault, and files with two faults, of which the first counts.
use Rattle.std.specs.Prelude.{ℕ, List, [], ◌∷◌, ◌++◌, take, replicate, codes}
use Rattle.std.specs.List.{flat_map}
use Rattle.frame_spec.specs.RecordFrame.{Field}
use Rattle.file_samples.specs.SmallFiles.{AreDecoded, fault, field, number, dsid, dsid_of_bad_text, dssi, dspm, vrid, frid, foid, attributes}
use Rattle.file_samples.specs.SmallFiles.{bare_description, file, general, geographic, file_with, file_behind}

-- the bytes of one record of one field: 24 of leader, one entry of six, a terminator, and nine
abbrev pub node_record : List ℕ
node_record = codes "00040 D     00031   1104VRID90" ++ (30 ∷ 120 ∷ 1 ∷ 0 ∷ 0 ∷ 0 ∷ 1 ∷ 0 ∷ 1 ∷ 30 ∷ [])

-- a field SG2D of 112 points that stands in 112 entries, so that the record would take more than 99,999 bytes if it were
-- written again
abbrev pub overlapping_record : List ℕ
overlapping_record =
    codes "02061 D     01155   3304VRID009000" ++ flat_map (λ (entry : List ℕ). entry) (replicate 112 (codes "SG2D897009"))
    ++ (30 ∷ 120 ∷ 1 ∷ 0 ∷ 0 ∷ 0 ∷ 1 ∷ 0 ∷ 1 ∷ 30 ∷ [])
    ++ replicate 896 0 ++ (30 ∷ [])

abbrev pub text_fault : List ℕ → Field
text_fault tag = attributes tag 30

abbrev pub EachFaultIsFound : Type 0
EachFaultIsFound = AreDecoded (
    -- record cut short, or missing
    ([], fault 1 0 1) ∷ (bare_description, fault 2 25 1) ∷ (file (general ∷ []), fault 3 140 1) ∷ (
      file_behind (take 39 node_record),
      fault 4 198 1,
    ) ∷ (file_behind (take 23 node_record), fault 4 198 1) ∷
    -- leader fault, directory fault
    (file_behind (codes "00040 L     00031   1104VRID90" ++ (30 ∷ 120 ∷ 1 ∷ 0 ∷ 0 ∷ 0 ∷ 1 ∷ 0 ∷ 1 ∷ 30 ∷ [])), fault 4 198 2) ∷
    (file_behind (codes "00040 D     00031   1104VRID90" ++ (31 ∷ 120 ∷ 1 ∷ 0 ∷ 0 ∷ 0 ∷ 1 ∷ 0 ∷ 1 ∷ 30 ∷ [])), fault 4 198 3) ∷
    -- field doesn't parse
    (file_with ((vrid 120 1 1 ∷ field (codes "SG2D") (1 ∷ 2 ∷ 3 ∷ 4 ∷ 30 ∷ []) ∷ []) ∷ []), fault 4 198 4) ∷
    (file ((dsid 1 ∷ dssi 2 2 ∷ []) ∷ geographic ∷ []), fault 2 25 4) ∷
    -- missing field
    (file_with ((number ∷ number ∷ []) ∷ []), fault 4 198 5) ∷ (file_with ([] ∷ []), fault 4 198 5) ∷
    (file_with ((frid 1 1 ∷ []) ∷ []), fault 4 198 5) ∷ (file ((dsid 1 ∷ []) ∷ geographic ∷ []), fault 2 25 5) ∷
    -- repeated field
    (file_with ((vrid 120 1 1 ∷ attributes (codes "ATTV") 65 ∷ attributes (codes "ATTV") 65 ∷ []) ∷ []), fault 4 198 6) ∷
    (file_with ((frid 1 1 ∷ foid ∷ attributes (codes "NATF") 65 ∷ attributes (codes "ATTF") 65 ∷ attributes (codes "NATF") 65 ∷ []) ∷ []), fault 4 198 6) ∷
    (file ((dsid 1 ∷ dssi 2 0 ∷ dsid 1 ∷ []) ∷ geographic ∷ []), fault 2 25 6) ∷
    -- unexpected field: the leading one, and another
    (file_with ((number ∷ field (codes "CATD") (30 ∷ []) ∷ []) ∷ []), fault 4 198 7) ∷ (file_with ((foid ∷ frid 1 1 ∷ []) ∷ []), fault 4 198 7) ∷
    (file_with ((vrid 120 1 1 ∷ attributes (codes "ATTF") 65 ∷ []) ∷ []), fault 4 198 7) ∷
    (file_with ((vrid 130 1 1 ∷ field (codes "ARCC") (30 ∷ []) ∷ []) ∷ []), fault 4 198 7) ∷
    (file ((dsid 1 ∷ dssi 2 0 ∷ dspm ∷ []) ∷ geographic ∷ []), fault 2 25 7) ∷
    -- not a base cell, not chain-node topology
    (file ((dsid 2 ∷ dssi 2 0 ∷ []) ∷ geographic ∷ []), fault 2 25 8) ∷ (file_with ((vrid 120 1 2 ∷ []) ∷ []), fault 4 198 8) ∷
    (file_with ((frid 1 3 ∷ foid ∷ []) ∷ []), fault 4 198 8) ∷
    (file ((dsid 1 ∷ dssi 3 0 ∷ []) ∷ geographic ∷ []), fault 2 25 9) ∷
    -- duplicate record name
    (file_with ((vrid 120 1 1 ∷ []) ∷ (vrid 110 1 1 ∷ []) ∷ (vrid 120 1 1 ∷ []) ∷ []), fault 6 278 10) ∷
    -- head records out of order
    (file (geographic ∷ general ∷ []), fault 2 25 11) ∷ (file (general ∷ general ∷ []), fault 3 140 11) ∷
    (file (general ∷ (vrid 120 1 1 ∷ []) ∷ geographic ∷ []), fault 3 140 11) ∷
    (file_with (geographic ∷ []), fault 4 198 11) ∷ (file_with ((number ∷ dsid 1 ∷ dssi 2 0 ∷ []) ∷ []), fault 4 198 11) ∷
    -- control byte in a text
    (file_with ((vrid 120 1 1 ∷ text_fault (codes "ATTV") ∷ []) ∷ []), fault 4 198 12) ∷
    (file ((dsid_of_bad_text ∷ dssi 2 0 ∷ []) ∷ geographic ∷ []), fault 2 25 12) ∷ [])

-- files with the faults of two steps, one after the other, of which the first counts
abbrev pub FirstStepCounts : Type 0
FirstStepCounts = AreDecoded (
    -- the frame, and no field but the record identifier
    (file_behind (codes "00034 D     00031   1104000130" ++ (31 ∷ 1 ∷ 0 ∷ 30 ∷ [])), fault 4 198 3) ∷
    -- a foreign leading tag in the place of a head record
    (file ((field (codes "CATD") (30 ∷ []) ∷ []) ∷ geographic ∷ []), fault 2 25 7) ∷
    -- no field but the record identifier in the place of a head record
    (file ((number ∷ []) ∷ geographic ∷ []), fault 2 25 5) ∷
    -- a head record out of order, with a field that doesn't parse
    (file_with ((dspm ∷ dsid_of_bad_text ∷ []) ∷ []), fault 4 198 11) ∷ (file ((field (codes "DSPM") (30 ∷ []) ∷ []) ∷ []), fault 2 25 11) ∷
    -- a control byte in a text, and no FOID; a field that doesn't parse, and no DSSI
    (file_with ((frid 1 1 ∷ text_fault (codes "ATTF") ∷ []) ∷ []), fault 4 198 12) ∷ (file ((field (codes "DSID") (30 ∷ []) ∷ []) ∷ []), fault 2 25 4) ∷
    -- no FOID, and an update; no DSSI, and an update
    (file_with ((frid 1 2 ∷ []) ∷ []), fault 4 198 5) ∷ (file ((dsid 2 ∷ []) ∷ []), fault 2 25 5) ∷
    -- an update, and another topology
    (file ((dsid 2 ∷ dssi 3 0 ∷ []) ∷ []), fault 2 25 8) ∷
    -- an update, with a name that stood before
    (file_with ((vrid 120 1 1 ∷ []) ∷ (vrid 120 1 3 ∷ []) ∷ []), fault 5 238 8) ∷ [])

-- one field before the next, and for each field its tag, then its repetition, then its content
abbrev pub FirstFieldCounts : Type 0
FirstFieldCounts = AreDecoded (
    (file_with ((vrid 120 1 1 ∷ text_fault (codes "ATTV") ∷ foid ∷ []) ∷ []), fault 4 198 12) ∷
    (file_with ((vrid 120 1 1 ∷ foid ∷ text_fault (codes "ATTV") ∷ []) ∷ []), fault 4 198 7) ∷
    (file_with ((vrid 120 1 1 ∷ text_fault (codes "ATTV") ∷ field (codes "SG2D") [] ∷ []) ∷ []), fault 4 198 3) ∷
    (file_with ((vrid 120 1 1 ∷ text_fault (codes "ATTV") ∷ field (codes "SG2D") (1 ∷ []) ∷ []) ∷ []), fault 4 198 12) ∷
    (file_with ((vrid 120 1 1 ∷ field (codes "SG2D") (1 ∷ []) ∷ text_fault (codes "ATTV") ∷ []) ∷ []), fault 4 198 4) ∷
    (file_with ((vrid 120 1 1 ∷ foid ∷ foid ∷ []) ∷ []), fault 4 198 7) ∷
    (file_with ((vrid 120 1 1 ∷ attributes (codes "ATTV") 65 ∷ text_fault (codes "ATTV") ∷ []) ∷ []), fault 4 198 6) ∷
    (file_with ((vrid 120 1 1 ∷ text_fault (codes "ATTV") ∷ text_fault (codes "ATTV") ∷ []) ∷ []), fault 4 198 12) ∷
    (file_with ((number ∷ vrid 120 1 1 ∷ vrid 120 1 1 ∷ foid ∷ []) ∷ []), fault 4 198 6) ∷
    (file_with ((frid 1 1 ∷ attributes (codes "ATTF") 65 ∷ field (codes "ATTF") (1 ∷ []) ∷ []) ∷ []), fault 4 198 6) ∷ [])

-- the first record with a fault, before later ones
abbrev pub FirstRecordCounts : Type 0
FirstRecordCounts = AreDecoded (
    (file_with ((vrid 120 1 2 ∷ []) ∷ (foid ∷ []) ∷ []), fault 4 198 8) ∷
    (file_with ((vrid 120 1 1 ∷ []) ∷ (foid ∷ []) ∷ geographic ∷ []), fault 5 238 7) ∷
    (file ((dsid 1 ∷ dssi 1 0 ∷ []) ∷ []), fault 2 25 9) ∷
    (file_behind (node_record ++ codes "x"), fault 5 238 1) ∷ [])

-- a record that is too long when it is written again
abbrev pub OverlappingIsTooLong : Type 0
OverlappingIsTooLong = AreDecoded ((file_behind overlapping_record, fault 4 198 13) ∷ [])
