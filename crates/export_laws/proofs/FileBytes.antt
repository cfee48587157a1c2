-- The fields of a file's records are bytes, as the file is.
use Rattle.std.proofs.Common.{◌≡◌, ℕ, zero, suc, ◌+◌, ◌-◌, ◌<◌, Bool, true, false, List, [], ◌∷◌, length, map, drop, nat_le, Result, MatchResult, Ok, Err}
use Rattle.std.proofs.Common.{refl, sym, subst}
use Rattle.std.specs.Prelude.{if◌then◌else◌}
use Rattle.std.specs.List.{AllByRecursion, range_with_len}
use Rattle.std.proofs.lemmas.List.Elements.{All-take, All-drop}
use Rattle.frame_spec.specs.RecordFrame.{Field, FrameView, RecordFrame, base_at, field_position, field_length, count_at, field_at}
use Rattle.frame_spec.specs.FrameDecision.{frame_at}
use Rattle.frame_spec.specs.FrameFaults.{HasFrameFault}
use Rattle.frame_spec.specs.declared.fault.FrameFault.{FrameFault}
use Rattle.frame_spec.proofs.FrameTests.{frame_decides}
use Rattle.file_spec.specs.FileRecords.{FileRecord, record_then, records_from, records_after, file_records}
use Rattle.export_laws.specs.DecodedTypes.{AreFileBytes}

abbrev pub IsOfBytes : Field → Type 0
IsOfBytes field = AreFileBytes field.bytes

abbrev pub AreOfBytes : List Field → Type 0
AreOfBytes = AllByRecursion IsOfBytes

-- a record that has a frame
abbrev pub FoundOfBytes : Result FrameView FrameFault → Type 0
FoundOfBytes (Ok frame) = AreOfBytes frame.fields
FoundOfBytes (Err fault) = Unit {0}

abbrev pub RecordIsOfBytes : FileRecord → Type 0
RecordIsOfBytes r = FoundOfBytes r.found

field_of_bytes : (b : List ℕ) (p k : ℕ) → AreFileBytes b → IsOfBytes (field_at b p k)
field_of_bytes b p k bytes =
    let from = p + base_at b p + field_position b p k in
    All-take (λ x. x < 256) ((from + field_length b p k) - from) (drop from b) (All-drop (λ x. x < 256) from b bytes)

each_field : (b : List ℕ) (p : ℕ) (places : List ℕ) → AreFileBytes b → AreOfBytes (map (field_at b p) places)
each_field b p [] bytes = tt
each_field b p (k ∷ places) bytes = (field_of_bytes b p k bytes, each_field b p places bytes)

frame_of_bytes : (b : List ℕ) (p : ℕ) (first : Bool) (frame : FrameView) → AreFileBytes b → frame_at b p first ≡ Ok frame → AreOfBytes frame.fields
frame_of_bytes b p first frame bytes is =
    let stands : RecordFrame b p first frame = subst (λ r. MatchResult r (RecordFrame b p first) (HasFrameFault b p first)) is (frame_decides b p first) in
    subst AreOfBytes (sym stands.fields_are) (each_field b p (range_with_len 0 (count_at b p)) bytes)

-- a record, and those behind it
with_others : (b : List ℕ) (place : ℕ) (first : Bool) (others : FrameView → List FileRecord) → AreFileBytes b
    → ((frame : FrameView) → AllByRecursion RecordIsOfBytes (others frame))
    → (r : Result FrameView FrameFault) → frame_at b place first ≡ r → AllByRecursion RecordIsOfBytes (record_then others place r)
with_others b place first others bytes behind (Ok frame) is = (frame_of_bytes b place first frame bytes is, behind frame)
with_others b place first others bytes behind (Err fault) is = (tt, tt)

up_to_end : (ended : Bool) (rs : List FileRecord) → AllByRecursion RecordIsOfBytes rs → AllByRecursion RecordIsOfBytes (if ended then [] else rs)
up_to_end true rs all = tt
up_to_end false rs all = all

records_of_bytes : (n : ℕ) (b : List ℕ) (place : ℕ) (first : Bool) → AreFileBytes b → AllByRecursion RecordIsOfBytes (records_from n b place first)
unfolding records_from
records_of_bytes zero b place first bytes = tt
records_of_bytes (suc n) b place first bytes =
    up_to_end (nat_le (length b) place) (record_then (λ frame. records_from n b (place + frame.length) false) place (frame_at b place first))
    (with_others b place first (λ frame. records_from n b (place + frame.length) false) bytes
    (λ frame. records_of_bytes n b (place + frame.length) false bytes) (frame_at b place first) refl)

pub file_is_of_bytes : (b : List ℕ) → AreFileBytes b → AllByRecursion RecordIsOfBytes (file_records b)
unfolding records_after
file_is_of_bytes b bytes = records_of_bytes (length b - 0) b 0 true bytes
