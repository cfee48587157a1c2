-- The records of a file, one after the other (ISO/IEC 8211: a data descriptive record, then data records).
use Rattle.std.specs.Prelude.{ℕ, zero, suc, ◌+◌, ◌-◌, Bool, true, false, List, [], ◌∷◌, length, nat_le, Option, None, Result, Ok, Err, if◌then◌else◌}
use Rattle.std.specs.Option.{option_map}
use Rattle.std.specs.Result.{result_ok}
use Rattle.frame_spec.specs.RecordFrame.{FrameView}
use Rattle.frame_spec.specs.FrameDecision.{frame_at}
use Rattle.frame_spec.specs.declared.fault.FrameFault.{FrameFault}

-- where a record begins, and its frame or the frame's fault
pub record FileRecord : Type 0 where
  pub offset : ℕ
  pub found : Result FrameView FrameFault

-- behind a record come the others, behind a fault none
abbrev pub record_then : (FrameView → List FileRecord) → ℕ → Result FrameView FrameFault → List FileRecord
record_then others offset (Ok frame) = record { offset = offset; found = Ok frame } ∷ others frame
record_then others offset (Err fault) = record { offset = offset; found = Err fault } ∷ []

-- the records from a place on, of which the first may be the data descriptive record, and at most so many
unfoldable pub records_from : ℕ → List ℕ → ℕ → Bool → List FileRecord
records_from zero b place first = []
records_from (suc n) b place first =
    if nat_le (length b) place then [] else record_then (λ frame. records_from n b (place + frame.length) false) place (frame_at b place first)

-- the same up to the end of the file; each record has at least one byte
unfoldable pub records_after : List ℕ → ℕ → Bool → List FileRecord
records_after b place first = records_from (length b - place) b place first

-- the records of a file up to its end or to the first place where none stands
abbrev pub file_records : List ℕ → List FileRecord
file_records b = records_after b 0 true

-- the first of some records, if it is one, and the others
abbrev pub first_frame : List FileRecord → Option (FrameView × List FileRecord)
first_frame [] = None
first_frame (r ∷ records) = option_map (λ frame. (frame, records)) (result_ok r.found)
