-- The number and the line of each status. This project's own.
use Rattle.std.specs.Prelude.{ℕ, List, [], ◌∷◌, codes}
use Rattle.std.specs.Fmt.{decimal}
use Rattle.history_spec.specs.ReportText.{refusal_words}
use Rattle.s57_types.specs.declared.fault.CellFault.{CellFault}
use Rattle.text_spec.specs.Lines.{line}
use Rattle.report_text.specs.declared.status.Status.{Status}
use Rattle.report_text.specs.declared.status.Status.TheVariants.{Done, Usage, Absent, BadCell, BadScript, ReadFault, WriteFault, TooLarge, NoMemory}
use Rattle.report_text.specs.declared.status.Status.TheVariants.{BadOrder, Stuck, TooManyFindings, BadUpdate, Refused, BadJournal, DiskFault, OpRefused}
use Rattle.report_text.specs.declared.status.Status.TheVariants.{JournalFull}

-- the exit status; 1 is left to the runtime
abbrev pub status_number : Status → ℕ
status_number Done = 0
status_number Usage = 2
status_number (Absent name) = 3
status_number (BadCell fault) = 4
status_number (BadScript session place code) = 5
status_number (ReadFault name) = 6
status_number WriteFault = 7
status_number (TooLarge name) = 8
status_number NoMemory = 9
status_number (BadOrder place) = 10
status_number (Stuck desk serial) = 11
status_number TooManyFindings = 12
status_number (BadUpdate fault) = 14
status_number (Refused refusal) = 15
status_number (BadJournal place) = 16
status_number DiskFault = 17
status_number (OpRefused cause) = 18
status_number (JournalFull count) = 19

-- the words of a fault of a cell or of an update
abbrev pub fault_words : CellFault → List (List ℕ)
fault_words fault = codes "record" ∷ decimal fault.number ∷ codes "offset" ∷ decimal fault.offset ∷ codes "code" ∷ decimal fault.code ∷ []

-- the line on the error output, or nothing where all is done
abbrev pub status_line : Status → List ℕ
status_line Done = []
status_line Usage = line (codes "enc_cell: usage") []
status_line (Absent name) = line (codes "enc_cell: absent") (name ∷ [])
status_line (BadCell fault) = line (codes "enc_cell: bad cell") (fault_words fault)
status_line (BadScript session place code) = line (codes "enc_cell: bad script")
    (codes "session" ∷ decimal session ∷ codes "line" ∷ decimal place ∷ codes "code" ∷ decimal code ∷ [])
status_line (ReadFault name) = line (codes "enc_cell: read fault") (name ∷ [])
status_line WriteFault = line (codes "enc_cell: write fault") []
status_line (TooLarge name) = line (codes "enc_cell: too large") (name ∷ [])
status_line NoMemory = line (codes "enc_cell: no memory") []
status_line (BadOrder place) = line (codes "enc_cell: bad order") (codes "place" ∷ decimal place ∷ [])
status_line (Stuck desk serial) = line (codes "enc_cell: stuck") (codes "desk" ∷ decimal desk ∷ codes "serial" ∷ decimal serial ∷ [])
status_line TooManyFindings = line (codes "enc_cell: too many findings") []
status_line (BadUpdate fault) = line (codes "enc_cell: bad update") (fault_words fault)
status_line (Refused refusal) = line (codes "enc_cell: refused") (refusal_words refusal)
status_line (BadJournal place) = line (codes "enc_cell: bad journal") (codes "place" ∷ decimal place ∷ [])
status_line DiskFault = line (codes "enc_cell: disk fault") []
status_line (OpRefused cause) = line (codes "enc_cell: op") (codes "refused" ∷ decimal cause ∷ [])
status_line (JournalFull count) = line (codes "enc_cell: journal") (codes "full" ∷ decimal count ∷ [])
