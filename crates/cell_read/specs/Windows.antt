-- The records of a file in windows, one after the other.
use Rattle.std.specs.Prelude.{◌≡◌, ◌≤◌, ◌+◌, ℕ, false, true, nat_le, All, List, [], ◌∷◌, None, Ok, Vec}
use Rattle.std.specs.Global.{Global}
use Rattle.std.specs.List.{flat_map}
use Rattle.frame_spec.specs.FrameDecision.{frame_at}
use Rattle.frame_spec.specs.RecordFrame.{FrameView}
use Rattle.s57_types.specs.RecordFields.{written_length, length_limit}
use Rattle.s57_types.specs.declared.cell.Cell.{Cell}
use Rattle.s57_types.specs.declared.name.Kind.TheVariants.{Head}
use Rattle.s57_types.specs.declared.record.Rec.{Rec}
use Rattle.cell_spec.specs.Lookup.{name_of}
use Rattle.cell_spec.specs.Names.{is_of_kind}
use Rattle.file_spec.specs.CellRecords.{with_record}
use Rattle.cell_read.specs.KeptRecords.{IsKeptOfSaid}
use Rattle.cell_read.specs.declared.threads.Window.{Window}
use Rattle.cell_read.specs.RecordsFrom.{following_fault, record_said}

-- windows from a place to another, one behind the other
abbrev pub AreWindows : ℕ → ℕ → List Window → Type 0
AreWindows from to [] = from ≡ to
AreWindows from to (window ∷ windows) = (window.from ≡ from) × (window.to ≤ to) × AreWindows window.to to windows

-- what is kept of the record of a frame
abbrev pub IsKeptOfFrame : ℕ → FrameView → Rec → Type 0
IsKeptOfFrame nall frame rec = IsKeptOfSaid nall rec (record_said nall frame.fields)

-- a record that isn't too long when it is written again
abbrev pub IsShort : ℕ → Rec → Type 0
IsShort nall rec = nat_le (written_length nall rec) length_limit ≡ true

-- what is kept of the records from a place to another, each behind the one before, none of which is too long
abbrev pub AreKeptFrom : ℕ → List ℕ → ℕ → ℕ → List Rec → Type 0
AreKeptFrom nall b from to [] = from ≡ to
AreKeptFrom nall b from to (rec ∷ recs) =
    (frame : FrameView) × (frame_at b from false ≡ Ok frame) × IsKeptOfFrame nall frame rec × IsShort nall rec
    × AreKeptFrom nall b (from + frame.length) to recs

-- a record that stands in the lists of a cell, and isn't too long when it is written again
abbrev pub IsListed : ℕ → Rec → Type 0
IsListed nall r = (is_of_kind Head (name_of r) ≡ false) × IsShort nall r

abbrev pub AreListed : ℕ → List Rec → Type 0
AreListed nall recs = All (IsListed nall) recs

-- the records of windows
abbrev pub records_in : List (Vec Rec Global) → List Rec
records_in windows = flat_map (λ (window : Vec Rec Global). window.items) windows

-- a cell, and what it is with some records behind its own, each of which may follow those before
abbrev pub AreAdded : Cell → List Rec → Cell → Type 0
AreAdded c [] d = d ≡ c
AreAdded c (r ∷ recs) d = (following_fault c r ≡ None) × AreAdded (with_record r c) recs d
