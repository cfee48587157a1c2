-- A record of the values that were kept.
use Rattle.std.specs.Prelude.{◌≡◌, ℕ, false, nat_le, Result, Ok, Err}
use Rattle.s57_types.specs.RecordFields.{written_length, length_limit}
use Rattle.s57_types.specs.declared.record.Rec.{Rec}
use Rattle.cell_spec.specs.Lookup.{name_of}
use Rattle.file_spec.specs.declared.fault.RecordFault.{RecordFault}
use Rattle.cell_read.specs.Gives.{GivesRecord}
use Rattle.cell_read.specs.declared.refusal.RecordRefusal.{RecordRefusal}

-- it is the record that is said, or has its name where both are too long when they are written again
pub data IsKeptOf (nall : ℕ) (kept said : Rec) : Type 0 where
  same : kept ≡ said → IsKeptOf nall kept said
  long : name_of kept ≡ name_of said → nat_le (written_length nall kept) length_limit ≡ false
      → nat_le (written_length nall said) length_limit ≡ false → IsKeptOf nall kept said

abbrev pub IsKeptOfSaid : ℕ → Rec → Result Rec RecordFault → Type 0
IsKeptOfSaid nall kept (Ok said) = IsKeptOf nall kept said
IsKeptOfSaid nall kept (Err fault) = ⊥

-- what is kept of a record that is said, or its fault, unless memory ran out
abbrev pub GivesKept : ℕ → Result Rec RecordRefusal → Result Rec RecordFault → Type 0
GivesKept nall (Ok kept) said = IsKeptOfSaid nall kept said
GivesKept nall (Err refusal) said = GivesRecord {X = Rec} (Err refusal) said
