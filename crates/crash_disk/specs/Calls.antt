-- The calls of a disk in memory, and what they leave. This project's own.
use Rattle.std.specs.Prelude.{◌≡◌, ◌⊎◌, ℕ, ◌≤◌, ◌&&◌, Bool, true, nat_le, List, [], ◌∷◌, length, reverse, replicate}
use Rattle.crash_disk.specs.Disk.{Elapses, Torn, overlaid}
use Rattle.crash_disk.specs.declared.mem_disk.Call.{Call}
use Rattle.crash_disk.specs.declared.mem_disk.Call.TheVariants.{Idle, Wrote, Synced}

-- calls that are kept in their order, the newest first
abbrev pub newest_first : List Call → List Call
newest_first = reverse

-- a write begins within the bytes, or at their end
abbrev pub is_within : Call → List ℕ → Bool
is_within Idle bytes = true
is_within (Wrote at written) bytes = nat_le at (length bytes)
is_within Synced bytes = true

-- what a read gives after a call
abbrev pub read_by : Call → List ℕ → List ℕ
read_by Idle bytes = bytes
read_by (Wrote at written) bytes = overlaid at written.items bytes
read_by Synced bytes = bytes

-- what a crash after a call may leave
abbrev pub IsImageBy : Call → List ℕ → (List ℕ → Type 0) → List ℕ → Type 0
IsImageBy Idle bytes images image = images image
IsImageBy (Wrote at written) bytes images image = (earlier : List ℕ) × images earlier × Torn at (length written.items) earlier image
IsImageBy Synced bytes images image = image ≡ bytes

-- what a crash leaves where every range that wasn't synced is filled with one byte
abbrev pub filled_by : ℕ → Call → List ℕ → List ℕ → List ℕ
filled_by fill Idle bytes image = image
filled_by fill (Wrote at written) bytes image = overlaid at (replicate (length written.items) fill) image
filled_by fill Synced bytes image = bytes

-- the same after calls, of which the newest comes first
abbrev pub read_after : List Call → List ℕ
read_after [] = []
read_after (call ∷ calls) = read_by call (read_after calls)

abbrev pub are_within : List Call → Bool
are_within [] = true
are_within (call ∷ calls) = is_within call (read_after calls) && are_within calls

abbrev pub IsImage : List Call → List ℕ → Type 0
IsImage [] image = image ≡ []
IsImage (call ∷ calls) image = IsImageBy call (read_after calls) (IsImage calls) image

abbrev pub filled : ℕ → List Call → List ℕ
filled fill [] = []
filled fill (call ∷ calls) = filled_by fill call (read_after calls) (filled fill calls)

-- what a crash at some moment since there were so many calls may have left
abbrev pub LeftSince : List Call → ℕ → List ℕ → Type 0
LeftSince [] t image = IsImage [] image
LeftSince (call ∷ calls) t image = IsImage (call ∷ calls) image ⊎ ((t ≤ length calls) × LeftSince calls t image)

-- the bytes are those that a read gives after the calls
pub record AreKept (bytes : List ℕ) (calls : List Call) : Type 0 where
  pub bytes_are : bytes ≡ read_after calls
  pub within : are_within calls ≡ true

-- time goes on from calls to calls
abbrev pub Goes : List Call → List Call → Type 0
Goes old new = Elapses (length old) (length new) (LeftSince old) (LeftSince new) (IsImage new)
