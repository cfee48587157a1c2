-- What a disk in memory shows, and that it is a disk. This project's own.
use Rattle.std.specs.Prelude.{◌≡◌, ◌⊎◌, ℕ, ◌+◌, ◌≤◌, ◌==◌, ◌%◌, ◌&&◌, Bool, true, false, nat_le, List, [], ◌∷◌, ◌++◌, length, take, drop}
use Rattle.std.specs.Prelude.{if◌then◌else◌, IsErr, OnErr, OnOk, Result, Vec}
use Rattle.std.proofs.Common.{inl, inr, arith, ◌∙◌, ap, refl, length-append, length-drop}
use Rattle.std.proofs.lemmas.Bool.{leb-true}
use Rattle.std.proofs.lemmas.List.{take_at, drop_at, length-take-le, append_assoc}
use Rattle.std.specs.declared.alloc.Global.{Global}
use Rattle.enc_outside.specs.Count.{Counts}
use Rattle.crash_disk.specs.Disk.{SameImages, Torn, overlaid}
use Rattle.crash_disk.specs.Calls.{newest_first, read_after, Goes, IsImage, LeftSince, are_within, AreKept, filled}
use Rattle.crash_disk.specs.declared.disk.DiskFailed.{DiskFailed}
use Rattle.crash_disk.specs.declared.mem_disk.Call.{Call}
use Rattle.crash_disk.specs.declared.mem_disk.Call.TheVariants.{Idle, Wrote, Synced}
use Rattle.crash_disk.specs.declared.mem_disk.MemDisk.{MemDisk}

-- its bytes
abbrev pub mem_bytes : MemDisk → List ℕ
mem_bytes disk = disk.bytes.items

-- its calls, the newest first
abbrev pub mem_calls : MemDisk → List Call
mem_calls disk = newest_first disk.calls.items

-- the calls of which there were so many, or all
abbrev pub calls_up_to : ℕ → MemDisk → List Call
calls_up_to count disk = newest_first (take count disk.calls.items)

-- the number of its next call, from 1, and of the call that is to fail
abbrev pub next_call : MemDisk → ℕ
next_call disk = length disk.calls.items + 1

abbrev pub failing_call : MemDisk → ℕ
failing_call disk = disk.failing

-- the next call is to fail
abbrev pub IsFailing : MemDisk → Type 0
IsFailing disk = next_call disk ≡ failing_call disk

-- how often a call failed
abbrev pub failed_calls : MemDisk → ℕ
failed_calls disk = disk.faults

-- the same bytes and calls
pub record IsSame (old new : MemDisk) : Type 0 where
  pub bytes : mem_bytes new ≡ mem_bytes old
  pub calls : mem_calls new ≡ mem_calls old
  pub faults : failed_calls new ≡ failed_calls old

-- the same bytes, and a call more that changed nothing, if there was memory to keep it
pub record IsIdle (old new : MemDisk) : Type 0 where
  pub bytes : mem_bytes new ≡ mem_bytes old
  pub calls : (mem_calls new ≡ Idle ∷ mem_calls old) ⊎ (mem_calls new ≡ mem_calls old)

-- a call that changes nothing was made: the same bytes and images, and time goes on. It fails where that was set, and where there was no memory to
-- keep it
pub record IsPassed {T : Type 0} (old new : MemDisk) (result : Result T DiskFailed) : Type 0 where
  pub same : mem_bytes new ≡ mem_bytes old
  pub images : SameImages (IsImage (mem_calls old)) (IsImage (mem_calls new))
  pub time : Goes (mem_calls old) (mem_calls new)
  pub faults : Counts (failed_calls old) (failed_calls new) result
  pub set : IsFailing old → IsErr result
  pub failing : failing_call new ≡ failing_call old
  pub calls : OnOk result (mem_calls new ≡ Idle ∷ mem_calls old)
  pub err : OnErr result (IsIdle old new)

-- bytes were written at a place, and that is kept
pub record IsWritten (at : ℕ) (bytes : List ℕ) (old new : MemDisk) : Type 0 where
  pub bytes_are : mem_bytes new ≡ overlaid at bytes (mem_bytes old)
  pub written : Vec ℕ Global
  pub written_are : written.items ≡ bytes
  pub calls : mem_calls new ≡ Wrote at written ∷ mem_calls old
  pub faults : failed_calls new ≡ failed_calls old

-- an image by a number: where it is even all that was written is there, where it is odd the ranges that weren't synced are filled with its low byte
abbrev pub picked_image : ℕ → List Call → List ℕ
picked_image pick calls = if pick % 2 == 0 then read_after calls else filled (pick % 256) calls

-- bytes that are written over others are one way in which the write may be torn
pub torn_by : (at : ℕ) (bytes old : List ℕ) → at ≤ length old → Torn at (length bytes) old (overlaid at bytes old)
torn_by at bytes old within =
    let front = length-take-le at old within in
    let pieces : overlaid at bytes old ≡ take at old ++ (bytes ++ drop (at + length bytes) old) = append_assoc (take at old) bytes
    (drop (at + length bytes) old) in
    let sizes = length-append (take at old) (bytes ++ drop (at + length bytes) old) in
    let behind = length-append bytes (drop (at + length bytes) old) in
    record {
      before = ap (λ (l : List ℕ). take at l) pieces ∙ take_at (take at old) (bytes ++ drop (at + length bytes) old) at front;
      after = drop_at (take at old ++ bytes) (drop (at + length bytes) old) (at + length bytes) (omega (arith, front, length-append (take at old) bytes));
      no_shorter = omega (arith, front, ap length pieces, sizes, behind, length-drop (at + length bytes) old);
      no_longer = omega (arith, front, ap length pieces, sizes, behind, length-drop (at + length bytes) old);
    }

pub both_true : (a b : Bool) → (a && b) ≡ true → (a ≡ true) × (b ≡ true)
both_true true b both = (refl, both)
both_true false b both = cc

pub read_is_image : (calls : List Call) → are_within calls ≡ true → IsImage calls (read_after calls)
read_is_image [] within = refl
read_is_image (Idle ∷ calls) within = read_is_image calls within
read_is_image (Wrote at bytes ∷ calls) within =
    let both = both_true (nat_le at (length (read_after calls))) (are_within calls) within in
    (read_after calls, read_is_image calls both.1, torn_by at bytes.items (read_after calls) (leb-true at (length (read_after calls)) both.0))
read_is_image (Synced ∷ calls) within = refl

-- what a disk of these bytes and calls gives to a read is an image
pub kept_is_image : (bytes : List ℕ) (calls : List Call) → AreKept bytes calls → IsImage calls bytes
kept_is_image bytes calls kept = let there = read_is_image calls kept.within in rw kept.bytes_are there

pub image_is_left : (calls : List Call) (t : ℕ) (image : List ℕ) → t ≤ length calls → IsImage calls image → LeftSince calls t image
image_is_left [] t image le is = is
image_is_left (call ∷ calls) t image le is = inl is

pub left_is_image : (calls : List Call) (image : List ℕ) → LeftSince calls (length calls) image → IsImage calls image
left_is_image [] image left = left
left_is_image (call ∷ calls) image (inl now) = now
left_is_image (call ∷ calls) image (inr earlier) = absurd (omega (arith, earlier.0))
