-- How one call more goes on.
use Rattle.std.proofs.Common.{◌≡◌, ◌⊎◌, inl, inr, ℕ, List, ◌∷◌, length, refl, sym, subst, arith}
use Rattle.crash_disk.specs.Disk.{Follows, SameImages, Torn}
use Rattle.crash_disk.specs.Calls.{Goes, IsImage}
use Rattle.crash_disk.specs.MemDisk.{IsIdle, IsSame, IsWritten, mem_bytes, mem_calls}
use Rattle.crash_disk.specs.declared.mem_disk.Call.{Call}
use Rattle.crash_disk.specs.declared.mem_disk.Call.TheVariants.{Idle, Wrote}
use Rattle.crash_disk.specs.declared.mem_disk.MemDisk.{MemDisk}

pub goes_same : (calls : List Call) → Goes calls calls
goes_same calls = record { later = omega arith; nothing_else = λ t image le left. inl left; keeps = λ t image le left. left }

pub goes_on : (call : Call) (calls : List Call) → Goes calls (call ∷ calls)
goes_on call calls = record {
  later = omega arith;
  nothing_else = λ t image le left. elim left [ inl now ↦ inr now | inr earlier ↦ inl earlier.1 ];
  keeps = λ t image le left. inr (le, left);
}

pub torn_nothing : (at n : ℕ) (bytes : List ℕ) → Torn at n bytes bytes
torn_nothing at n bytes = record { before = refl; after = refl; no_shorter = omega arith; no_longer = omega arith }

pub same_images : (calls : List Call) → SameImages (IsImage calls) (IsImage calls)
same_images calls = record { no_more = λ image is. is; no_less = λ image is. is }

module _ (old new : MemDisk) (idle : IsIdle old new) where
  by_calls : (P : List Call → Type 0) → P (Idle ∷ mem_calls old) → P (mem_calls old) → P (mem_calls new)
  by_calls P counted same = elim idle.calls [ inl more ↦ subst P (sym more) counted | inr alike ↦ subst P (sym alike) same ]

  pub idle_images : SameImages (IsImage (mem_calls old)) (IsImage (mem_calls new))
  idle_images = by_calls (λ calls. SameImages (IsImage (mem_calls old)) (IsImage calls)) (same_images (mem_calls old)) (same_images (mem_calls old))

  pub idle_goes : Goes (mem_calls old) (mem_calls new)
  idle_goes = by_calls (λ calls. Goes (mem_calls old) calls) (goes_on Idle (mem_calls old)) (goes_same (mem_calls old))

  pub idle_torn : (at n : ℕ) → Torn at n (mem_bytes old) (mem_bytes new)
  idle_torn at n = rw idle.bytes (torn_nothing at n (mem_bytes old))

  pub idle_follows : (at n : ℕ) → Follows (Torn at n) (IsImage (mem_calls old)) (IsImage (mem_calls new))
  idle_follows at n image is = (image, idle_images.no_more image is, torn_nothing at n image)

pub same_then_idle : (old mid new : MemDisk) → IsSame old mid → IsIdle mid new → IsIdle old new
same_then_idle old mid new same idle = record {
  bytes = cc (idle.bytes, same.bytes);
  calls = subst (λ (calls : List Call). (mem_calls new ≡ Idle ∷ calls) ⊎ (mem_calls new ≡ calls)) same.calls idle.calls;
}

module _ (at : ℕ) (bytes : List ℕ) (old new : MemDisk) (is : IsWritten at bytes old new) where
  pub written_goes : Goes (mem_calls old) (mem_calls new)
  written_goes = subst (λ (calls : List Call). Goes (mem_calls old) calls) (sym is.calls) (goes_on (Wrote at is.written) (mem_calls old))

  pub written_follows : Follows (Torn at (length bytes)) (IsImage (mem_calls old)) (IsImage (mem_calls new))
  written_follows image left =
      let there = subst (λ (calls : List Call). IsImage calls image) is.calls left in
      (there.0, there.1, subst (λ (l : List ℕ). Torn at (length l) there.0 image) is.written_are there.2)
