-- Calls gone through in their order.
use Rattle.std.proofs.Common.{◌≡◌, ℕ, ◌+◌, ◌<◌, min, List, [], ◌∷◌, ◌++◌, length, take, drop, replicate, get_or, Bool, true, false, ◌==◌, ◌%◌}
use Rattle.std.proofs.Common.{if◌then◌else◌, refl, sym, ap, subst, ◌∙◌, arith, nat_le, length-append, length-drop, length-take, take-append-drop}
use Rattle.std.proofs.lemmas.List.{take_more, reverse-append, length-replicate}
use Rattle.std.proofs.lemmas.Bool.{leb-true}
use Rattle.crash_disk.specs.Disk.{Torn, overlaid}
use Rattle.crash_disk.specs.Calls.{are_within, filled, is_within, newest_first, read_after, IsImage}
use Rattle.crash_disk.specs.MemDisk.{both_true, picked_image, read_is_image, torn_by}
use Rattle.crash_disk.specs.declared.mem_disk.Call.{Call}
use Rattle.crash_disk.specs.declared.mem_disk.Call.TheVariants.{Idle, Wrote, Synced}

pub length-overlaid : (at : ℕ) (bytes old : List ℕ) → length (overlaid at bytes old) ≡ min at (length old) + length bytes + length
    (drop (at + length bytes) old)
length-overlaid at bytes old =
    omega (arith, length-append (take at old ++ bytes) (drop (at + length bytes) old), length-append (take at old) bytes, length-take at old)

-- one more of the calls in order
pub one_more : (calls : List Call) (i : ℕ) (d : Call) → i < length calls → newest_first (take (i + 1) calls) ≡ get_or calls i d ∷ newest_first (take i calls)
one_more calls i d lt = ap newest_first (take_more calls i d lt) ∙ reverse-append (take i calls) (get_or calls i d ∷ [])

-- the earlier calls of calls that begin within are such
pub within_front : (calls : List Call) → (others : List Call) → are_within (others ++ calls) ≡ true → are_within calls ≡ true
within_front calls [] within = within
within_front calls (call ∷ others) within = within_front calls others (both_true (is_within call (read_after (others ++ calls)))
    (are_within (others ++ calls)) within).1

-- so are the first of calls
pub within_up_to : (calls : List Call) (n : ℕ) → are_within (newest_first calls) ≡ true → are_within (newest_first (take n calls)) ≡ true
within_up_to calls n within =
    let cut : newest_first calls ≡ newest_first (drop n calls) ++ newest_first (take n calls) =
    ap newest_first (sym (take-append-drop n calls)) ∙ reverse-append (take n calls) (drop n calls) in
    within_front (newest_first (take n calls)) (newest_first (drop n calls)) (subst (λ (l : List Call). are_within l ≡ true) cut within)

-- filled and read, they have the same length
pub filled_length : (fill : ℕ) (calls : List Call) → length (filled fill calls) ≡ length (read_after calls)
filled_length fill [] = refl
filled_length fill (Idle ∷ calls) = filled_length fill calls
filled_length fill (Wrote at bytes ∷ calls) =
    omega (
      arith,
      filled_length fill calls,
      length-overlaid at bytes.items (read_after calls),
      length-overlaid at (replicate (length bytes.items) fill) (filled fill calls),
      length-replicate (length bytes.items) fill,
      length-drop (at + length bytes.items) (read_after calls),
      length-drop (at + length (replicate (length bytes.items) fill)) (filled fill calls),
    )
filled_length fill (Synced ∷ calls) = refl

same_within : (call : Call) (bytes others : List ℕ) → length bytes ≡ length others → is_within call bytes ≡ true → is_within call others ≡ true
same_within Idle bytes others same within = refl
same_within (Wrote at written) bytes others same within = subst (λ (n : ℕ). nat_le at n ≡ true) same within
same_within Synced bytes others same within = refl

-- a call in order begins within what a read gives before it, and within what is filled
module _ (calls : List Call) (i : ℕ) (d : Call) (fill : ℕ) (lt : i < length calls) (within : are_within (newest_first calls) ≡ true) where
  pub next_within : is_within (get_or calls i d) (read_after (newest_first (take i calls))) ≡ true
  next_within =
      let up_to = subst (λ (l : List Call). are_within l ≡ true) (one_more calls i d lt) (within_up_to calls (i + 1) within) in
      (both_true (is_within (get_or calls i d) (read_after (newest_first (take i calls)))) (are_within (newest_first (take i calls))) up_to).0

  pub next_within_filled : is_within (get_or calls i d) (filled fill (newest_first (take i calls))) ≡ true
  next_within_filled =
      same_within (get_or calls i d) (read_after (newest_first (take i calls))) (filled fill (newest_first (take i calls)))
      (sym (filled_length fill (newest_first (take i calls)))) next_within

pub filled_is_image : (fill : ℕ) (calls : List Call) → are_within calls ≡ true → IsImage calls (filled fill calls)
filled_is_image fill [] within = refl
filled_is_image fill (Idle ∷ calls) within = filled_is_image fill calls within
filled_is_image fill (Wrote at bytes ∷ calls) within =
    let both = both_true (is_within (Wrote at bytes) (read_after calls)) (are_within calls) within in
    let le = leb-true at (length (read_after calls)) both.0 in
    let torn = torn_by at (replicate (length bytes.items) fill) (filled fill calls) (omega (arith, le, filled_length fill calls)) in (
      filled fill calls,
      filled_is_image fill calls both.1,
      subst (λ (n : ℕ). Torn at n (filled fill calls) (overlaid at (replicate (length bytes.items) fill) (filled fill calls)))
          (length-replicate (length bytes.items) fill) torn,
    )
filled_is_image fill (Synced ∷ calls) within = refl

picked_by : (is_even : Bool) (fill : ℕ) (calls : List Call) → are_within calls ≡ true → IsImage calls (if is_even then read_after calls else filled fill calls)
picked_by true fill calls within = read_is_image calls within
picked_by false fill calls within = filled_is_image fill calls within

-- what is picked is an image
pub picked_is_image : (pick : ℕ) (calls : List Call) → are_within calls ≡ true → IsImage calls (picked_image pick calls)
picked_is_image pick calls within = picked_by (pick % 2 == 0) (pick % 256) calls within
