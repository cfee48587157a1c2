-- The half of a cut block that a key goes to.
use Rattle.std.proofs.Common.{◌≡◌, ℕ, suc, ◌+◌, ◌<◌, List, length, take, drop, ◌++◌, subst, arith, Ordering, true, false, append_assoc, take-append-drop}
use Rattle.std.proofs.Common.{length-drop}
use Rattle.std.specs.Cmp.{IsTotalOrder}
use Rattle.row_spec.specs.Rows.{IsAscending, begins_by}
use Rattle.row_spec.specs.Blocks.{joined, block_at, halved, IsBlockFor}
use Rattle.row_spec.proofs.Ascending.{IsAscending-right}
use Rattle.row_spec.proofs.Found.{below_block, above_from_begin}
use Rattle.row_spec.proofs.Joined.{joined_parted, joined-halved, length-halved, take-halved, drop-halved, drop-halved_next, block_at-halved_next}

module _ {K V : Type 0} (cmp : K → K → Ordering) (total : IsTotalOrder cmp) (blocks : List (List (K × V))) (key : K) (place : ℕ)
    (ascending : IsAscending cmp (joined blocks)) (found : IsBlockFor cmp blocks key place) (full : length (block_at blocks place) ≡ 256) where
  pub halved_upper : begins_by cmp (drop 128 (block_at blocks place)) key ≡ true → IsBlockFor cmp (halved blocks place) key (place + 1)
  halved_upper begins =
      let next : suc place ≡ place + 1 = omega arith in
      let in_range : suc place < length (halved blocks place) = omega (arith, length-halved blocks place found.in_range, found.in_range) in
      subst (IsBlockFor cmp (halved blocks place) key) next (record {
        in_range = in_range;
        below = below_block cmp total key (halved blocks place) (suc place) in_range (rw (joined-halved blocks place found.in_range) ascending)
            (rw (block_at-halved_next blocks place found.in_range) begins);
        above = rw (drop-halved_next blocks place found.in_range) found.above;
      })

  upper_ascending : IsAscending cmp (drop 128 (block_at blocks place) ++ joined (drop (suc place) blocks))
  upper_ascending =
      let back = IsAscending-right cmp (joined (take place blocks)) (block_at blocks place ++ joined (drop (suc place) blocks))
      (rw (← joined_parted blocks place found.in_range) ascending) in
      IsAscending-right cmp (take 128 (block_at blocks place)) (drop 128 (block_at blocks place) ++ joined (drop (suc place) blocks))
      (rw (
        ← append_assoc (take 128 (block_at blocks place)) (drop 128 (block_at blocks place)) (joined (drop (suc place) blocks)),
        take-append-drop 128 (block_at blocks place),
      ) back)

  pub halved_lower : begins_by cmp (drop 128 (block_at blocks place)) key ≡ false → IsBlockFor cmp (halved blocks place) key place
  halved_lower unbegun = record {
    in_range = omega (arith, length-halved blocks place found.in_range, found.in_range);
    below = rw (take-halved blocks place found.in_range) found.below;
    above = rw (drop-halved blocks place found.in_range) (above_from_begin cmp total key (drop 128 (block_at blocks place))
        (joined (drop (suc place) blocks)) upper_ascending (omega (arith, length-drop 128 (block_at blocks place), full)) unbegun);
  }
