-- Where a key stands among sorted keys. This project's own.
use Rattle.std.specs.Prelude.{◌≡◌, ℕ, ◌<◌, ◌≤◌, true, false, List, length, slice_index_or}
use Rattle.std.specs.declared.cmp.Ordering.{Ordering}
use Rattle.std.specs.Ordering.{is_lt, is_le}

-- up to the first place stand the keys below the key, from there to the last place those that tie with it, and from there on those above it
pub record IsSpan {K : Type 0} (by_key : K → K → Ordering) (key : K) (keys : List K) (from to : ℕ) : Type 0 where
  pub below : (i : ℕ) (d : K) → i < from → is_lt (by_key (slice_index_or keys i d) key) ≡ true
  pub not_below : (i : ℕ) (d : K) → from ≤ i → i < length keys → is_lt (by_key (slice_index_or keys i d) key) ≡ false
  pub not_above : (i : ℕ) (d : K) → i < to → is_le (by_key (slice_index_or keys i d) key) ≡ true
  pub above : (i : ℕ) (d : K) → to ≤ i → i < length keys → is_le (by_key (slice_index_or keys i d) key) ≡ false
