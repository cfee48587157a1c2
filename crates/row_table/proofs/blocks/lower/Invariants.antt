use Rattle.std.proofs.Common.{◌≡◌, ℕ, ◌+◌, ◌<◌, ◌≤◌, slice_index_or, vec_len, vec_capacity}
use Rattle.row_table.proofs.blocks.lower.Given as goal

abbrev pub invariant-loop-place : goal.invariant-loop-place
invariant-loop-place l = record {
  len : vec_len l.starts ≡ vec_len l.initial.starts;
  capacity : vec_capacity l.starts ≡ vec_capacity l.initial.starts;
  before : (k : ℕ) → k < l.from → slice_index_or l.starts.items k 0 ≡ slice_index_or l.initial.starts.items k 0;
  done : (k : ℕ) → l.from ≤ k → k < l.place → slice_index_or l.starts.items k 0 + 1 ≡ slice_index_or l.initial.starts.items k 0;
  rest : (k : ℕ) → l.place ≤ k → slice_index_or l.starts.items k 0 ≡ slice_index_or l.initial.starts.items k 0;
}
