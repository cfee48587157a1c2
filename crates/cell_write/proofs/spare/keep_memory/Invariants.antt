use Rattle.std.proofs.Common.{◌≡◌, ◌+◌, vec_len}
use Rattle.cell_write.proofs.spare.keep_memory.Given as goal

abbrev pub invariant-loop-bytes : goal.invariant-loop-bytes
invariant-loop-bytes l = vec_len l.spare + vec_len l.fields ≡ vec_len l.initial.spare + vec_len l.fn.fields

abbrev pub decreases-loop-bytes : goal.decreases-loop-bytes
decreases-loop-bytes l = vec_len l.fields
