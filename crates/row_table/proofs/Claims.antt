-- What the blocks claim of the reserve where a run has other rows.
use Rattle.std.proofs.Common.{◌≡◌, ℕ, ◌+◌, ◌-◌, ◌<◌, List, length, set, get_or, ap, arith}
use Rattle.row_spec.specs.Rows.{Run}
use Rattle.row_spec.specs.Blocks.{claim_of, rows_of}
use Rattle.row_spec.proofs.Joined.{claim_of-set}
use Rattle.row_spec.proofs.Runs.{block_at-rows_of}

pub claim_set : {K V : Type 0} (runs : List (Run K V)) (place : ℕ) (run put : Run K V) → place < length (rows_of runs) → run ≡ get_or runs place run
    → claim_of (set (rows_of runs) place put.rows) + (length run.rows - 128) ≡ claim_of (rows_of runs) + (length put.rows - 128)
claim_set runs place run put within is =
    omega (arith, ap length (block_at-rows_of runs place within run is), claim_of-set (rows_of runs) place put.rows within)
