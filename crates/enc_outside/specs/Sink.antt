-- How much a write took.
use Rattle.std.specs.Prelude.{ℕ, ◌≤◌, List, length}

-- a number of bytes that was taken of those given
pub record Took (bytes : List ℕ) (n : ℕ) : Type 0 where
  pub some : 1 ≤ n
  pub most : n ≤ length bytes
