-- The numbers of a leader that was read.
use Rattle.std.specs.Prelude.{◌≡◌, ℕ, ◌+◌, ◌≤◌, List, length}
use Rattle.frame_spec.specs.RecordFrame.{length_at, base_at, length_size_at, position_size_at, count_at, IsDirectory}
use Rattle.iso_frame.specs.declared.leader.Leader.{Leader}

-- these are the numbers of the leader at p
pub record AreNumbers (b : List ℕ) (p : ℕ) (leader : Leader) : Type 0 where
  pub length_is : leader.length ≡ length_at b p
  pub base_is : leader.base ≡ base_at b p
  pub length_size_is : leader.length_size ≡ length_size_at b p
  pub position_size_is : leader.position_size ≡ position_size_at b p
  pub length_size_fits : leader.length_size ≤ 9
  pub position_size_fits : leader.position_size ≤ 9
  pub base_above : 25 ≤ leader.base
  pub base_within : leader.base ≤ leader.length

-- what is known of a record that was read
pub record IsRead (b : List ℕ) (p : ℕ) (leader : Leader) (count : ℕ) : Type 0 where
  pub numbers : AreNumbers b p leader
  pub fits : p + leader.length ≤ length b
  pub directory : IsDirectory b p
  pub count_is : count ≡ count_at b p
