-- What a writer keeps of the lengths of a record's fields.
use Rattle.std.specs.Prelude.{◌≡◌, ◌≤◌, ◌-◌, ℕ, List, length, take, fold, max, sum}
use Rattle.frame_spec.specs.WrittenRecord.{length_digits, position_digits, base_address, record_length}
use Rattle.frame_write.specs.declared.layout.Sizes.{Sizes}
use Rattle.frame_write.specs.declared.layout.Layout.{Layout}

pub record IsSizesOf (lengths : List ℕ) (sizes : Sizes) : Type 0 where
  pub longest_is : sizes.longest ≡ fold max 0 lengths
  pub last_is : sizes.last_begins ≡ sum (take (length lengths - 1) lengths)
  pub total_is : sizes.total ≡ sum lengths
  pub longest_in : sizes.longest ≤ sizes.total
  pub last_in : sizes.last_begins ≤ sizes.total
  pub small : sizes.total ≤ 99999

pub record IsLayoutOf (lengths : List ℕ) (layout : Layout) : Type 0 where
  pub length_digits_are : layout.length_digits ≡ length_digits lengths
  pub position_digits_are : layout.position_digits ≡ position_digits lengths
  pub base_is : layout.base_address ≡ base_address lengths
  pub length_is : layout.length ≡ record_length lengths
  pub few_length_digits : layout.length_digits ≤ 5
  pub few_position_digits : layout.position_digits ≤ 5
  pub short : layout.length ≤ 99999
