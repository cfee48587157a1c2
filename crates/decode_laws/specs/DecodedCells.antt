-- A cell that a file stands for can be written.
use Rattle.std.specs.Prelude.{◌≡◌, ℕ, List, Ok}
use Rattle.s57_types.specs.declared.cell.Cell.{Cell}
use Rattle.cell_spec.specs.Writable.{IsWritable}
use Rattle.file_spec.specs.DecodedCell.{decoded_cell}

abbrev pub DecodedIsWritable : Type 0
DecodedIsWritable = (b : List ℕ) (c : Cell) → decoded_cell b ≡ Ok c → IsWritable c
