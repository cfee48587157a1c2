-- The cells that can be looked into. This project's own rule.
use Rattle.std.specs.Prelude.{◌≡◌, ◌≤◌, length, map, None}
use Rattle.std.specs.List.{All, IsDistinct}
use Rattle.s57_types.specs.declared.cell.Cell.{Cell}
use Rattle.s57_types.specs.Fitness.{unfitness}
use Rattle.cell_spec.specs.Lookup.{all_records, name_of}
use Rattle.cell_spec.specs.Names.{same_name}
use Rattle.cell_spec.specs.Writable.{IsWritable}

-- no two records have one name; there are at most as many records as a full cell has with 4,096 more; and each record can be written at
-- the cell's lexical level NALL
pub record IsReadable (c : Cell) : Type 0 where
  pub distinct : IsDistinct same_name (map name_of (all_records c))
  pub count : length (all_records c) ≤ 266240
  pub fit : All (λ r. unfitness c.head.nall r ≡ None) (all_records c)

-- a cell that can be written can be looked into
abbrev pub WritableCellsAreReadable : Type 0
WritableCellsAreReadable = (c : Cell) → IsWritable c → IsReadable c
