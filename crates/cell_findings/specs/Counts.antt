-- How many records of each kind a cell has.
use Rattle.std.specs.Prelude.{length}
use Rattle.s57_types.specs.declared.cell.Cell.{Cell}
use Rattle.cell_findings.specs.declared.text.RecordCounts.{RecordCounts}

abbrev pub counts_of : Cell → RecordCounts
counts_of c = record { vi = length c.vi; vc = length c.vc; ve = length c.ve; fe = length c.fe }
