use Rattle.s57_types.specs.declared.cell.Cell.{Cell}
use Rattle.file_spec.specs.CellRecords.{empty_cell}
use Rattle.cell_read.specs.NamesSeen.{IsKnown}
use Rattle.cell_read.specs.Windows.{AreAdded, AreListed, records_in}
use Rattle.cell_read.proofs.threads.joined.Given as goal

abbrev pub invariant-loop-window : goal.invariant-loop-window
invariant-loop-window l = record {
  known : IsKnown l.reading;
  listed : AreListed l.reading.cell.head.nall (records_in l.window-iterator.rest.items);
  added : (d : Cell) → AreAdded l.reading.cell (records_in l.window-iterator.rest.items) d → AreAdded (empty_cell l.fn.head) (records_in l.fn.windows.items) d;
}
