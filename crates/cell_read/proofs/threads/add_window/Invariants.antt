use Rattle.s57_types.specs.declared.cell.Cell.{Cell}
use Rattle.cell_read.specs.NamesSeen.{IsKnown}
use Rattle.cell_read.specs.Windows.{AreAdded, AreListed}
use Rattle.cell_read.proofs.threads.add_window.Given as goal

abbrev pub invariant-loop-rec : goal.invariant-loop-rec
invariant-loop-rec l = record {
  known : IsKnown l.reading;
  listed : AreListed l.reading.cell.head.nall l.rec-iterator.rest.items;
  added : (d : Cell) → AreAdded l.reading.cell l.rec-iterator.rest.items d → AreAdded l.fn.reading.cell l.fn.window.items d;
}
