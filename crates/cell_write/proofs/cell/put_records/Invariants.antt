use Rattle.std.proofs.Common.{◌≡◌, ◌+◌, ◌++◌, drop}
use Rattle.file_spec.specs.EncodedCell.{records_bytes}
use Rattle.cell_write.proofs.cell.put_records.Given as goal

abbrev pub invariant-loop-rec : goal.invariant-loop-rec
invariant-loop-rec l = record {
  number : l.number ≡ l.first + l.rec-index;
  rest : l.out.items ++ records_bytes l.nall l.number (drop l.rec-index l.records) ≡ l.initial.out.items ++ records_bytes l.nall l.first l.records;
}
