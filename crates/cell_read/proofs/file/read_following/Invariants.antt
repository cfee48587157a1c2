use Rattle.std.proofs.Common.{◌≡◌, ◌≤◌, ◌+◌, ◌-◌, length, false}
use Rattle.file_spec.specs.CellRecords.{empty_cell}
use Rattle.file_spec.specs.FileRecords.{records_after}
use Rattle.file_spec.specs.DecodedCell.{with_following}
use Rattle.cell_read.specs.NamesSeen.{IsKnown}
use Rattle.cell_read.proofs.file.read_following.Given as goal

abbrev pub invariant-loop-at : goal.invariant-loop-at
invariant-loop-at l = record {
  known : IsKnown l.reading;
  within : l.at ≤ length l.bytes;
  small : length l.bytes ≤ 16777216;
  counted : l.number ≤ l.at + 4;
  walk : with_following l.number l.reading.cell (records_after l.bytes l.at false) ≡ with_following 4 (empty_cell l.fn.head)
      (records_after l.bytes l.start false);
}

abbrev pub decreases-loop-at : goal.decreases-loop-at
decreases-loop-at l = length l.bytes - l.at
